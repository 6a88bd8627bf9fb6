-- A day's column: nurse i as bit i, from 0. The columns show a choice of slots when each bit says whether the nurse counts.
use Rattle.std.specs.Prelude.{◌≡◌, Bool, false, List, ℕ, suc, ◌≤◌, ◌<◌, get_or}
use Rattle.numbers.specs.Digits.{has, put}
use Rattle.fields.specs.Fields.{nurses, days}
use Rattle.rows.specs.Pairs.{free_on}
use Rattle.penalty.specs.declared.columns.Columns.{Columns}
use Rattle.history.specs.declared.Search.{Search}
use Rattle.history.specs.declared.Search.TheVariants.{Nights, Days}
use Rattle.history.specs.Slot.{Slot}
use Rattle.penalty.specs.Penalty.{at_night, available_in, at_day}

-- those of night and of day
abbrev pub columns_of : List ℕ → List ℕ → Columns
columns_of night day = record { night = night; day = day }

-- f is `on` below m, and false from m on
pub record Same (m : ℕ) (f on : ℕ → Bool) : Type 0 where
  pub above : (i : ℕ) → m ≤ i → f i ≡ false
  pub bits : (i : ℕ) → i < m → f i ≡ on i

-- by night: the first m nurses on their N days in the night columns, and where they are available in the day columns
pub record ShownNight (w : List ℕ) (slots : ℕ → Slot) (m : ℕ) (c : Columns) : Type 0 where
  pub night_shown : (d : ℕ) → d < days w → Same m (has (get_or c.night d 0)) (at_night w slots d)
  pub available_shown : (d : ℕ) → d < days w → Same m (has (get_or c.day d 0)) (available_in w slots d)

-- by day: the first m nurses on their worked days, in the day columns
pub record ShownDay (w : List ℕ) (slots : ℕ → Slot) (m : ℕ) (c : Columns) : Type 0 where
  pub day_shown : (d : ℕ) → d < days w → Same m (has (get_or c.day d 0)) (at_day w slots d)

-- by night or by day
abbrev pub Shown : Search → List ℕ → (ℕ → Slot) → ℕ → Columns → Type 0
Shown Nights w slots m c = ShownNight w slots m c
Shown Days w slots m c = ShownDay w slots m c

-- all nurses
abbrev pub Shows : Search → List ℕ → (ℕ → Slot) → Columns → Type 0
Shows which w slots c = Shown which w slots (nurses w) c

-- the two columns of the day of index d show the slots; by day only the day's
abbrev pub DayShows : Search → List ℕ → (ℕ → Slot) → ℕ → ℕ → ℕ → Type 0
DayShows Nights w slots d night day = Same (nurses w) (has night) (at_night w slots d) × Same (nurses w) (has day) (available_in w slots d)
DayShows Days w slots d night day = Same (nurses w) (has day) (at_day w slots d)

-- of a month, where each day's two columns are those that a call gives
abbrev pub AllShow : (ℕ → ℕ × ℕ → Type 0) → Search → List ℕ → (ℕ → Slot) → Type 0
AllShow gives which w slots = (d : ℕ) (c : ℕ × ℕ) → d < days w → gives d c → DayShows which w slots d c.0 c.1

-- nobody on any day
pub record Empty (c : Columns) : Type 0 where
  pub no_nights : (d : ℕ) → get_or c.night d 0 ≡ 0
  pub no_days : (d : ℕ) → get_or c.day d 0 ≡ 0

-- column d of r is that of l with bit i as in the set
abbrev pub PutAt : List ℕ → List ℕ → ℕ → ℕ → ℕ → Type 0
PutAt l r i set d = has (get_or r d 0) ≡ put (has (get_or l d 0)) i (has set d)

-- the columns r are those of c, with nurse i on in the first n days as the two sets say
pub record NursePut (c r : Columns) (n i nights available : ℕ) : Type 0 where
  pub night_put : (d : ℕ) → d < n → PutAt c.night r.night i nights d
  pub day_put : (d : ℕ) → d < n → PutAt c.day r.day i available d

-- the set of the days on which nurse i is available under the pattern p
abbrev pub FreeUnder : List ℕ → ℕ → ℕ → ℕ → Type 0
FreeUnder w i p set = (d : ℕ) → d < days w → has set d ≡ free_on w i p (suc d)
