-- What one member more and one fewer change, and what a nurse's days cost by them.
use Rattle.std.specs.Prelude.{◌≡◌, Bool, true, false, cond, List, ℕ, ◌+◌, ◌-◌, ◌*◌, ◌%◌, ◌≤◌, ◌<◌, length, get_or}
use Rattle.numbers.specs.Sum.{sum_to, count_to, Is}
use Rattle.numbers.specs.Digits.{has, put}
use Rattle.fields.specs.Fields.{days, member_sets, needs, need, low, high}
use Rattle.history.specs.declared.Search.{Search}
use Rattle.history.specs.declared.Search.TheVariants.{Nights, Days}
use Rattle.penalty.specs.Weights.{Weights, Light}
use Rattle.penalty.specs.CodeCounts.{weights_of, no_high, members_in, duty_cost}
use Rattle.tables.specs.CodeTables.{night_on, open_on, none_on}
use Rattle.margins.specs.declared.sides.Side.{Side}

-- ---- one condition

-- what bounds cost with x members
unfoldable pub bounds_cost : Weights → ℕ → ℕ → ℕ → ℕ
bounds_cost wt low high x = wt.u * (low - x) + wt.v * (x - high)

-- a need is a low of all nurses
abbrev pub as_low : Weights → Weights
as_low wt = record { w = wt.w; u = wt.w; v = 0 }

-- where x count: m and f are 100 more than what one more and one fewer change
pub record Margin (cost : ℕ → ℕ) (x m f : ℕ) : Type 0 where
  pub more_is : m + cost x ≡ 100 + cost (x + 1)
  pub fewer_is : (y : ℕ) → x ≡ y + 1 → f + cost x ≡ 100 + cost y

-- ---- the places of a duty: 64 for each group, then for all nurses, then for what each day costs as it stands

-- the margins are small enough to be added up
pub record Slight (part : List ℕ) : Type 0 where
  pub slight : (e : ℕ) → e < 1088 → get_or part e 0 ≤ 200

-- one condition's margins are put at a place and 32 after it
pub record MarginPut (l r : List ℕ) (at : ℕ) (cost : ℕ → ℕ) (x : ℕ) : Type 0 where
  pub margin : Margin cost x (get_or r at 0) (get_or r (at + 32) 0)
  pub others : (e : ℕ) → (e ≡ at → ⊥) → (e ≡ at + 32 → ⊥) → get_or r e 0 ≡ get_or l e 0

-- those of group g on the day of index d
abbrev pub GroupMargin : Weights → List ℕ → List ℕ → ℕ → ℕ → List ℕ → ℕ → ℕ → Type 0
GroupMargin wt sets needs k column part d g =
    Margin (bounds_cost wt (low needs k g) (high needs k g)) (members_in sets (has column) g) (get_or part (64 * g + d) 0) (get_or part (64 * g + d + 32) 0)

-- those of every group on the day of index d; the places of other days stay
pub record GroupsPut (wt : Weights) (sets needs : List ℕ) (k column d : ℕ) (l r : List ℕ) : Type 0 where
  pub groups : (g : ℕ) → g < length sets → GroupMargin wt sets needs k column r d g
  pub others : (e : ℕ) → (e % 32 ≡ d → ⊥) → get_or r e 0 ≡ get_or l e 0

-- all conditions of the day of index d, and what it costs
pub record DayMargins (wt : Weights) (sets needs : List ℕ) (k column : ℕ) (part : List ℕ) (d : ℕ) : Type 0 where
  pub groups : (g : ℕ) → g < length sets → GroupMargin wt sets needs k column part d g
  pub everyone : Margin (bounds_cost (as_low wt) (need needs k) 0) (count_to 64 (has column)) (get_or part (1024 + d) 0) (get_or part (1024 + d + 32) 0)
  pub standing : Is (get_or part (1088 + d) 0) (duty_cost wt sets needs k (has column)) 185600

pub record DayPut (wt : Weights) (sets needs : List ℕ) (k column d : ℕ) (l r : List ℕ) : Type 0 where
  pub day : DayMargins wt sets needs k column r d
  pub others : (e : ℕ) → (e % 32 ≡ d → ⊥) → get_or r e 0 ≡ get_or l e 0

-- every day of the month
pub record MarginsOf (w : List ℕ) (wt : Weights) (k : ℕ) (cols part : List ℕ) : Type 0 where
  pub each : (d : ℕ) → d < days w → DayMargins wt (member_sets w) (needs w d) k (get_or cols d 0) part d

-- of some duty
pub record SomeMargins (w cols part : List ℕ) : Type 0 where
  pub weights : Weights
  pub duty : ℕ
  pub light : Light weights
  pub margins : MarginsOf w weights duty cols part

-- by night of both duties, day highs ignored; by day of the day's
pub record NightMargins (w night day of_night of_day : List ℕ) : Type 0 where
  pub night_margins : MarginsOf w (weights_of w 0) 0 night of_night
  pub day_margins : MarginsOf w (no_high (weights_of w 1)) 1 day of_day

abbrev pub SearchMargins : Search → List ℕ → List ℕ → List ℕ → List ℕ → List ℕ → Type 0
SearchMargins Nights w night day of_night of_day = NightMargins w night day of_night of_day
SearchMargins Days w night day of_night of_day = MarginsOf w (weights_of w 1) 1 day of_day

-- ---- a nurse's two sides of a duty

-- the row from a place on, whose margins are small, is added
pub record RowAdded (part : List ℕ) (from : ℕ) (l r : List ℕ) : Type 0 where
  pub long : length r ≡ 64
  pub small : (e : ℕ) → e < 64 → get_or part (from + e) 0 ≤ 200
  pub added : (e : ℕ) → e < 64 → get_or r e 0 ≡ get_or l e 0 + get_or part (from + e) 0

-- the rows of her conditions added up
pub record Hers (sets : List ℕ) (i : ℕ) (part r : List ℕ) : Type 0 where
  pub sums : (e : ℕ) → e < 64 → Is (get_or r e 0) (get_or part (1024 + e) 0 + sum_to (length sets) (λ g. cond (has (get_or sets g 0) i) (get_or part (64 * g + e) 0) 0)) 3400

-- no difference is below zero
pub record SideFits (on : Bool) (standing more fewer zero : ℕ) : Type 0 where
  pub when_on : on ≡ true → zero ≤ standing + fewer
  pub if_off : on ≡ false → zero ≤ standing + more
  pub small : (standing ≤ 185600) × (more ≤ 3400) × (fewer ≤ 3400)

pub record SideOf (on : Bool) (standing more fewer zero : ℕ) (r : Side) : Type 0 where
  pub when_on : on ≡ true → (r.on ≡ standing) × (r.off ≡ standing + fewer - zero)
  pub if_off : on ≡ false → (r.on ≡ standing + more - zero) × (r.off ≡ standing)

-- what the duty costs on a day with nurse i on it or not
abbrev pub side_at : List ℕ → Weights → ℕ → List ℕ → ℕ → ℕ → Bool → ℕ
side_at w wt k cols i d b = duty_cost wt (member_sets w) (needs w d) k (put (has (get_or cols d 0)) i b)

pub record SidesOf (w : List ℕ) (wt : Weights) (k : ℕ) (cols : List ℕ) (i : ℕ) (r : List ℕ) : Type 0 where
  pub on_is : (d : ℕ) → d < days w → get_or r d 0 ≡ side_at w wt k cols i d true
  pub off_is : (d : ℕ) → d < days w → get_or r (32 + d) 0 ≡ side_at w wt k cols i d false

-- ---- a nurse's days

-- from the sides of night (x) and day (y)
pub record NightSummed (n : ℕ) (x y : List ℕ) (workable : ℕ) (c : List ℕ) : Type 0 where
  pub at_night : (d : ℕ) → d < n → night_on c d ≡ get_or x d 0 + get_or y (32 + d) 0
  pub at_open : (d : ℕ) → d < n → open_on c d ≡ get_or x (32 + d) 0 + cond (has workable d) (get_or y d 0) (get_or y (32 + d) 0)
  pub at_none : (d : ℕ) → d < n → none_on c d ≡ get_or x (32 + d) 0 + get_or y (32 + d) 0

pub record DaySummed (n : ℕ) (y c : List ℕ) : Type 0 where
  pub at_night : (d : ℕ) → d < n → night_on c d ≡ get_or y d 0
  pub at_open : (d : ℕ) → d < n → open_on c d ≡ get_or y (32 + d) 0
  pub at_none : (d : ℕ) → d < n → none_on c d ≡ get_or y (32 + d) 0

-- a day on its two columns with nurse i at night or not (a), and available or not (b): by night, and by day with her working or not (b)
unfoldable pub night_with : List ℕ → List ℕ → List ℕ → ℕ → ℕ → Bool → Bool → ℕ
night_with w night day i d a b = side_at w (weights_of w 0) 0 night i d a + side_at w (no_high (weights_of w 1)) 1 day i d b

unfoldable pub day_with : List ℕ → List ℕ → ℕ → ℕ → Bool → ℕ
day_with w day i d b = side_at w (weights_of w 1) 1 day i d b

-- by night; an open day that she may not work counts her as neither
pub record NightCosts (w night day : List ℕ) (i workable : ℕ) (c : List ℕ) : Type 0 where
  pub at_night : (d : ℕ) → d < days w → night_on c d ≡ night_with w night day i d true false
  pub at_open : (d : ℕ) → d < days w → open_on c d ≡ night_with w night day i d false (has workable d)
  pub at_none : (d : ℕ) → d < days w → none_on c d ≡ night_with w night day i d false false

-- by day a day that she works stands as one at night
pub record DayCosts (w day : List ℕ) (i : ℕ) (c : List ℕ) : Type 0 where
  pub at_night : (d : ℕ) → d < days w → night_on c d ≡ day_with w day i d true
  pub at_open : (d : ℕ) → d < days w → open_on c d ≡ day_with w day i d false
  pub at_none : (d : ℕ) → d < days w → none_on c d ≡ day_with w day i d false

abbrev pub CostsOf : Search → List ℕ → List ℕ → List ℕ → ℕ → ℕ → List ℕ → Type 0
CostsOf Nights w night day i workable c = NightCosts w night day i workable c
CostsOf Days w night day i workable c = DayCosts w day i c
