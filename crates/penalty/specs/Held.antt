-- What a penalty of zero stands for: every need, low and high that the search judges holds, and nobody is unplaced.
use Rattle.std.specs.Prelude.{◌≡◌, Bool, false, List, ℕ, ◌≤◌, ◌<◌}
use Rattle.fields.specs.Fields.{nurses, days, groups, needs, need, low, high}
use Rattle.history.specs.Slot.{Slot, is_none}
use Rattle.penalty.specs.Penalty.{on_duty, members, at_night, available_in, at_day}

-- one duty of one day, with highs left out or not
pub record LowsHeld (w : List ℕ) (k : ℕ) (on : ℕ → Bool) (d : ℕ) : Type 0 where
  pub need_held : need (needs w d) k ≤ on_duty w on
  pub low_held : (g : ℕ) → g < groups w → low (needs w d) k g ≤ members w on g

abbrev pub HighsHeld : List ℕ → ℕ → (ℕ → Bool) → ℕ → Type 0
HighsHeld w k on d = (g : ℕ) → g < groups w → members w on g ≤ high (needs w d) k g

abbrev pub AllPlaced : List ℕ → (ℕ → Slot) → Type 0
AllPlaced w slots = (i : ℕ) → i < nurses w → is_none (slots i) ≡ false

pub record NightHeld (w : List ℕ) (slots : ℕ → Slot) : Type 0 where
  pub nights : (d : ℕ) → d < days w → LowsHeld w 0 (at_night w slots d) d
  pub highs : (d : ℕ) → d < days w → HighsHeld w 0 (at_night w slots d) d
  pub available : (d : ℕ) → d < days w → LowsHeld w 1 (available_in w slots d) d
  pub placed : AllPlaced w slots

pub record DayHeld (w : List ℕ) (slots : ℕ → Slot) : Type 0 where
  pub worked : (d : ℕ) → d < days w → LowsHeld w 1 (at_day w slots d) d
  pub highs : (d : ℕ) → d < days w → HighsHeld w 1 (at_day w slots d) d
  pub placed : AllPlaced w slots
