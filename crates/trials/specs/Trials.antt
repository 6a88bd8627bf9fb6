-- The sets of days in which a nurse counts under a pattern, by night and by day.
use Rattle.std.specs.Prelude.{◌≡◌, List, ℕ}
use Rattle.numbers.specs.Patterns.{days_of}
use Rattle.history.specs.declared.Search.{Search}
use Rattle.history.specs.declared.Search.TheVariants.{Nights, Days}
use Rattle.penalty.specs.CodeColumns.{FreeUnder}

-- by night her starts, and the days on which the pattern leaves her available
pub record NightSets (w : List ℕ) (i p nights available : ℕ) : Type 0 where
  pub starts_are : nights ≡ days_of p
  pub free_are : FreeUnder w i p available

-- by day the days that she works; at night nobody counts
abbrev pub CountsIn : Search → List ℕ → ℕ → ℕ → ℕ → ℕ → Type 0
CountsIn Nights w i p nights available = NightSets w i p nights available
CountsIn Days w i p nights available = available ≡ days_of p
