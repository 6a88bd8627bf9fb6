-- What the code knows after it has counted the day lists.
use Rattle.std.specs.Prelude.{◌≡◌, List, ℕ, ◌≤◌, ◌<◌, length, get_or}
use Rattle.std.specs.declared.result.Result.{Result}
use Rattle.std.specs.declared.result.Result.TheVariants.{Ok, Err}
use Rattle.daylists.specs.Lists.{up_to, first_over}
use Rattle.daylists.specs.declared.lists.Over.{Over}

-- m lists fit into so many places, and where each begins and ends
pub record AllFit (f : ℕ → List ℕ) (m places : ℕ) (ends : List ℕ) : Type 0 where
  pub none_over : m ≡ first_over f places 0 m
  pub ends_are : (k : ℕ) → k ≤ m → get_or ends k 0 ≡ length (up_to f k)
  pub fit : length (up_to f m) ≤ places

-- the first of m lists that does not end within the places, and where each one before it begins and ends
pub record FirstOver (f : ℕ → List ℕ) (m places : ℕ) (over : Over) : Type 0 where
  pub over_is : over.nurse ≡ first_over f places 0 m
  pub below : over.nurse < m
  pub ends_are : (k : ℕ) → k ≤ over.nurse → get_or over.ends k 0 ≡ length (up_to f k)
  pub too_long : places < length (up_to f m)

abbrev pub Counted : (ℕ → List ℕ) → ℕ → ℕ → Result (List ℕ) Over → Type 0
Counted f m places (Ok ends) = AllFit f m places ends
Counted f m places (Err over) = FirstOver f m places over
