-- What proofs take of a phase whose records are stored.
use Rattle.std.specs.Prelude.{◌≤◌}
use Rattle.fields.specs.Sizes.{nurse_places, tabu_most}
use Rattle.history.specs.Phase.{Phase}

-- the most nurses, and the most removals, that there are places for
pub record Fits (P : Phase) : Type 0 where
  pub nurses_most : P.nurses ≤ nurse_places
  pub tabu_at_most : P.tabu ≤ tabu_most
