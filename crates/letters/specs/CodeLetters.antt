-- Question 12's place as code gives it.
use Rattle.std.specs.Prelude.{Option, Some, None, ℕ}
use Rattle.std.proofs.Math.Option.{Option as Found, none, some}

-- as question 12 gives it
abbrev pub found_of : Option ℕ → Found ℕ
found_of (Some i) = some i
found_of None = none
