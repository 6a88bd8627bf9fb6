-- What code that counts with the ward's rules leans on.
use Rattle.std.specs.Prelude.{◌≤◌}
use Rattle.fields.specs.declared.rules.Rules.{Rules}

-- a run has a start, and the gaps are small enough to count with
pub record SmallRules (r : Rules) : Type 0 where
  pub longest : 1 ≤ r.longest
  pub g1 : r.g1 ≤ 5
  pub g2 : r.g2 ≤ 5
  pub g3 : r.g3 ≤ 5
