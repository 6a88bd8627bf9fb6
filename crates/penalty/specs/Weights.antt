-- A duty's weights as contracts see them: any three numbers, since definitions build them of any.
use Rattle.std.specs.Prelude.{ℕ, ◌≤◌}

pub record Weights : Type 0 where
  pub w : ℕ
  pub u : ℕ
  pub v : ℕ

-- those of an accepted ward
pub record Light (wt : Weights) : Type 0 where
  pub light_w : wt.w ≤ 100
  pub light_u : wt.u ≤ 100
  pub light_v : wt.v ≤ 100
