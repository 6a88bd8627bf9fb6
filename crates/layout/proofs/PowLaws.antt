-- Powers of two below 2 ^ 50, as the code makes them.
use Rattle.std.specs.Prelude.{ℕ, ◌-◌, ◌^◌, ◌≤◌, ◌<◌}
use Rattle.std.proofs.Common.{lt_of_not-le, arith, pow_mono}
use Rattle.std.proofs.Math.Decide.{dec_le}

pub small_power : (m : ℕ) → 2 ^ m - 1 < 2 ^ 49 → m < 64
small_power m h = elim (dec_le m 49) [ yes p ↦ omega arith | no p ↦ high (lt_of_not-le p) ]
  where
    high : 49 < m → m < 64
    high p = let q : 2 ^ 50 ≤ 2 ^ m = pow_mono p in absurd (omega arith)
