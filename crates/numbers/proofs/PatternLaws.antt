-- A pattern's two parts, and its order: the days first, then the pair.
use Rattle.std.specs.Prelude.{◌≡◌, ℕ, ◌^◌, ◌<◌}
use Rattle.std.proofs.Common.{arith}
use Rattle.numbers.specs.Patterns.{pattern, days_of, pair_of}

pub days_of_pattern : (p k : ℕ) → k < 2 ^ 32 → days_of (pattern p k) ≡ p
unfolding pattern days_of
days_of_pattern p k h = omega arith

pub pair_of_pattern : (p k : ℕ) → k < 2 ^ 32 → pair_of (pattern p k) ≡ k
unfolding pattern pair_of
pair_of_pattern p k h = omega arith

pub back : (c : ℕ) → pattern (days_of c) (pair_of c) ≡ c
unfolding pattern days_of pair_of
back c = omega arith

-- of fewer days
pub fewer_days : (p q j k : ℕ) → j < 2 ^ 32 → p < q → pattern p j < pattern q k
unfolding pattern
fewer_days p q j k h l = omega arith

-- of the same days
pub lower_pair : (p j k : ℕ) → j < k → pattern p j < pattern p k
unfolding pattern
lower_pair p j k l = omega arith

pub pair_lt : (c : ℕ) → pair_of c < 2 ^ 32
unfolding pair_of
pair_lt c = omega arith
