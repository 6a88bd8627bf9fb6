-- The numbers below a power of two in two halves, as a walk over the digits from the highest takes them.
use Rattle.std.specs.Prelude.{◌≡◌, refl, Bool, ◌++◌, ℕ, zero, suc, ◌+◌, ◌-◌, ◌*◌, ◌^◌}
use Rattle.std.proofs.Common.{sym, ap, ◌∙◌, pow-suc, mul_comm, mul_assoc, add-mul, one-mul, sub-one, arith}
use Rattle.numbers.specs.Range.{up_from, filter}
use Rattle.numbers.proofs.RangeLaws.{range_add, filter_append}

pub pow_twice : (d : ℕ) → 2 ^ suc d ≡ 2 ^ d + 2 ^ d
pow_twice d = rw (pow-suc 2 d) (omega arith)

pub pow_half : (n : ℕ) → (n ≡ 0 → ⊥) → 2 ^ n ≡ 2 ^ (n - 1) + 2 ^ (n - 1)
pow_half zero f = absurd (f refl)
pow_half (suc d) f = rw (sub-one (suc d)) (pow_twice d)

-- q the digits that are decided, d those that are not: where the lower and the higher half begin
pub low_half : (d q : ℕ) → q * 2 ^ suc d ≡ q * 2 * 2 ^ d
low_half d q = ap (λ (x : ℕ). q * x) (pow-suc 2 d ∙ mul_comm (2 ^ d) 2) ∙ sym (mul_assoc q 2 (2 ^ d))

pub high_half : (d q : ℕ) → q * 2 ^ suc d + 2 ^ d ≡ (q * 2 + 1) * 2 ^ d
high_half d q = rw (add-mul, one-mul, low_half)

-- what a test keeps of both halves
pub filter_halves : (t : ℕ → Bool) (a d : ℕ) → filter t (up_from a (2 ^ suc d)) ≡ filter t (up_from a (2 ^ d)) ++ filter t (up_from (a + 2 ^ d) (2 ^ d))
filter_halves t a d =
    ap (λ (k : ℕ). filter t (up_from a k)) (pow_twice d)
    ∙ ap (filter t) (range_add a (2 ^ d) (2 ^ d))
    ∙ filter_append t (up_from a (2 ^ d)) (up_from (a + 2 ^ d) (2 ^ d))
