-- Sums and counts over the numbers below n.
use Rattle.std.specs.Prelude.{◌≡◌, Bool, cond, ℕ, zero, suc, ◌+◌, ◌≤◌}

-- f 0 + f 1 + .. + f (n - 1)
unfoldable pub sum_to : ℕ → (ℕ → ℕ) → ℕ
sum_to zero f = zero
sum_to (suc n) f = sum_to n f + f n

-- 1 for true
abbrev pub one_if : Bool → ℕ
one_if b = cond b 1 0

-- how many numbers below n pass a test
abbrev pub count_to : ℕ → (ℕ → Bool) → ℕ
count_to n t = sum_to n (λ i. one_if (t i))

-- a result that is v, and at most b
pub record Is (r v b : ℕ) : Type 0 where
  pub is : r ≡ v
  pub most : r ≤ b
