-- A set of small numbers as one number: i is in it when binary digit i is set.
use Rattle.std.specs.Prelude.{Bool, cond, ℕ, zero, suc, ◌+◌, ◌/◌, ◌%◌, ◌^◌, eqb}

-- digit i of x, from 0
abbrev pub bit : ℕ → ℕ → ℕ
bit x i = x / 2 ^ i % 2

-- whether digit i of x is set
abbrev pub has : ℕ → ℕ → Bool
has x i = eqb (bit x i) 1

-- a choice for each number, with another one at i
abbrev pub put : (ℕ → Bool) → ℕ → Bool → ℕ → Bool
put f i b j = cond (eqb j i) b (f j)

-- the number of the set of those below n that pass a test
unfoldable pub number_of : (ℕ → Bool) → ℕ → ℕ
number_of t zero = 0
number_of t (suc d) = number_of t d + cond (t d) (2 ^ d) 0
