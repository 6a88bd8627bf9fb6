-- What the code does with bytes, and what it knows of a number that it read.
use Rattle.std.specs.Prelude.{ℕ, ◌+◌, ◌^◌, ◌≤◌, ◌<◌, List, ◌++◌, length, take, drop}
use Rattle.codec.specs.declared.Number.{Number}

-- the list with xs in it from the place `at` on
abbrev pub pasted : List ℕ → ℕ → List ℕ → List ℕ
pasted b at xs = take at b ++ (xs ++ drop (at + length xs) b)

-- a number of at most `more` groups after the first
abbrev pub Below : ℕ → Number → Type 0
Below more n = (n.value < 128 ^ (more + 1)) × (n.used ≤ more + 1)
