-- Ascending ranges of numbers, and the numbers of a list that pass a test.
use Rattle.std.specs.Prelude.{◌≡◌, Bool, true, false, cond, ◌&&◌, ◌||◌, List, [], ◌∷◌, ℕ, zero, suc, ◌<◌, length, get_or}

-- n numbers from a on, ascending
unfoldable pub up_from : ℕ → ℕ → List ℕ
up_from a zero = []
up_from a (suc n) = a ∷ up_from (suc a) n

-- those of a list that pass a test, in their order
unfoldable pub filter : (ℕ → Bool) → List ℕ → List ℕ
filter t [] = []
filter t (x ∷ xs) = cond (t x) (x ∷ filter t xs) (filter t xs)

-- whether all of a list pass a test
unfoldable pub all : (ℕ → Bool) → List ℕ → Bool
all t [] = true
all t (x ∷ xs) = t x && all t xs

-- whether one of a list passes a test
unfoldable pub any_of : (ℕ → Bool) → List ℕ → Bool
any_of t [] = false
any_of t (x ∷ xs) = t x || any_of t xs

-- each number of a list is below those after it
unfoldable pub Ascending : List ℕ → Type 0
Ascending xs = (j k : ℕ) → j < k → k < length xs → get_or xs j 0 < get_or xs k 0

-- x stands in the list
pub record At (xs : List ℕ) (x : ℕ) : Type 0 where
  pub place : ℕ
  pub inside : place < length xs
  pub there : get_or xs place 0 ≡ x

-- the list has exactly the numbers that pass the rule, each once, by ascending number
pub record Exactly (rule : ℕ → Bool) (xs : List ℕ) : Type 0 where
  pub every : (x : ℕ) → rule x ≡ true → At xs x
  pub only : (x : ℕ) → At xs x → rule x ≡ true
  pub once : (j k : ℕ) → j < length xs → k < length xs → get_or xs j 0 ≡ get_or xs k 0 → j ≡ k
  pub ascending : Ascending xs
