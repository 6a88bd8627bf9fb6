-- All nurses' day lists one after the other, each in the part that begins where the last one ends.
use Rattle.std.specs.Prelude.{cond, List, [], ◌++◌, ℕ, zero, suc, leb, length, get_or}
use Rattle.days.specs.Days.{day_list}

-- the lists of the first k, one after the other
unfoldable pub up_to : (ℕ → List ℕ) → ℕ → List ℕ
up_to f zero = []
up_to f (suc k) = up_to f k ++ f k

-- the first of k from i on whose list does not end within the places; i + k where all do
unfoldable pub first_over : (ℕ → List ℕ) → ℕ → ℕ → ℕ → ℕ
first_over f places i zero = i
first_over f places i (suc k) = cond (leb (length (up_to f (suc i))) places) (first_over f places (suc i) k) i

-- nurse i's day list over her pattern among those handed in
abbrev pub day_lists : List ℕ → List ℕ → ℕ → List ℕ
day_lists w nights i = day_list w i (get_or nights i 0)
