-- A roster is m times n letters, row after row: `/` rest, `-` day, N, n, `+` other.
use Rattle.std.specs.Prelude.{Bool, cond, ◌||◌, List, [], ◌∷◌, ◌++◌, map, ℕ, zero, suc, eqb, length, get_or}
use Rattle.std.proofs.Math.Option.{Option, none, some}
use Rattle.numbers.specs.Range.{up_from}
use Rattle.fields.specs.Fields.{days, block}
use Rattle.rows.specs.Rows.{duty_on}

-- the letter of a duty, as its byte
unfoldable pub letter : ℕ → ℕ
letter duty = get_or (47 ∷ 45 ∷ 78 ∷ 110 ∷ 43 ∷ []) duty 0

-- the row of n days of the nurse with block b, under night pattern p and day pattern q
unfoldable pub row_letters_of : List ℕ → ℕ → ℕ → ℕ → List ℕ
row_letters_of b n p q = map (λ d. letter (duty_on b p q d)) (up_from 1 n)

-- nurse i's row
abbrev pub row_letters : List ℕ → ℕ → ℕ → ℕ → List ℕ
row_letters w i p q = row_letters_of (block w i) (days w) p q

-- the rows of the first k nurses, one after the other: nurse i's night pattern is ps i, her day pattern qs i
unfoldable pub letters : List ℕ → (ℕ → ℕ) → (ℕ → ℕ) → ℕ → List ℕ
letters w ps qs zero = []
letters w ps qs (suc k) = letters w ps qs k ++ row_letters w k (ps k) (qs k)

-- one of the five
unfoldable pub is_letter : ℕ → Bool
is_letter c = eqb c 47 || (eqb c 45 || (eqb c 78 || (eqb c 110 || eqb c 43)))

-- ---- question 12: m times n letters of the five; the place is the first bad index, else the count given

unfoldable pub first_bad : ℕ → List ℕ → Option ℕ
first_bad at [] = none
first_bad at (c ∷ cs) = cond (is_letter c) (first_bad (suc at) cs) (some at)

abbrev pub or_count : Option ℕ → ℕ → ℕ → Option ℕ
or_count (some at) count size = some at
or_count none count size = cond (eqb count size) none (some count)

unfoldable pub misplaced : ℕ → List ℕ → Option ℕ
misplaced size roster = or_count (first_bad 0 roster) (length roster) size
