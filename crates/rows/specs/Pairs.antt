-- The pairs of days that a ward promises off together (document 02, job 2), and what a pattern's pair makes of a nurse's row. A pattern c is a night pattern
-- and a pair's number, from 1; 0 in a ward without pairs. Nurse i counts from 0, day d of the month from 1.
use Rattle.std.specs.Prelude.{Bool, cond, not, ◌&&◌, ◌||◌, List, [], ◌∷◌, ℕ, suc, leb, ltb, eqb}
use Rattle.numbers.specs.Range.{up_from}
use Rattle.numbers.specs.Patterns.{days_of, pair_of}
use Rattle.fields.specs.Fields.{block, mark_on, pair_count, pair_day}
use Rattle.rows.specs.Rows.{row_state, available_on}

-- the pair numbers of a ward
unfoldable pub pair_numbers : List ℕ → List ℕ
pair_numbers w = cond (eqb (pair_count w) 0) (0 ∷ []) (up_from 1 (pair_count w))

-- day d is one of the two days of pair k; no day is one of pair 0's
unfoldable pub in_pair : List ℕ → ℕ → ℕ → Bool
in_pair w k d = ltb 0 k && (leb k (pair_count w) && (eqb d (pair_day w k) || eqb d (suc (pair_day w k))))

-- a pair's day is O or R, under mark 0, 1, 5 or 6
abbrev pub rest_mark : ℕ → Bool
rest_mark mark = eqb mark 0 || (eqb mark 1 || (eqb mark 5 || eqb mark 6))

abbrev pub at_rest : ℕ → ℕ → Bool
at_rest mark state = (eqb state 0 || eqb state 3) && rest_mark mark

unfoldable pub at_rest_on : List ℕ → ℕ → ℕ → Bool
unfolding row_state
at_rest_on b p d = at_rest (mark_on b d) (row_state b p d)

-- pair k is nurse i's under the night pattern p: both its days are at rest; 0 is hers where there are no pairs
unfoldable pub pair_fits : List ℕ → ℕ → ℕ → ℕ → Bool
unfolding at_rest_on
pair_fits w i p k =
    cond (eqb k 0) (eqb (pair_count w) 0)
    (leb k (pair_count w) && (at_rest_on (block w i) p (pair_day w k) && at_rest_on (block w i) p (suc (pair_day w k))))

-- she is available under the pattern c as its nights leave her, but no longer on the days of its pair
unfoldable pub free_on : List ℕ → ℕ → ℕ → ℕ → Bool
unfolding available_on in_pair
free_on w i c d = available_on (block w i) (days_of c) d && not (in_pair w (pair_of c) d)
