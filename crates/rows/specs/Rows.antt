-- A nurse's row: its state on each day, what her marks allow, when she is available, and the duty of a day.
-- `b` is her block of the ward's numbers, p a night pattern, q a day pattern, d a day of the month, from 1; where a definition takes a day's index, from 0,
-- it says so.
use Rattle.std.specs.Prelude.{Bool, false, cond, ◌&&◌, ◌||◌, List, [], ◌∷◌, ℕ, zero, suc, eqb, get_or}
use Rattle.numbers.specs.Range.{up_from, all}
use Rattle.numbers.specs.Digits.{has}
use Rattle.fields.specs.Fields.{duty, mark_on}

-- a pattern is a set of days: day d has bit d - 1, so that `has p` takes its index
abbrev pub started : ℕ → ℕ → Bool
started p zero = false
started p (suc d) = has p d

-- The states of a day: open (O) is 0, the night's first day (N) 1, its second day (n) 2, owed rest (R) 3.
-- Day d is N if started; else n if day d-1 is N; else R if day d-1 is n; else open.
abbrev pub state_after : ℕ → Bool → ℕ
state_after before started = cond started 1 (cond (eqb before 1) 2 (cond (eqb before 2) 3 0))

-- day 0 is read from the seven days: a 2 there is N, a 3 is n, and any other duty is neither
abbrev pub day_zero : ℕ → ℕ
day_zero duty = cond (eqb duty 2) 1 (cond (eqb duty 3) 2 0)

unfoldable pub row_state : List ℕ → ℕ → ℕ → ℕ
row_state b p zero = day_zero (duty b 6)
row_state b p (suc d) = state_after (row_state b p d) (has p d)

-- What each mark allows, by the state: O, N, n, R. The marks are 0 free, 1 rest, 2 day, 3 night, 4 other, 5 no night, 6 no day.
abbrev pub allow_table : List (List ℕ)
allow_table =
    (1 ∷ 1 ∷ 1 ∷ 1 ∷ [])
    ∷ (1 ∷ 0 ∷ 0 ∷ 1 ∷ [])
    ∷ (1 ∷ 0 ∷ 0 ∷ 0 ∷ [])
    ∷ (0 ∷ 1 ∷ 0 ∷ 0 ∷ [])
    ∷ (1 ∷ 0 ∷ 0 ∷ 0 ∷ [])
    ∷ (1 ∷ 0 ∷ 1 ∷ 1 ∷ [])
    ∷ (1 ∷ 1 ∷ 1 ∷ 1 ∷ [])
    ∷ []

-- a mark allows a state, by a table of that form
abbrev pub allows : List (List ℕ) → ℕ → ℕ → Bool
allows table mark state = eqb (get_or (get_or table mark []) state 0) 1

-- her marks allow the row of p in a month of n days
unfoldable pub marks_allow : List (List ℕ) → List ℕ → ℕ → ℕ → Bool
unfolding row_state
marks_allow table b n p = all (λ d. allows table (mark_on b d) (row_state b p d)) (up_from 1 n)

-- she is available on open days marked 0, 2 or 5
abbrev pub available : ℕ → ℕ → Bool
available mark state = eqb state 0 && (eqb mark 0 || (eqb mark 2 || eqb mark 5))

unfoldable pub available_on : List ℕ → ℕ → ℕ → Bool
unfolding row_state
available_on b p d = available (mark_on b d) (row_state b p d)

-- the starts of an unplaced nurse's row, by the day's index: her marks 3
abbrev pub fixed_night : List ℕ → ℕ → Bool
fixed_night b d = eqb (mark_on b (suc d)) 3

-- the worked days of an unplaced nurse, by the day's index: her marks 2
abbrev pub fixed_day : List ℕ → ℕ → Bool
fixed_day b d = eqb (mark_on b (suc d)) 2

-- The duty of a day, numbered as in the file: 0 rest, 1 day, 2 the night's first day, 3 its second day, 4 other.
-- An open day is day duty where it is worked; else other under mark 4, else rest. Owed rest is rest.
abbrev pub duty_of : ℕ → ℕ → Bool → ℕ
duty_of mark state worked = cond (eqb state 1) 2 (cond (eqb state 2) 3 (cond (eqb state 3) 0 (cond worked 1 (cond (eqb mark 4) 4 0))))

-- her duty on day d under night pattern p and day pattern q
unfoldable pub duty_on : List ℕ → ℕ → ℕ → ℕ → ℕ
unfolding row_state
duty_on b p q d = duty_of (mark_on b d) (row_state b p d) (started q d)
