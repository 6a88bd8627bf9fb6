-- The day rule over one choice of nights and pair, and a nurse's day list. `b` is her block of the ward's numbers, p her night pattern, `off` says which days
-- are of her pair, q is a day pattern: a set of days of the month.
use Rattle.std.specs.Prelude.{Bool, true, false, cond, not, ◌&&◌, ◌||◌, List, [], ◌∷◌, map, ℕ, suc, ◌-◌, ◌^◌, leb, ltb, eqb, length}
use Rattle.numbers.specs.Range.{up_from, filter, all, any_of}
use Rattle.numbers.specs.Patterns.{days_of, pair_of}
use Rattle.fields.specs.Fields.{days, longest_days, block, duty, least_rests_of, most_rests_of, mark_on}
use Rattle.rows.specs.Rows.{started, available_on, duty_on}
use Rattle.rows.specs.Pairs.{in_pair}

-- she may work day d: it is available, and none of her pair (document 02, job 2)
abbrev pub may_work : List ℕ → ℕ → (ℕ → Bool) → ℕ → Bool
may_work b p off d = available_on b p d && not (off d)

-- a day pattern is a set of days that she may work, with every mark 2 in it
unfoldable pub choice : List ℕ → ℕ → ℕ → (ℕ → Bool) → ℕ → Bool
choice b n p off q =
    ltb q (2 ^ n)
    && all (λ d. cond (started q d) (may_work b p off d) (not (eqb (mark_on b d) 2))) (up_from 1 n)

-- ---- a row: the duty at each place, over the seven days and the month. Place t is day t - 6, so the month begins at place 7.

unfoldable pub row_duty : List ℕ → ℕ → ℕ → ℕ → ℕ
row_duty b p q t = cond (ltb t 7) (duty b t) (duty_on b p q (t - 6))

-- k duties of a row, the last of them at place t
abbrev pub window : (ℕ → ℕ) → ℕ → ℕ → List ℕ
window row k t = map row (up_from (suc t - k) k)

-- which duties count in a run of day duty: day duty, and other duty with it (document 02, job 1)
abbrev pub in_run : ℕ → Bool
in_run duty = eqb duty 1 || eqb duty 4

abbrev pub is_rest : ℕ → Bool
is_rest duty = eqb duty 0

-- rest, day, rest, day, rest
abbrev pub alternating : List ℕ
alternating = 0 ∷ 1 ∷ 0 ∷ 1 ∷ 0 ∷ []

-- the sequences that no row has
abbrev pub forbidden : List (List ℕ)
forbidden = alternating ∷ []

unfoldable pub same : List ℕ → List ℕ → Bool
same [] [] = true
same [] (y ∷ ys) = false
same (x ∷ xs) [] = false
same (x ∷ xs) (y ∷ ys) = eqb x y && same xs ys

-- none of the sequences ends at place t
unfoldable pub free_of : List (List ℕ) → (ℕ → ℕ) → ℕ → Bool
free_of [] row t = true
free_of (s ∷ ss) row t = not (same s (window row (length s) t)) && free_of ss row t

-- the windows that end at place t: at most D duties running that count in a run, a rest in every seven days, no forbidden sequence
unfoldable pub windows_hold : (ℕ → ℕ) → ℕ → ℕ → Bool
windows_hold row longest t =
    not (all in_run (window row (suc longest) t))
    && (any_of is_rest (window row 7 t)
    && free_of forbidden row t)

-- the rests of a month of n days
unfoldable pub rests : (ℕ → ℕ) → ℕ → ℕ
rests row n = length (filter (λ t. is_rest (row t)) (up_from 7 n))

-- ---- the day rule and the list

unfoldable pub day_rule : List ℕ → ℕ → ℕ → ℕ → (ℕ → Bool) → ℕ → Bool
day_rule b n longest p off q =
    choice b n p off q
    && (all (windows_hold (row_duty b p q) longest) (up_from 7 n)
    && (leb (least_rests_of b) (rests (row_duty b p q) n) && leb (rests (row_duty b p q) n) (most_rests_of b)))

-- nurse i's, over her pattern c: its nights and its pair
abbrev pub day_rule_of : List ℕ → ℕ → ℕ → ℕ → Bool
day_rule_of w i c q = day_rule (block w i) (days w) (longest_days w) (days_of c) (in_pair w (pair_of c)) q

-- her day list over the pattern c, by ascending number
unfoldable pub day_list : List ℕ → ℕ → ℕ → List ℕ
day_list w i c = filter (day_rule_of w i c) (up_from 0 (2 ^ days w))
