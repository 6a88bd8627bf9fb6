-- A nurse's own night patterns. `b` is her block of the ward's numbers.
use Rattle.std.specs.Prelude.{Bool, ◌&&◌, List, [], ◌∷◌, ℕ, zero, suc, ◌+◌, ◌^◌, leb, ltb, eqb, length}
use Rattle.numbers.specs.Range.{up_from, filter}
use Rattle.fields.specs.Fields.{days, block, duty, least_nights_of, most_nights_of}
use Rattle.rows.specs.Rows.{allow_table, marks_allow}
use Rattle.fields.specs.declared.rules.Rules.{Rules}
use Rattle.fields.specs.Rules.{rules_of}
use Rattle.nights.specs.Nights.{starts, follow, run_with, in_common}

-- Her last seven days are numbered 1 to 7 here, and the month's days from 8 on.
unfoldable pub shifted : ℕ → List ℕ → List ℕ
shifted k [] = []
shifted k (s ∷ ss) = (s + k) ∷ shifted k ss

-- the last of these starts, and the length of its run
unfoldable pub through : ℕ → ℕ → List ℕ → ℕ × ℕ
through prev run [] = (prev, run)
through prev run (s ∷ ss) = through s (run_with prev run s) ss

-- the duty of one of the seven, from 1
abbrev pub last_duty : List ℕ → ℕ → ℕ
last_duty b zero = 0
last_duty b (suc k) = duty b k

-- the 2s of her seven days
abbrev pub twos : List ℕ → List ℕ
twos b = filter (λ d. eqb (last_duty b d) 2) (up_from 1 7)

-- the last of them, and the length of its run; 0 and 0 where there is none
unfoldable pub last_run : List ℕ → ℕ × ℕ
last_run b = through 0 0 (twos b)

-- It meets what is hers, by a table of what each mark allows: its starts, with the 2s of her seven days, keep the rule wherever the later start is in the month; her marks allow it;
-- and its count is within her bounds.
abbrev pub meets_hers : List (List ℕ) → Rules → ℕ → List ℕ → ℕ → Bool
meets_hers table r n b p =
    follow r (last_run b).0 (last_run b).1 (shifted 7 (starts n p))
    && (marks_allow table b n p
    && (leb (least_nights_of b) (length (starts n p)) && leb (length (starts n p)) (most_nights_of b)))

-- in the common list, and meets what is hers
unfoldable pub hers : List (List ℕ) → Rules → ℕ → List ℕ → ℕ → Bool
hers table r n b p = ltb p (2 ^ n) && (in_common r n p && meets_hers table r n b p)

-- nurse i's, from 0
abbrev pub meets_hers_of : List ℕ → ℕ → ℕ → Bool
meets_hers_of w i p = meets_hers allow_table (rules_of w) (days w) (block w i) p

abbrev pub hers_of : List ℕ → ℕ → ℕ → Bool
hers_of w i p = hers allow_table (rules_of w) (days w) (block w i) p

-- her list, by ascending number
unfoldable pub night_list : List ℕ → ℕ → List ℕ
night_list w i = filter (hers_of w i) (up_from 0 (2 ^ days w))
