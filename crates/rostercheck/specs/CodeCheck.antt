-- The roster check as the code tests it: the patterns of a row are read off its letters. proofs/CheckLaws shows that it is the meaning, `Holds`.
use Rattle.std.specs.Prelude.{Bool, ◌&&◌, List, ℕ, suc, eqb, leb, get_or}
use Rattle.numbers.specs.Range.{up_from, all, any_of}
use Rattle.numbers.specs.Patterns.{pattern}
use Rattle.numbers.specs.Digits.{number_of}
use Rattle.fields.specs.Fields.{nurses, days, groups, block, needs, need, low, high}
use Rattle.rows.specs.Rows.{duty_on}
use Rattle.rows.specs.Pairs.{pair_numbers, pair_fits}
use Rattle.nights.specs.Hers.{hers_of}
use Rattle.days.specs.Days.{day_rule_of}
use Rattle.penalty.specs.Penalty.{on_duty, members}
use Rattle.letters.specs.Letters.{letter}
use Rattle.rostercheck.specs.Check.{row_of, at_duty}

-- the days with letter c among the first d of a row, as a set
unfoldable pub letters_in : List ℕ → ℕ → ℕ → ℕ
letters_in row c d = number_of (λ e. eqb (get_or row e 0) c) d

-- the letters of a row of n days are those of these patterns
unfoldable pub same_row : List ℕ → ℕ → List ℕ → ℕ → ℕ → Bool
same_row b n row p q = all (λ d. eqb (get_or row d 0) (letter (duty_on b p q (suc d)))) (up_from 0 n)

-- with pair k the night pattern p and the day pattern q are hers, as far as the pair goes
abbrev pub pair_holds : List ℕ → ℕ → ℕ → ℕ → ℕ → Bool
pair_holds w i p q k = pair_fits w i p k && day_rule_of w i (pattern p k) q

unfoldable pub row_holds : List ℕ → ℕ → List ℕ → Bool
row_holds w i row =
    let p = letters_in row (letter 2) (days w) in
    let q = letters_in row (letter 1) (days w) in
    hers_of w i p && (any_of (pair_holds w i p q) (pair_numbers w) && same_row (block w i) (days w) row p q)

-- nurse i's row of a roster
abbrev pub row_of_holds : List ℕ → List ℕ → ℕ → Bool
row_of_holds w roster i = row_holds w i (row_of w roster i)

-- the need of one duty of the day of index d, and each group's low and high
unfoldable pub group_holds : List ℕ → List ℕ → ℕ → ℕ → ℕ → Bool
group_holds w roster k d g =
    leb (low (needs w d) k g) (members w (at_duty w roster k d) g)
    && leb (members w (at_duty w roster k d) g) (high (needs w d) k g)

unfoldable pub duty_holds : List ℕ → List ℕ → ℕ → ℕ → Bool
duty_holds w roster k d =
    leb (need (needs w d) k) (on_duty w (at_duty w roster k d)) && all (group_holds w roster k d) (up_from 0 (groups w))

unfoldable pub day_holds : List ℕ → List ℕ → ℕ → Bool
day_holds w roster d = duty_holds w roster 0 d && duty_holds w roster 1 d

-- every nurse's row and every day
unfoldable pub holds : List ℕ → List ℕ → Bool
holds w roster = all (row_of_holds w roster) (up_from 0 (nurses w)) && all (day_holds w roster) (up_from 0 (days w))
