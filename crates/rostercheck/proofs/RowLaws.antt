-- A row of letters: its length, each of its letters, and the patterns that are read off it.
use Rattle.std.specs.Prelude.{◌≡◌, Bool, true, List, ℕ, suc, ◌+◌, ◌^◌, ◌≤◌, ◌<◌, eqb, length, get_or, take, drop, Decides}
use Rattle.std.proofs.Common.{sym, ap, ◌∙◌, arith, eqb-true, eq-eqb, length-drop, length-take-le, get_or-take, get_or-drop, ext_get_or}
use Rattle.std.proofs.lemmas.Bool.{and_parts}
use Rattle.numbers.specs.Digits.{has}
use Rattle.numbers.specs.Patterns.{days_of, pair_of}
use Rattle.numbers.proofs.RangeLaws.{tests_alike, range_all, range_each}
use Rattle.numbers.proofs.SetLaws.{number_is}
use Rattle.fields.specs.Fields.{days, block, mark_on}
use Rattle.rows.specs.Rows.{started, row_state, available_on, duty_on}
use Rattle.rows.specs.Pairs.{in_pair}
use Rattle.days.specs.Days.{choice, day_rule, day_rule_of}
use Rattle.days.proofs.SheetLaws.{choice_available}
use Rattle.letters.specs.Letters.{letter, row_letters_of, is_letter}
use Rattle.letters.proofs.RowLaws.{row_length, row_at}
use Rattle.rostercheck.specs.CodeCheck.{letters_in, same_row}
use Rattle.letters.proofs.LetterLaws.{five, night_letter, day_letter}

pub duty_five : (b : List ℕ) (p q d : ℕ) → is_letter (letter (duty_on b p q d)) ≡ true
unfolding duty_on
duty_five b p q d = five (mark_on b d) (row_state b p d) (started q d)

-- N exactly on the starts
pub starts_letter : (b : List ℕ) (p q d : ℕ) → eqb (letter (duty_on b p q (suc d))) (letter 2) ≡ has p d
unfolding duty_on row_state
starts_letter b p q d = night_letter (mark_on b (suc d)) (row_state b p d) (has p d) (has q d)

-- `-` exactly on the worked days
pub worked_letter : (b : List ℕ) (p q d : ℕ) → (has q d ≡ true → available_on b p (suc d) ≡ true) → eqb (letter (duty_on b p q (suc d))) (letter 1) ≡ has q d
unfolding duty_on row_state available_on
worked_letter b p q d h = day_letter (mark_on b (suc d)) (row_state b p d) (has p d) (has q d) h

-- ---- what a day pattern over her nights is

pub worked_available : (w : List ℕ) (i c q d : ℕ) → day_rule_of w i c q ≡ true → d < days w → has q d ≡ true → available_on (block w i) (days_of c) (suc d) ≡ true
unfolding day_rule
worked_available w i c q d e h k =
    choice_available (block w i) (days w) (days_of c) (in_pair w (pair_of c)) q d (and_parts (choice (block w i) (days w) (days_of c) (in_pair w (pair_of c)) q) _ e).0 h k

-- ---- a row of a roster

-- where it lies in the roster
module _ (roster : List ℕ) (at n : ℕ) (fits : at + n ≤ length roster) where
  pub part_length : length (take n (drop at roster)) ≡ n
  part_length = length-take-le n (drop at roster) (rw (length-drop at roster) (omega arith))

  pub part_at : (d : ℕ) → d < n → get_or (take n (drop at roster)) d 0 ≡ get_or roster (at + d) 0
  part_at d h = get_or-take n (drop at roster) d 0 h ∙ get_or-drop at roster d 0

module _ (row : List ℕ) (n : ℕ) (long : length row ≡ n) where
  module _ (b : List ℕ) (p q : ℕ) where
    -- the letters one by one
    abbrev Each : Type 0
    Each = (d : ℕ) → d < n → get_or row d 0 ≡ letter (duty_on b p q (suc d))

    pub each_of_row : row ≡ row_letters_of b n p q → Each
    each_of_row e d h = ap (λ (l : List ℕ). get_or l d 0) e ∙ row_at b n p q d h

    pub row_of_each : Each → row ≡ row_letters_of b n p q
    row_of_each e =
        ext_get_or 0 row (row_letters_of b n p q) (long ∙ sym (row_length b n p q))
        (λ d h. (let l : d < n = rw long at h in e d l ∙ sym (row_at b n p q d l)))

    pub same_each : same_row b n row p q ≡ true → Each
    unfolding same_row
    same_each e d h =
        eqb-true (get_or row d 0) (letter (duty_on b p q (suc d)))
        (range_each (λ x. eqb (get_or row x 0) (letter (duty_on b p q (suc x)))) 0 n e d (omega arith) (omega arith))

    pub each_same : Each → same_row b n row p q ≡ true
    unfolding same_row
    each_same e =
        range_all (λ x. eqb (get_or row x 0) (letter (duty_on b p q (suc x)))) 0 n
        (λ d l h. (let m : d < n = omega arith in eq-eqb (get_or row d 0) (letter (duty_on b p q (suc d))) (e d m)))

    -- as one comparison
    pub row_same : {hers : List ℕ} {r : Bool} → hers ≡ row_letters_of b n p q → Decides r (row ≡ hers) → r ≡ same_row b n row p q
    row_same e d = tests_alike _ _ (λ t. each_same (each_of_row (d.0 t ∙ e))) (λ t. d.1 (row_of_each (same_each t) ∙ sym e))

    -- the patterns are the sets of its letters
    pub starts_read : Each → p < 2 ^ n → p ≡ letters_in row (letter 2) n
    unfolding letters_in
    starts_read e l =
        number_is (λ d. eqb (get_or row d 0) (letter 2)) n p l
        (λ d h. sym (ap (λ (c : ℕ). eqb c (letter 2)) (e d h) ∙ starts_letter b p q d))

    pub worked_read : Each → q < 2 ^ n → ((d : ℕ) → d < n → has q d ≡ true → available_on b p (suc d) ≡ true) → q ≡ letters_in row (letter 1) n
    unfolding letters_in
    worked_read e l a =
        number_is (λ d. eqb (get_or row d 0) (letter 1)) n q l
        (λ d h. sym (ap (λ (c : ℕ). eqb c (letter 1)) (e d h) ∙ worked_letter b p q d (a d h)))
