-- Laws of rows.
use Rattle.std.specs.Prelude.{◌≡◌, refl, Bool, true, false, ◌&&◌, List, ℕ, zero, suc, ◌+◌, ◌<◌}
use Rattle.std.proofs.Common.{ap, ap₂, ◌∙◌, add-one}
use Rattle.numbers.specs.Range.{up_from, all}
use Rattle.numbers.specs.Digits.{has}
use Rattle.numbers.proofs.AllLaws.{all_same}
use Rattle.fields.specs.Fields.{duty, mark_on}
use Rattle.rows.specs.Rows.{state_after, day_zero, row_state, allows, marks_allow, available, available_on, duty_of, duty_on}

pub row_zero : (b : List ℕ) (p : ℕ) → row_state b p 0 ≡ day_zero (duty b 6)
unfolding row_state
row_zero b p = refl

pub row_turn : (b : List ℕ) (p d : ℕ) → row_state b p (d + 1) ≡ state_after (row_state b p d) (has p d)
unfolding row_state
row_turn b p d = rw (add-one d)

-- ---- a row judged by the marks

-- over the days, from 1 on, as over their indices
pub all_shifted : (t : ℕ → Bool) (a n : ℕ) → all (λ d. t (suc d)) (up_from a n) ≡ all t (up_from (suc a) n)
unfolding all up_from
all_shifted t a zero = refl
all_shifted t a (suc n) = ap (λ (b : Bool). t (suc a) && b) (all_shifted t (suc a) n)

pub marks_by_index : (table : List (List ℕ)) (b : List ℕ) (p n : ℕ) (state : ℕ → ℕ) → ((d : ℕ) → d < n → state d ≡ row_state b p (suc d))
    → all (λ d. allows table (mark_on b (suc d)) (state d)) (up_from 0 n) ≡ marks_allow table b n p
unfolding marks_allow
marks_by_index table b p n state e =
    all_same _ _ n (λ d h. ap (allows table (mark_on b (suc d))) (e d h)) ∙ all_shifted (λ d. allows table (mark_on b d) (row_state b p d)) 0 n

-- ---- the duty of a day

pub duty_is : (b : List ℕ) (p q d : ℕ) {mark state duty : ℕ} {worked : Bool} → mark ≡ mark_on b (suc d) → state ≡ row_state b p (suc d) → worked ≡ has q d
    → duty ≡ duty_of mark state worked → duty ≡ duty_on b p q (suc d)
unfolding duty_on
duty_is b p q d m s w e = e ∙ (λ j. duty_of (m j) (s j) (w j))

pub available_is : (b : List ℕ) (p d : ℕ) {mark state : ℕ} {on : Bool} → mark ≡ mark_on b (suc d) → state ≡ row_state b p (suc d) → on ≡ available mark state → on ≡ available_on b p (suc d)
unfolding available_on
available_is b p d m s e = e ∙ ap₂ available m s

-- a day on which she starts is not an open one
pub started_busy : (b : List ℕ) (p d : ℕ) → has p d ≡ true → available_on b p (suc d) ≡ false
unfolding available_on row_state
started_busy b p d e = rw e
