-- Laws of a nurse's row: its places where she works no day.
use Rattle.std.specs.Prelude.{◌≡◌, Bool, not, ◌&&◌, false, List, ℕ, suc, ◌+◌, ◌-◌, ◌<◌}
use Rattle.std.proofs.Common.{sym, ◌∙◌, arith, lt-ltb, le-ltb}
use Rattle.numbers.specs.Digits.{has, number_of}
use Rattle.numbers.proofs.DigitLaws.{bit_of_zero}
use Rattle.fields.specs.Fields.{duty, mark_on, least_rests_of, most_rests_of}
use Rattle.rows.specs.Rows.{row_state, duty_of, duty_on, available_on, fixed_day}
use Rattle.rows.proofs.RowLaws.{duty_is}
use Rattle.days.specs.Days.{row_duty}
use Rattle.days.specs.declared.month.Month.{Month}
use Rattle.days.specs.CodeMonth.{IsSheet, in_bounds}

duty_none : (b : List ℕ) (p d : ℕ) → row_duty b p 0 (d + 7) ≡ duty_on b p 0 (suc d)
unfolding row_duty
duty_none b p d =
    let e : d + 7 - 6 ≡ suc d = omega arith in
    rw (le-ltb (d + 7) 7 (omega arith), e)

has_none : (d : ℕ) → has 0 d ≡ false
has_none d = rw (bit_of_zero d)

pub duty_seven : (b : List ℕ) (p t : ℕ) → t < 7 → duty b t ≡ row_duty b p 0 t
unfolding row_duty
duty_seven b p t h = rw (lt-ltb t 7 h)

pub duty_month : (b : List ℕ) (p d : ℕ) {mark state idle : ℕ} → mark ≡ mark_on b (suc d) → state ≡ row_state b p (suc d) → idle ≡ duty_of mark state false
    → idle ≡ row_duty b p 0 (d + 7)
duty_month b p d k s i = duty_is b p 0 d k s (sym (has_none d)) i ∙ sym (duty_none b p d)

-- a sheet is that of equal numbers, days, limits and patterns, and of a pair whose days of the month are the same
pub sheet_as : {b c : List ℕ} {n k l j p q : ℕ} {off of : ℕ → Bool} {m : Month} {row : List ℕ} → b ≡ c → n ≡ k → l ≡ j → p ≡ q → ((d : ℕ) → off (suc d) ≡ of (suc d))
    → IsSheet b n l p off m row → IsSheet c k j q of m row
sheet_as {off = off} {of = of} eb en el ep eo s = record {
  days_is = s.days_is ∙ en;
  longest_is = s.longest_is ∙ el;
  least_is = s.least_is ∙ (λ x. least_rests_of (eb x));
  most_is = s.most_is ∙ (λ x. most_rests_of (eb x));
  available_days = s.available_days ∙ (λ x. number_of (λ d. available_on (eb x) (ep x) (suc d) && not (eo d x)) (en x));
  fixed_is = s.fixed_is ∙ (λ x. number_of (fixed_day (eb x)) (en x));
  within_is = s.within_is ∙ (λ x. number_of (in_bounds (least_rests_of (eb x)) (most_rests_of (eb x))) 32);
  row_is = λ t h. s.row_is t (omega (arith, h, en)) ∙ (λ x. row_duty (eb x) (ep x) 0 t);
}
