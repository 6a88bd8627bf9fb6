-- The number of starts of a pattern is the count of its ones.
use Rattle.std.specs.Prelude.{◌≡◌, Bool, ℕ, zero, suc, ◌+◌, ◌<◌, length}
use Rattle.std.proofs.Common.{sym, ap, ap₂, ◌∙◌, suc-le-suc, add-zero, arith, one-add}
use Rattle.numbers.specs.Range.{up_from, filter}
use Rattle.numbers.specs.Sum.{count_to, one_if}
use Rattle.numbers.specs.Digits.{has}
use Rattle.numbers.proofs.RangeLaws.{length_filtered}
use Rattle.numbers.proofs.SumLaws.{sum_zero, sum_front}
use Rattle.rows.specs.Rows.{started}
use Rattle.nights.specs.Nights.{starts}

-- how many a test keeps of a range
pub count_filtered : (t u : ℕ → Bool) (a n : ℕ) → ((i : ℕ) → i < n → t (a + i) ≡ u i) → length (filter t (up_from a n)) ≡ count_to n u
unfolding filter up_from
count_filtered t u a zero h = sym (sum_zero (λ i. one_if (u i)))
count_filtered t u a (suc n) h =
    length_filtered (t a) a (filter t (up_from (suc a) n))
    ∙ ap₂ (λ (x y : ℕ). x + y) (ap one_if (ap t (sym (add-zero a)) ∙ h 0 (omega arith)))
    (count_filtered t (λ i. u (suc i)) (suc a) n (λ i l. ap t (one_on a i) ∙ h (suc i) (suc-le-suc l)))
    ∙ sym (sum_front n (λ i. one_if (u i)))
  where
    one_on : (x i : ℕ) → suc x + i ≡ x + suc i
    one_on x i = omega arith

pub count_starts : (n p : ℕ) → length (starts n p) ≡ count_to n (has p)
unfolding starts
count_starts n p = count_filtered (started p) (has p) 1 n (λ i l. ap (started p) (one-add i))
