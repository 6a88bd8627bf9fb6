-- Counts over a column are counts over the nurses, so that needs, lows and highs are judged by columns.
use Rattle.std.specs.Prelude.{◌≡◌, Bool, false, ◌&&◌, List, ℕ, ◌≤◌, ◌<◌, get_or}
use Rattle.std.proofs.Common.{ap, ap₂, ◌∙◌, subst, arith, le-leb}
use Rattle.std.proofs.lemmas.Bool.{lt-leb}
use Rattle.numbers.specs.Range.{up_from, all}
use Rattle.numbers.specs.Sum.{count_to, Is}
use Rattle.numbers.specs.Digits.{has, number_of}
use Rattle.numbers.proofs.DigitLaws.{number_lt, number_has}
use Rattle.numbers.proofs.SetLaws.{has_above}
use Rattle.numbers.proofs.AgreeLaws.{all_agree}
use Rattle.fields.specs.Fields.{Accepted, nurses, days, groups, member_sets, needs, need}
use Rattle.fields.proofs.FieldLaws.{length_member_sets}
use Rattle.penalty.specs.Penalty.{on_duty, members}
use Rattle.penalty.specs.CodeColumns.{Same}
use Rattle.penalty.proofs.ColumnLaws.{count_same, all_same}
use Rattle.rostercheck.specs.Check.{duty_letter, lettered, at_duty}
use Rattle.rostercheck.specs.CodeCheck.{group_holds, duty_holds}
use Rattle.rostercheck.specs.CodeBounds.{bounds_hold, all_bounds_hold}

module _ (w roster : List ℕ) (k d col : ℕ) (a : Accepted w) (s : Same (nurses w) (has col) (at_duty w roster k d)) where
  column_count : count_to 64 (has col) ≡ on_duty w (at_duty w roster k d)
  unfolding on_duty
  column_count = all_same (nurses w) (has col) (at_duty w roster k d) s 64 (omega (arith, a.nurses_most))

  column_members : (g : ℕ) → count_to 64 (λ i. has col i && has (get_or (member_sets w) g 0) i) ≡ members w (at_duty w roster k d) g
  unfolding members
  column_members g = count_same (nurses w) (has col) (at_duty w roster k d) s 64 (omega (arith, a.nurses_most)) (has (get_or (member_sets w) g 0))

  bounds_are : (g : ℕ) → bounds_hold (member_sets w) (needs w d) k col g ≡ group_holds w roster k d g
  unfolding bounds_hold group_holds
  bounds_are g = rw (column_members g)

  all_bounds_are : all_bounds_hold (member_sets w) (needs w d) k col ≡ all (group_holds w roster k d) (up_from 0 (groups w))
  unfolding all_bounds_hold
  all_bounds_are =
      ap (λ (n : ℕ). all (bounds_hold (member_sets w) (needs w d) k col) (up_from 0 n)) (length_member_sets w a)
      ∙ all_agree (bounds_hold (member_sets w) (needs w d) k col) (group_holds w roster k d) 0 (groups w) (λ g l h. bounds_are g)

  pub need_short : {x y : ℕ} {numbers : List ℕ} → numbers ≡ needs w d → Is x (count_to 64 (has col)) 64 → y ≡ need numbers k → x < y → false ≡ duty_holds w roster k d
  unfolding duty_holds
  need_short {x} {y} e q n h =
      let l : y ≡ need (needs w d) k = n ∙ ap (λ (r : List ℕ). need r k) e in
      rw (lt-leb (need (needs w d) k) (on_duty w (at_duty w roster k d)) (omega (arith, q.is, column_count)))

  pub need_enough : {x y : ℕ} {r : Bool} {numbers sets : List ℕ} → numbers ≡ needs w d → sets ≡ member_sets w → Is x (count_to 64 (has col)) 64 → y ≡ need numbers k → y ≤ x
      → r ≡ all_bounds_hold sets numbers k col → r ≡ duty_holds w roster k d
  unfolding duty_holds
  need_enough {x} {y} e m q n h b =
      let l : y ≡ need (needs w d) k = n ∙ ap (λ (r : List ℕ). need r k) e in
      b ∙ ap₂ (λ (y z : List ℕ). all_bounds_hold y z k col) m e ∙ all_bounds_are
      ∙ rw (le-leb (need (needs w d) k) (on_duty w (at_duty w roster k d)) (omega (arith, q.is, column_count)))

-- a set of the first m nurses
pub same_set : (t : ℕ → Bool) (m x : ℕ) {k : ℕ} → k ≡ m → x ≡ number_of t k → Same m (has x) t
same_set t m x q e =
    let o : x ≡ number_of t m = e ∙ ap (number_of t) q in
    record {
      above = λ i l. has_above m x i (rw o (number_lt t m)) l;
      bits = λ i l. ap (λ (y : ℕ). has y i) o ∙ number_has t m i l;
    }

-- the column as the code asks for it
pub column_as : (w roster : List ℕ) (k d col : ℕ) {c : ℕ} → Same (nurses w) (has col) (lettered roster (days w) d c) → c ≡ duty_letter k
    → Same (nurses w) (has col) (at_duty w roster k d)
column_as w roster k d col s e = subst (λ (z : ℕ). Same (nurses w) (has col) (lettered roster (days w) d z)) e s
