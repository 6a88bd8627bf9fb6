-- The check's answers are those of its meaning.
use Rattle.std.specs.Prelude.{ℕ, ◌-◌, ◌*◌, ◌≡◌, refl, Bool, cond, List, ◌++◌, length, take, replicate}
use Rattle.std.proofs.Common.{sym, ap, ap₂, ◌∙◌, arith, take_at}
use Rattle.std.specs.declared.option.Option.{Option}
use Rattle.std.specs.declared.option.Option.TheVariants.{Some, None}
use Rattle.std.specs.declared.result.Result.{Result}
use Rattle.std.specs.declared.result.Result.TheVariants.{Ok, Err}
use Rattle.refusals.specs.Refusals.{numbered}
use Rattle.refusals.specs.Questions as question
use Rattle.fields.specs.Sizes.{number_places}
use Rattle.fields.specs.Fields.{body_of, nurses, days}
use Rattle.layout.specs.Grammar.{Read, good, bad}
use Rattle.ward.specs.Answers.{reading_of, read_ward}
use Rattle.refusals.specs.declared.Refusal.{Refusal}
use Rattle.ward.specs.declared.Ward.{Ward}
use Rattle.letters.specs.Letters.{misplaced}
use Rattle.rostercheck.specs.CodeCheck.{holds}
use Rattle.letters.specs.CodeLetters.{found_of}
use Rattle.letters.proofs.LetterLaws.{placed_long}
use Rattle.outcomes.specs.declared.Verdict.{Verdict}
use Rattle.outcomes.specs.declared.Verdict.TheVariants.{Passed, Broken}
use Rattle.planner.specs.Answers.{check_letters, check_over, check_says}

-- ---- question 12 and the rules

module _ (w roster : List ℕ) (p : Option ℕ) {m n : ℕ} (em : m ≡ nurses w) (en : n ≡ days w) (found : found_of p ≡ misplaced (m * n) roster) where
  misplaced_is : misplaced (nurses w * days w) roster ≡ found_of p
  misplaced_is = ap (λ (k : ℕ). misplaced k roster) (ap₂ (λ (a b : ℕ). a * b) (sym em) (sym en)) ∙ sym found

  pub letters_long : p ≡ None → length roster ≡ nurses w * days w
  letters_long e = placed_long (nurses w * days w) roster (misplaced_is ∙ ap found_of e)

  pub letters_refused : {place : ℕ} → p ≡ Some place → Err (numbered question.letters place) ≡ check_letters w roster
  unfolding check_letters
  letters_refused e = sym (rw (misplaced_is ∙ ap found_of e, check_letters))

  pub letters_said : {b : Bool} → p ≡ None → holds w roster ≡ b → Ok (cond b Passed Broken) ≡ check_letters w roster
  unfolding check_letters
  letters_said e h = sym (rw (misplaced_is ∙ ap found_of e, check_letters, h))

-- ---- what the reader said

module _ (file : List ℕ) (w : Ward) (e : Ok w ≡ reading_of (read_ward file)) where
  pub reading_good : read_ward file ≡ good (take w.count w.numbers)
  unfolding reading_of
  reading_good = go (read_ward file) e
    where
      go : (x : Read) → Ok w ≡ reading_of x → x ≡ good (take w.count w.numbers)
      go (good ws) same =
          let r : w ≡ record { numbers = ws ++ replicate (number_places - length ws) 0; count = length ws } = cc in
          let is : take w.count w.numbers ≡ ws = ap (λ (y : Ward). take y.count y.numbers) r ∙ take_at ws _ (length ws) refl in
          ap good (sym is)
      go (bad n) same = let z : ◌≡◌ {A = ℕ} 0 1 = cc in absurd (omega arith)

-- ---- the check

module _ (file roster : List ℕ) where
  pub check_refused : {n : Refusal} → read_ward file ≡ bad n → Err n ≡ check_says file roster
  unfolding check_over
  check_refused e = sym (ap (λ (x : Read). check_over x roster) e)

  pub check_says_lem : (w : Ward) → Ok w ≡ reading_of (read_ward file) → {s : Result Verdict Refusal} {body : List ℕ}
      → body ≡ body_of (take w.count w.numbers) → s ≡ check_letters body roster → s ≡ check_says file roster
  unfolding check_over
  check_says_lem w e q h = h ∙ ap (λ (v : List ℕ). check_letters v roster) q ∙ sym (ap (λ (x : Read). check_over x roster) (reading_good file w e))
