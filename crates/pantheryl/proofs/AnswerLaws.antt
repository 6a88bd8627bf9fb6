-- The words that are written are those of the planner's answers.
use Rattle.std.specs.Prelude.{ℕ, ◌-◌, ◌≡◌, refl, Bool, true, false, cond, List, ◌++◌, length, drop, replicate}
use Rattle.std.proofs.Common.{sym, ap, ◌∙◌, subst, arith, length-append, take_at}
use Rattle.std.proofs.Math.Option.{Option, none, some}
use Rattle.std.specs.declared.result.Result.{Result}
use Rattle.std.specs.declared.result.Result.TheVariants.{Ok, Err}
use Rattle.fields.specs.Sizes.{letter_places}
use Rattle.refusals.specs.declared.Refusal.{Refusal}
use Rattle.refusals.specs.Refusals.{answer_by, unless}
use Rattle.refusals.specs.Questions as question
use Rattle.keeping.specs.Storage.{may_return, return_no, record_at, returned_of}
use Rattle.search.specs.declared.Record.{Record as Stored}
use Rattle.history.specs.Phase.{Answer, refused, ended, end_zero, end_asked, end_none}
use Rattle.outcomes.specs.Outcomes.{refused_with, advance_of, roster_of}
use Rattle.outcomes.specs.declared.Advance.{Advance}
use Rattle.outcomes.specs.declared.Refused.{Refused}
use Rattle.recordwords.specs.Words.{words_of_record}
use Rattle.answerwords.specs.AnswerWords.{count_words, advance_words}
use Rattle.answerwords.specs.CodeAnswers.{result_words}
use Rattle.pantheryl.specs.CodeAfter.{words_after, CountFits, roster_after, RosterFits}
use Rattle.pantheryl.specs.Answers.{words_left, roster_left, returned_words}

-- ---- the advances: what the code gives of an advance's answer is what the contracts say of it

-- an advance's result with its refusal alone
abbrev pub refusal_alone : Result Advance Refused → Result Advance Refusal
refusal_alone (Err x) = Err x.refusal
refusal_alone (Ok x) = Ok x

pub said_words : (a : Answer × Stored) → result_words (refusal_alone (advance_of a)) ≡ advance_words a.0
unfolding advance_of roster_of advance_words
said_words (refused n, r) = refl
said_words (ended end_zero made penalty letters, r) = refl
said_words (ended end_asked made penalty letters, r) = refl
said_words (ended end_none made penalty letters, r) = refl

left_words_of : (a : Answer × Stored) (before : List ℕ) → words_after (refusal_alone (advance_of a)) before ≡ words_left a before
unfolding advance_of words_left
left_words_of (refused n, r) before = refl
left_words_of (ended e made penalty letters, r) before = refl

left_roster_of : (a : Answer × Stored) (before : List ℕ) → roster_after (refusal_alone (advance_of a)) before ≡ roster_left a.0 before
unfolding advance_of roster_of roster_left
left_roster_of (refused n, r) before = refl
left_roster_of (ended e made penalty letters, r) before =
    ap (λ (t : List ℕ). t ++ drop (length letters) before) (take_at letters (replicate (letter_places - length letters) 0) (length letters) refl)

roster_fits_of : (a : Answer × Stored) → RosterFits (refusal_alone (advance_of a))
unfolding RosterFits advance_of roster_of
roster_fits_of (refused n, r) = tt
roster_fits_of (ended e made penalty letters, r) = λ long. omega (arith, length-append letters (replicate (letter_places - length letters) 0))

-- the same of the result as a call has it, its refusal alone
module _ (a : Answer × Stored) {x : Result Advance Refused} {y : Result Advance Refusal} (is : x ≡ advance_of a) (alone : y ≡ refusal_alone x) where
  alone_of : y ≡ refusal_alone (advance_of a)
  alone_of = alone ∙ ap refusal_alone is

  pub told_words : {w : List ℕ} → w ≡ result_words y → w ≡ advance_words a.0
  told_words e = e ∙ ap result_words alone_of ∙ said_words a

  pub left_words : {w : List ℕ} (before : List ℕ) → w ≡ words_after y before → w ≡ words_left a before
  left_words before e = e ∙ ap (λ (z : Result Advance Refusal). words_after z before) alone_of ∙ left_words_of a before

  pub left_roster : {w : List ℕ} (before : List ℕ) → w ≡ roster_after y before → w ≡ roster_left a.0 before
  left_roster before e = e ∙ ap (λ (z : Result Advance Refusal). roster_after z before) alone_of ∙ left_roster_of a before

  pub roster_fits : RosterFits y
  roster_fits = subst RosterFits (sym alone_of) (roster_fits_of a)

pub count_fits : {r : Result Advance Refusal} {x : Advance} → RosterFits r → r ≡ Ok x → CountFits x.roster
unfolding RosterFits
count_fits f e = subst RosterFits e f

-- ---- returns

module _ (storage : List ℕ) (n : ℕ) (rec : Stored) (words : List ℕ) where
  -- by whether it is refused
  abbrev Returned : Option Refusal → Bool → Result Stored Refused → Type 0
  Returned o b (Err x) = (count_words (Err x.refusal) 0 ≡ count_words (answer_by o) 0) × (words ≡ cond b (words_of_record (record_at storage n)) words)
  Returned o b (Ok r) = (count_words (Ok tt) 0 ≡ count_words (answer_by o) 0) × (words_of_record r ≡ cond b (words_of_record (record_at storage n)) words)

  returned_by : (b : Bool) → Returned (unless b question.storage 0) b (elim (unless b question.storage 0) [ none ↦ Ok (record_at storage n) | some x ↦ Err (refused_with x rec) ])
  returned_by true = (refl, refl)
  returned_by false = (refl, refl)

  pub returned : {x : Result Stored Refused} → x ≡ returned_of storage n rec → Returned (return_no storage n) (may_return storage n) x
  unfolding return_no
  returned e = subst (Returned (return_no storage n) (may_return storage n)) (sym e) (returned_by (may_return storage n))

  module _ {x : Result Stored Refused} (e : x ≡ returned_of storage n rec) where
    pub returned_no : {no-said : Refused} → x ≡ Err no-said → (count_words (Err no-said.refusal) 0 ≡ count_words (answer_by (return_no storage n)) 0) × (words ≡ returned_words storage n words)
    unfolding returned_words
    returned_no q = subst (Returned (return_no storage n) (may_return storage n)) q (returned e)

    pub returned_yes : {r : Stored} → x ≡ Ok r → words_of_record r ≡ returned_words storage n words
    unfolding returned_words
    returned_yes q = (subst (Returned (return_no storage n) (may_return storage n)) q (returned e)).1
