-- Question 13: a keeping and a return refuse exactly by their fault.
use Rattle.std.specs.Prelude.{ℕ, ◌<◌, ◌≡◌, refl, Bool, true, false, not, ◌&&◌, ◌↔◌, ◌⊎◌, List, leb, eqb, length, get_or}
use Rattle.std.proofs.Common.{sym, ap, ◌∙◌, subst, true≢false, inl, inr, leb-false, eq-eqb, eqb-true}
use Rattle.std.proofs.lemmas.Bool.{lt-leb, not-false}
use Rattle.std.proofs.Math.Option.{Option, none, some, none-ne-some}
use Rattle.std.specs.declared.result.Result.TheVariants.{Ok, Err}
use Rattle.refusals.specs.Refusals.{numbered, answer_by, unless}
use Rattle.refusals.specs.Questions as question
use Rattle.refusals.specs.declared.Refusal.{Refusal}
use Rattle.refusals.proofs.OrderLaws.{first_last}
use Rattle.history.specs.Session.{keep_number}
use Rattle.history.specs.Questions.{end, ask}
use Rattle.history.proofs.FirstLaws.{Answers, AnswersAll, none_answers, first_answers, unless_answers}
use Rattle.search.specs.declared.Record.{Record as Stored}
use Rattle.outcomes.specs.Outcomes.{refused_with}
use Rattle.keeping.specs.Storage.{storage_words, entry_at, has_room, is_kept, may_keep, keep_no, kept_in, may_return, return_no, record_at, returned_to, returned_of}
use Rattle.planner.specs.Faults.{KeepFault, ReturnFault, keep_questions, return_questions}
use Rattle.planner.specs.Demand1.{no_in_result, no_in_handed, KeepRefuses, ReturnRefuses}

-- ---- where a test of two parts fails

and_when : (a b : Bool) {A B : Type 0} → ((a ≡ false) ↔ A) → ((b ≡ false) ↔ B) → ((a && b) ≡ false) ↔ (A ⊎ B)
and_when true b {A} {B} f g = (λ e. inr (g.0 e), back)
  where
    back : A ⊎ B → b ≡ false
    back (inl x) = absurd (true≢false (f.1 x))
    back (inr y) = g.1 y
and_when false b f g = (λ e. inl (f.0 refl), λ x. refl)

less_when : (a b : ℕ) → (leb a b ≡ false) ↔ (b < a)
less_when a b = (leb-false a b, lt-leb a b)

keep_when : (storage : List ℕ) (n : ℕ) → (may_keep storage n ≡ false) ↔ ((length storage < storage_words) ⊎ ((n < 1) ⊎ (8 < n)))
keep_when storage n =
    and_when (has_room (length storage)) (keep_number n) (less_when storage_words (length storage)) (and_when (leb 1 n) (leb n 8) (less_when 1 n) (less_when n 8))

kept_when : (x : ℕ) → (not (eqb x 0) ≡ false) ↔ (x ≡ 0)
kept_when x = (λ e. eqb-true x 0 (not-false (eqb x 0) e), λ e. rw (eq-eqb x 0 e))

return_when : (storage : List ℕ) (n : ℕ)
    → (may_return storage n ≡ false) ↔ (((length storage < storage_words) ⊎ ((n < 1) ⊎ (8 < n))) ⊎ (get_or storage (entry_at n) 0 ≡ 0))
return_when storage n = and_when (may_keep storage n) (is_kept storage n) (keep_when storage n) (kept_when (get_or storage (entry_at n) 0))

-- ---- the one question of each

one_question : (o : Option Refusal) (number : ℕ) (Fault : ℕ → Type 0) → Answers o number Fault → AnswersAll o (ask number Fault end)
one_question o number Fault f =
    subst (λ (x : Option Refusal). AnswersAll x (ask number Fault end)) (first_last o) (first_answers o none number Fault end f none_answers)

keep_answers : (storage : List ℕ) (n : ℕ) → AnswersAll (keep_no storage n) (keep_questions storage n)
unfolding keep_no
keep_answers storage n =
    one_question (unless (may_keep storage n) question.storage 0) question.storage (KeepFault storage n)
    (unless_answers (may_keep storage n) question.storage 0 _ (keep_when storage n))

return_answers : (storage : List ℕ) (n : ℕ) → AnswersAll (return_no storage n) (return_questions storage n)
unfolding return_no
return_answers storage n =
    one_question (unless (may_return storage n) question.storage 0) question.storage (ReturnFault storage n)
    (unless_answers (may_return storage n) question.storage 0 _ (return_when storage n))

-- ---- the calls

-- what is refused is not done
not_done : (b : Bool) {n : Refusal} → unless b question.storage 0 ≡ some n → b ≡ false
not_done true {n} e = absurd (none-ne-some n e)
not_done false e = refl

keep_leaves : (storage : List ℕ) (n : ℕ) (r : Stored) {no : Refusal} → keep_no storage n ≡ some no → kept_in storage n r ≡ storage
unfolding keep_no kept_in
keep_leaves storage n r e = rw (not_done (may_keep storage n) e)

return_leaves : (storage : List ℕ) (n : ℕ) (r : Stored) {no : Refusal} → return_no storage n ≡ some no → returned_to storage n r ≡ r
unfolding return_no returned_to
return_leaves storage n r e = rw (returned_to, not_done (may_return storage n) e)

-- the refusal in an answer, and in what a return answers
no_back : (o : Option Refusal) → no_in_result (answer_by o) ≡ o
no_back none = refl
no_back (some n) = refl

return_back : (o : Option Refusal) (kept r : Stored) → no_in_handed {T = Stored} (elim o [ none ↦ Ok kept | some x ↦ Err (refused_with x r) ]) ≡ o
return_back none kept r = refl
return_back (some n) kept r = refl

-- a return's answer by its refusal
pub return_answered : (storage : List ℕ) (n : ℕ) (r : Stored) (x : Refusal) → no_in_result (answer_by (return_no storage n)) ≡ some x → no_in_handed (returned_of storage n r) ≡ some x
return_answered storage n r x e = return_back (return_no storage n) (record_at storage n) r ∙ sym (no_back (return_no storage n)) ∙ e

pub keep_refuses : (r : Stored) (n : ℕ) (storage : List ℕ) → KeepRefuses r n storage
keep_refuses r n storage = record {
  only = λ q p e. (keep_answers storage n (numbered q p)).0 (sym (no_back (keep_no storage n)) ∙ e);
  always = λ q p f. let e = (keep_answers storage n (numbered q p)).1 f in (ap answer_by e, keep_leaves storage n r e);
}

pub return_refuses : (r : Stored) (n : ℕ) (storage : List ℕ) → ReturnRefuses r n storage
return_refuses r n storage = record {
  only = λ q p e. (return_answers storage n (numbered q p)).0 (sym (return_back (return_no storage n) (record_at storage n) r) ∙ e);
  always = λ q p f. let e = (return_answers storage n (numbered q p)).1 f in (rw (returned_of, e), return_leaves storage n r e);
}
