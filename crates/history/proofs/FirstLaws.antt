-- The first no of questions in their order: what each question answers, in words of its own, gives what all of them answer.
use Rattle.std.specs.Prelude.{ℕ, suc, ◌<◌, ◌≡◌, refl, Bool, true, false, ◌≢◌, ◌↔◌, ◌⊎◌, []}
use Rattle.std.proofs.Common.{sym, ap, ◌∙◌, subst, true≢false, inl, inr}
use Rattle.std.proofs.Math.Option.{Option, none, some, none-ne-some, some-injective}
use Rattle.numbers.specs.Range.{up_from}
use Rattle.history.specs.Phase.{Phase}
use Rattle.refusals.specs.declared.Refusal.{Refusal}
use Rattle.refusals.specs.Refusals.{numbered, first, unless}
use Rattle.refusals.specs.Questions as question
use Rattle.refusals.proofs.OrderLaws.{first_assoc, refusal_path}
use Rattle.history.specs.Record.{lacking}
use Rattle.history.specs.Claim.{Without}
use Rattle.history.specs.Questions.{Questions, end, ask, FirstNo}
use Rattle.history.proofs.FollowLaws.{lacking_each}
use Rattle.history.proofs.WithoutLaws.{lacking_lowest, one_or_other}

-- one question: it is a no exactly where its fault holds
abbrev pub Answers : Option Refusal → ℕ → (ℕ → Type 0) → Type 0
Answers o number Fault = (n : Refusal) → (o ≡ some n) ↔ ((n.question ≡ number) × Fault n.place)

-- questions in their order: the answer is the first no
abbrev pub AnswersAll : Option Refusal → Questions → Type 0
AnswersAll o qs = (n : Refusal) → (o ≡ some n) ↔ FirstNo qs n.question n.place

-- ---- questions in their order

pub none_answers : AnswersAll none end
unfolding FirstNo
none_answers n = (none-ne-some n, λ z. absurd z)

pub first_answers : (a b : Option Refusal) (number : ℕ) (Fault : ℕ → Type 0) (qs : Questions) → Answers a number Fault → AnswersAll b qs
    → AnswersAll (first a b) (ask number Fault qs)
unfolding FirstNo
first_answers none b number Fault qs f g n = (
  λ e. inr (λ p w. none-ne-some _ ((f (numbered number p)).1 (refl, w)), (g n).0 e),
  back,
)
  where
    back : ((n.question ≡ number) × Fault n.place) ⊎ (((place : ℕ) → Fault place → ⊥) × FirstNo qs n.question n.place) → b ≡ some n
    back (inl w) = absurd (none-ne-some n ((f n).1 w))
    back (inr w) = (g n).1 w.1
first_answers (some m) b number Fault qs f g n = (λ e. inl ((f n).0 e), back)
  where
    back : ((n.question ≡ number) × Fault n.place) ⊎ (((place : ℕ) → Fault place → ⊥) × FirstNo qs n.question n.place) → some m ≡ some n
    back (inl w) = (f n).1 w
    back (inr w) = absurd (w.0 m.place ((f m).0 refl).1)

pub assoc_answers : (a b c : Option Refusal) (qs : Questions) → AnswersAll (first a (first b c)) qs → AnswersAll (first (first a b) c) qs
assoc_answers a b c qs f = subst (λ (o : Option Refusal). AnswersAll o qs) (sym (first_assoc a b c)) f

-- ---- one question

-- its fault in other words
pub answers_same : (o : Option Refusal) (number : ℕ) (Fault Wrong : ℕ → Type 0) → ((p : ℕ) → Fault p ↔ Wrong p) → Answers o number Fault → Answers o number Wrong
answers_same o number Fault Wrong same f n = (
  λ e. let w = (f n).0 e in (w.0, (same n.place).0 w.1),
  λ w. (f n).1 (w.0, (same n.place).1 w.1),
)

pub unless_answers : (b : Bool) (q i : ℕ) (Wrong : Type 0) → ((b ≡ false) ↔ Wrong) → Answers (unless b q i) q (λ p. (p ≡ i) × Wrong)
unless_answers true q i Wrong when n = (
  λ e. absurd (none-ne-some n e),
  λ w. absurd (true≢false (when.1 w.1.1)),
)
unless_answers false q i Wrong when n = (
  λ e.
      let same : numbered q i ≡ n = some-injective _ n e in
      (sym (ap (λ (m : Refusal). m.question) same), (sym (ap (λ (m : Refusal). m.place) same), when.0 refl)),
  λ w. ap {B = Option Refusal} some (refusal_path (numbered q i) n (sym w.0) (sym w.1.0)),
)

-- question 10: the place is the number of the lowest nurse who has no pattern
pub lacking_answers : (P : Phase) → Answers (lacking P.patterns (up_from 0 P.nurses)) 10 (λ p. (i : ℕ) × (p ≡ suc i) × Without P i)
lacking_answers P n = (
  λ e. forth e (one_or_other P),
  λ w. lacking_lowest P w.1.0 w.1.2 ∙ ap {B = Option Refusal} some (refusal_path (numbered question.patterns (suc w.1.0)) n (sym w.0) (sym w.1.1)),
)
  where
    forth : lacking P.patterns (up_from 0 P.nurses) ≡ some n → ((i : ℕ) → i < P.nurses → P.patterns i ≢ []) ⊎ ((i : ℕ) × Without P i)
        → (n.question ≡ 10) × ((i : ℕ) × (n.place ≡ suc i) × Without P i)
    forth e (inl has) = absurd (none-ne-some n (sym (lacking_each P has) ∙ e))
    forth e (inr x) =
        let same : numbered question.patterns (suc x.0) ≡ n = some-injective _ n (sym (lacking_lowest P x.0 x.1) ∙ e) in
        (sym (ap (λ (m : Refusal). m.question) same), (x.0, sym (ap (λ (m : Refusal). m.place) same), x.1))
