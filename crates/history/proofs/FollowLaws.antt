-- The record follows the history, step by step.
use Rattle.std.specs.Prelude.{ℕ, zero, suc, ◌<◌, ◌≡◌, refl, Bool, true, false, ◌&&◌, ◌||◌, ◌≢◌, List, [], ◌∷◌, eqb, length, take}
use Rattle.std.proofs.Common.{ap, ap₂, ◌∙◌, arith, take-take, eqb-true}
use Rattle.std.proofs.Math.Dec.{eqb-suc-suc}
use Rattle.std.proofs.Math.Option.{none, some}
use Rattle.std.proofs.Math.Path.{fun_ext}
use Rattle.std.proofs.Math.Seq.{take-nil}
use mathlib.Core.List.{Memᴰ}
use Rattle.history.specs.Slot.{exchanged}
use Rattle.numbers.specs.Range.{up_from}
use Rattle.history.specs.Phase.{Step, Phase, Call, refused, holds, exchanges, least, stops, refusal}
use Rattle.refusals.specs.declared.Refusal.{Refusal}
use Rattle.history.specs.History.{History, in_use, given_up, penalty, allowed, next, extend, reply, advance}
use Rattle.history.specs.Record.{removals, record_of, fresh, barred, may_take, total, best, stepped, proceed, lacking}
use Rattle.history.proofs.Lawful.{Lawful}
use Rattle.history.proofs.ChooseLaws.{range_only}
use Rattle.history.proofs.RunLaws.{alike}

-- ---- what is barred

and_cong : (a b c : Bool) → (a ≡ true → b ≡ c) → (a && b) ≡ (a && c)
and_cong true b c f = f refl
and_cong false b c f = refl

pub barred_given_up : (i p n : ℕ) (h : History) → barred (take n (removals h)) (suc i) p ≡ given_up n h i p
barred_given_up i p zero h = refl
barred_given_up i p (suc n) [] = refl
barred_given_up i p (suc n) (s ∷ h) =
    ap₂ ◌||◌
    (ap (λ (b : Bool). b && holds (in_use h s.nurse) p) (eqb-suc-suc i s.nurse)
    ∙ and_cong (eqb i s.nurse) (holds (in_use h s.nurse) p) (holds (in_use h i) p) (λ e. rw (eqb-true i s.nurse e)))
    (barred_given_up i p n h)

pub may_take_allowed : (P : Phase) (h : History) (i p : ℕ) → may_take (record_of P h) i p ≡ allowed P h i p
unfolding may_take allowed record_of
may_take_allowed P h i p = rw (barred_given_up i p P.tabu h)

-- ---- the step

take_again : {A : Type 0} (n : ℕ) (x : A) (l : List A) → take n (x ∷ take n l) ≡ take n (x ∷ l)
take_again zero x l = refl
take_again {A} (suc n) x l = ap {B = List A} (λ r. x ∷ r) (take-take n (suc n) l (omega arith))

module _ (P : Phase) where
  pub total_penalty : (h : History) → total P (record_of P h) ≡ penalty P h
  unfolding total record_of penalty
  total_penalty h = refl

  costs : (h : History) (s : Step) → P.cost (exchanged (record_of P h).slots s.nurse s.pattern) ≡ penalty P (s ∷ h)
  unfolding record_of penalty
  costs h s = refl

  pub best_next : (h : History) → best P (record_of P h) ≡ next P h
  unfolding best next
  best_next h =
      ap₂ least (fun_ext (costs h))
      (ap (exchanges P) (fun_ext (λ i. fun_ext (λ p. may_take_allowed P h i p))))

  pub stepped_next : (s : Step) (h : History) → stepped P.tabu s (record_of P h) ≡ record_of P (s ∷ h)
  unfolding stepped record_of
  stepped_next s h = rw (take_again)

  pub fresh_record : fresh ≡ record_of P []
  unfolding record_of
  fresh_record = rw (take-nil)

-- ---- question 10

module _ (P : Phase) where
  lacking_none' : (is : List ℕ) → ((i : ℕ) → Memᴰ i is → P.patterns i ≢ []) → lacking P.patterns is ≡ none
  lacking_none' [] w = refl
  lacking_none' (i ∷ is) w = go (P.patterns i) refl (lacking_none' is (λ j m. w j (Memᴰ.tail m)))
    where
      go : (l : List ℕ) → P.patterns i ≡ l → lacking P.patterns is ≡ none → lacking P.patterns (i ∷ is) ≡ none
      go [] e ih = absurd (w i (Memᴰ.head refl) e)
      go (p ∷ ps) e ih = rw (e, lacking) ih

  pub lacking_each : ((i : ℕ) → i < P.nurses → P.patterns i ≢ []) → lacking P.patterns (up_from 0 P.nurses) ≡ none
  lacking_each has = lacking_none' (up_from 0 P.nurses) (λ i m. has i (omega (arith, range_only 0 P.nurses i m)))

  pub lacking_none : Lawful P → lacking P.patterns (up_from 0 P.nurses) ≡ none
  lacking_none w = lacking_each w.some_pattern

-- ---- one advance

module _ (P : Phase) (c : Call) where
  pub advance_refused : (h : History) (n : Refusal) → refusal P c (length h) ≡ some n → advance P c h ≡ (refused n, h)
  unfolding advance
  advance_refused h n e = rw (e, advance)

  pub advance_goes : (h : History) → refusal P c (length h) ≡ none → advance P c h ≡ reply P h (extend P c.past_zero c.steps h)
  unfolding advance
  advance_goes h e = rw (e, advance)

-- ---- steps of a record are those of the history

module _ (P : Phase) (past_zero : Bool) where
  pub proceed_extend : (h : History) (k : ℕ) → proceed P past_zero k (record_of P h) ≡ (record_of P (extend P past_zero k h).0, (extend P past_zero k h).1)
  unfolding proceed extend
  proceed_extend h k =
      alike (λ g. stops past_zero (penalty P g)) (next P) (λ s g. s ∷ g) (λ r. stops past_zero (total P r)) (best P) (stepped P.tabu) (record_of P) (λ g. Unit)
      (λ g i. ap (stops past_zero) (total_penalty P g))
      (λ g i. best_next P g)
      (λ g s i e. stepped_next P s g)
      (λ g s i e. tt)
      k h tt
