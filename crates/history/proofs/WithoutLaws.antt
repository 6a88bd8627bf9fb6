-- Where a nurse has no pattern, question 10 names the lowest; and lists of operations whose advances are each refused.
use Rattle.std.specs.Prelude.{ℕ, zero, suc, ◌+◌, ◌≤◌, ◌<◌, Bool, ◌≡◌, refl, ◌≢◌, ◌⊎◌, List, [], ◌∷◌, length}
use Rattle.std.proofs.Common.{sym, ap, ◌∙◌, inl, inr, eq-or-lt_of_le, not-suc-le-zero, arith}
use Rattle.std.proofs.Math.Option.{some}
use Rattle.numbers.specs.Range.{up_from}
use Rattle.refusals.specs.Refusals.{numbered}
use Rattle.refusals.specs.Questions as question
use Rattle.history.specs.Phase.{Phase, Call, Answer, refused, in_turn}
use Rattle.refusals.specs.declared.Refusal.{Refusal}
use Rattle.history.specs.Record.{Record, fresh, lacking}
use Rattle.history.specs.Session.{Operation, begun, known, act}
use Rattle.history.specs.Claim.{Without, OneOrOther, turned_away}
use Rattle.history.proofs.SessionLaws.{every_begun, turns_alike}

module _ (P : Phase) (i : ℕ) (w : Without P i) where
  abbrev ten : Refusal
  ten = numbered question.patterns (suc i)

  lacking_from : (a n : ℕ) → a ≤ i → i < a + n → lacking P.patterns (up_from a n) ≡ some ten
  unfolding up_from
  lacking_from a zero l h = absurd (omega arith)
  lacking_from a (suc n) l h = go (P.patterns a) refl (λ q. lacking_from (suc a) n q (omega arith)) (eq-or-lt_of_le l)
    where
      go : (ps : List ℕ) → P.patterns a ≡ ps → (a < i → lacking P.patterns (up_from (suc a) n) ≡ some ten) → (a ≡ i) ⊎ (a < i)
          → lacking P.patterns (a ∷ up_from (suc a) n) ≡ some ten
      go [] e f (inl q) = rw (e, lacking, q)
      go [] e f (inr q) = absurd (w.lower a q e)
      go (p ∷ ps) e f (inl q) =
          let z : length (p ∷ ps) ≡ length {A = ℕ} [] = ap length (sym e ∙ ap P.patterns q ∙ w.no_pattern) in
          absurd (omega arith)
      go (p ∷ ps) e f (inr q) = rw (e, lacking) (f q)

  pub lacking_lowest : lacking P.patterns (up_from 0 P.nurses) ≡ some ten
  lacking_lowest = lacking_from 0 P.nurses (omega arith) (omega (arith, w.nurse))

-- the nurses below m, one after the other
module _ (P : Phase) where
  one_of : (m : ℕ) → m ≤ P.nurses → ((i : ℕ) → i < m → P.patterns i ≢ []) ⊎ ((i : ℕ) × Without P i)
  one_of zero l = inl (λ i h. absurd (not-suc-le-zero h))
  one_of (suc m) l = next (one_of m (omega arith)) (P.patterns m) refl
    where
      next : ((i : ℕ) → i < m → P.patterns i ≢ []) ⊎ ((i : ℕ) × Without P i) → (ps : List ℕ) → P.patterns m ≡ ps
          → ((i : ℕ) → i < suc m → P.patterns i ≢ []) ⊎ ((i : ℕ) × Without P i)
      next (inr x) ps e = inr x
      next (inl f) [] e = inr (m, record { nurse = omega arith; no_pattern = e; lower = f })
      next (inl f) (p ∷ ps) e = inl (λ i h q. each i (eq-or-lt_of_le h) q)
        where
          each : (i : ℕ) → (suc i ≡ suc m) ⊎ (suc i < suc m) → P.patterns i ≢ []
          each i (inl q) z =
              let y : i ≡ m = omega arith in
              let x : length (p ∷ ps) ≡ length {A = ℕ} [] = ap length (sym e ∙ ap P.patterns (sym y) ∙ z) in
              absurd (omega arith)
          each i (inr q) z = f i (omega arith) z

pub one_or_other : OneOrOther
one_or_other P = one_of P P.nurses (omega arith)

-- where every advance from fresh is refused, in a search that holds a record as f says: all goes as if nothing were searched
pub all_refused : (room : Bool) {U : Type 0} (adv : Call → U → Answer × U) (f : Record → U) (why : Call → Refusal) → ((c : Call) → adv c (f fresh) ≡ (refused (why c), f fresh))
    → (ops : List Operation)
    → in_turn (act adv room) ops (begun (f fresh)) ≡ ((in_turn (act (turned_away why) room) ops (begun fresh)).0, known f (in_turn (act (turned_away why) room) ops (begun fresh)).1)
all_refused room {U} adv f why one ops =
    turns_alike (turned_away why) adv room f (λ r. r ≡ fresh) (λ c r e. e)
    (λ c r e. ap (λ (x : Record). adv c (f x)) e ∙ one c ∙ ap (λ (x : Record). (refused (why c), f x)) (sym e))
    ops (begun fresh) (every_begun (λ r. r ≡ fresh) fresh refl)
