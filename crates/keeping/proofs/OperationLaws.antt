-- Operations on a record and storage that was all zeros go as those of the session that they hold.
use Rattle.std.specs.Prelude.{ℕ, ◌≡◌, refl, Bool, true, false, List, replicate}
use Rattle.std.proofs.Common.{sym, ap, ap₂, ◌∙◌}
use Rattle.std.proofs.Math.Option.{Option}
use Rattle.refusals.specs.Refusals.{unless}
use Rattle.refusals.specs.Questions as question
use Rattle.refusals.specs.declared.Refusal.{Refusal}
use Rattle.history.specs.Phase.{Call, Answer, in_turn}
use Rattle.history.specs.Session.{Operation, operation_advance, operation_keep, operation_return, Answered, stored, Session, begun, act}
use Rattle.history.proofs.SessionLaws.{in_turn_alike, act_keeps, act_keeps_not, act_returns, act_nothing, act_returns_not, Acts, advancing, keeping, not_keeping, returning, nothing_kept, not_returning, acts, Every, every_begun, every_act}
use Rattle.search.specs.Stored.{Sized}
use Rattle.search.specs.declared.Record.{Record as Stored}
use Rattle.keeping.specs.Storage.{has_room, keep_no, kept_in, return_no, returned_to}
use Rattle.keeping.specs.Image.{storage_of}
use Rattle.keeping.specs.Operations.{perform, held}
use Rattle.keeping.proofs.ImageLaws.{image_zeros, image_keeps, image_keeps_not, keep_no_lem, image_returns, image_nothing, image_returns_not}

module _ (advance : Call → Stored → Answer × Stored) (words : ℕ) where
  abbrev room : Bool
  room = has_room words

  abbrev Alike : Session Stored → Operation → Type 0
  Alike s o = perform advance o (held words s) ≡ ((act advance room o s).0, held words (act advance room o s).1)

  module _ (s : Session Stored) (each : Every Sized s) where
    advance_alike : (c : Call) → Alike s (operation_advance c)
    unfolding perform act
    advance_alike c = refl

    -- what a keeping and a return come to, by the refusal that they answer and what they leave
    keep_as : (n : ℕ) {no : Option Refusal} {after : Session Stored} → keep_no (storage_of words s.kept) n ≡ no
        → (s.in_hand, kept_in (storage_of words s.kept) n s.in_hand) ≡ held words after → act advance room (operation_keep n) s ≡ (stored no, after)
        → Alike s (operation_keep n)
    unfolding perform
    keep_as n e q a =
        ap₂ (λ (o : Option Refusal) (m : Stored × List ℕ). (stored o, m)) e q ∙ sym (ap (λ (x : Answered × Session Stored). (x.0, held words x.1)) a)

    return_as : (n : ℕ) {no : Option Refusal} {after : Session Stored} → return_no (storage_of words s.kept) n ≡ no
        → (returned_to (storage_of words s.kept) n s.in_hand, storage_of words s.kept) ≡ held words after → act advance room (operation_return n) s ≡ (stored no, after)
        → Alike s (operation_return n)
    unfolding perform
    return_as n e q a =
        ap₂ (λ (o : Option Refusal) (m : Stored × List ℕ). (stored o, m)) e q ∙ sym (ap (λ (x : Answered × Session Stored). (x.0, held words x.1)) a)

    unless_is : (b : Bool) {c : Bool} → c ≡ b → unless c question.storage 0 ≡ unless b question.storage 0
    unless_is b e = ap (λ (x : Bool). unless x question.storage 0) e

    one : (o : Operation) → Acts advance room s o → Alike s o
    one (operation_advance c) advancing = advance_alike c
    one (operation_keep n) (keeping e) =
        keep_as n (keep_no_lem words s.kept each.kept n ∙ unless_is true e)
        (ap (λ (l : List ℕ). (s.in_hand, l)) (image_keeps words s.kept each.kept n s.in_hand e)) (act_keeps advance room n s e)
    one (operation_keep n) (not_keeping e) =
        keep_as n (keep_no_lem words s.kept each.kept n ∙ unless_is false e)
        (ap (λ (l : List ℕ). (s.in_hand, l)) (image_keeps_not words s.kept each.kept n s.in_hand e)) (act_keeps_not advance room n s e)
    one (operation_return n) (returning r e q) =
        let i = image_returns words s.kept each.kept n r s.in_hand e q in
        return_as n i.0 (ap (λ (x : Stored). (x, storage_of words s.kept)) i.1) (act_returns advance room n s e q)
    one (operation_return n) (nothing_kept q) =
        let i = image_nothing words s.kept each.kept n s.in_hand q in
        return_as n i.0 (ap (λ (x : Stored). (x, storage_of words s.kept)) i.1) (act_nothing advance room n s q)
    one (operation_return n) (not_returning e) =
        let i = image_returns_not words s.kept each.kept n s.in_hand e in
        return_as n i.0 (ap (λ (x : Stored). (x, storage_of words s.kept)) i.1) (act_returns_not advance room n s e)

  pub performed : ((c : Call) (r : Stored) → Sized r → Sized (advance c r).1) → (r : Stored) → Sized r → (ops : List Operation)
      → in_turn (perform advance) ops (r, replicate words 0) ≡ ((in_turn (act advance room) ops (begun r)).0, held words (in_turn (act advance room) ops (begun r)).1)
  performed sized r z ops =
      ap (λ (l : List ℕ). in_turn (perform advance) ops (r, l)) (sym (image_zeros words))
      ∙ in_turn_alike (act advance room) (perform advance) (held words) (Every Sized) (every_act advance room Sized sized) (λ o s each. one s each o (acts advance room s o)) ops (begun r)
      (every_begun Sized r z)
