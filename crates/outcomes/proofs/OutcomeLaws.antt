-- What an advance hands back and leaves, by whether a question refuses it.
use Rattle.std.specs.Prelude.{ℕ, ◌+◌, ◌≤◌, ◌≡◌, refl, Bool, List, [], ◌++◌, length, take, drop, replicate}
use Rattle.std.proofs.Common.{sym, ap, ap₂, ◌∙◌, arith, length-append, take_at}
use Rattle.std.proofs.Math.Option.{none, some}
use Rattle.std.specs.declared.result.Result.{Result}
use Rattle.fields.specs.Sizes.{letter_places}
use Rattle.std.specs.declared.result.Result.TheVariants.{Ok, Err}
use Rattle.search.specs.declared.Record.{Record as Stored}
use Rattle.search.specs.declared.Advanced.{Advanced}
use Rattle.history.specs.Phase.{Phase, Call, Answer, refused}
use Rattle.refusals.specs.declared.Refusal.{Refusal}
use Rattle.refusals.specs.Refusals.{refusal_in}
use Rattle.std.specs.Result.{IsErrAnd}
use Rattle.std.proofs.lemmas.Result.{err_from_is_err_and}
use Rattle.search.specs.Stored.{advance_stored, refusal_stored, reply_stored}
use Rattle.search.specs.CodeSeek.{end_by, answer_of}
use Rattle.search.proofs.AdvanceLaws.{stored_refused, stored_goes}
use Rattle.search.specs.declared.Ending.{Ending}
use Rattle.search.specs.declared.Ending.TheVariants.{Zero, Asked, None}
use Rattle.letters.specs.declared.written.Roster.{Roster}
use Rattle.outcomes.specs.declared.Advance.{Advance}
use Rattle.outcomes.specs.declared.Refused.{Refused}
use Rattle.outcomes.specs.Outcomes.{ending_of, roster_of, letters_of, refused_with, handed_back, advance_of, left_by, call_of}

-- the list stands at the front of what was written
pub list_front : (L rest : List ℕ) {buf : List ℕ} {n : ℕ} → buf ≡ L ++ rest → n ≡ length L → take n buf ≡ L
list_front L rest e q = ap₂ take q e ∙ take_at L rest (length L) refl

pub writes : (P : Phase) (x : Advanced) (L buf : List ℕ) → left_by (answer_of P x) L buf ≡ L ++ drop (length L) buf
unfolding left_by
writes P x L buf = refl

pub writes_nothing : (n : Refusal) (L buf : List ℕ) → buf ≡ left_by (refused n) L buf
unfolding left_by
writes_nothing n L buf = refl

pub front_fits : (L rest : List ℕ) {n : ℕ} {after : List ℕ} → n ≡ length L → after ≡ L ++ rest → n ≤ length after
front_fits L rest {n} {after} e q = let s : length after ≡ length L + length rest = ap length q ∙ length-append L rest in omega arith

-- what an advance that ran comes to
ending_back : (e : Ending) → e ≡ ending_of (end_by e)
ending_back Zero = refl
ending_back Asked = refl
ending_back None = refl

pub finished_as : (P : Phase) (x : Advanced) {roster : Roster} → roster ≡ roster_of (letters_of (answer_of P x))
    → Ok (record { after = x.after; penalty = x.penalty; steps = x.steps; ending = x.ending; roster = roster }) ≡ advance_of (answer_of P x, x.after)
unfolding advance_of
finished_as P x q = ap₂ (λ (y : Ending) (z : Roster). Ok (record { after = x.after; penalty = x.penalty; steps = x.steps; ending = y; roster = z })) (ending_back x.ending) q

-- the same by its parts: the ending, the letters and their count
pub finished_by : (P : Phase) (x : Advanced) {roster r : Roster} {e : Ending} → roster ≡ roster_of (letters_of (answer_of P x)) → e ≡ x.ending → r.letters ≡ roster.letters → r.count ≡ roster.count
    → Ok (record { after = x.after; penalty = x.penalty; steps = x.steps; ending = e; roster = r }) ≡ advance_of (answer_of P x, x.after)
finished_by P x {roster} {r} {e} q f l n =
    let same : r ≡ roster = ap₂ (λ (l : List ℕ) (n : ℕ). record { letters = l; count = n }) l n in
    ap₂ (λ (y : Ending) (z : Roster). Ok (record { after = x.after; penalty = x.penalty; steps = x.steps; ending = y; roster = z })) f same ∙ finished_as P x q

-- a roster of no letters
pub roster_none : {r : Roster} → r.letters ≡ replicate letter_places 0 → r.count ≡ 0 → r ≡ roster_of []
unfolding roster_of
roster_none e q = ap₂ (λ (l : List ℕ) (n : ℕ). record { letters = l; count = n }) e q

-- what was asked, by the answer with the record in hand
module _ {T : Type 0} (asked : Result T Refusal) (r : Stored) {y : Result T Refused} (is : y ≡ handed_back asked r) where
  pub asked_yes : {x : T} → y ≡ Ok x → asked ≡ Ok x
  asked_yes {x} e = go asked (sym is ∙ e)
    where
      go : (a : Result T Refusal) → handed_back a r ≡ Ok x → a ≡ Ok x
      go (Ok z) f = cc
      go (Err n) f = absurd (cc)

  asked_no : {x : Refused} → y ≡ Err x → (asked ≡ Err x.refusal) × (x ≡ refused_with x.refusal r)
  asked_no {x} e = go asked (sym is ∙ e)
    where
      go : (a : Result T Refusal) → handed_back a r ≡ Err x → (a ≡ Err x.refusal) × (x ≡ refused_with x.refusal r)
      go (Ok z) f = absurd (cc)
      go (Err n) f =
          let p : refused_with n r ≡ x = cc in
          (ap (λ (u : Refused). Err u.refusal) p, sym p ∙ ap (λ (u : Refused). refused_with u.refusal r) p)

  -- and what `?` hands on, where it is a no
  pub exit_handed : {U : Type 0} {x : Refused} {z : Result U Refused} → y ≡ Err x → IsErrAnd z (λ e. e ≡ x) → (asked ≡ Err x.refusal) × (z ≡ Err (refused_with x.refusal r))
  exit_handed {z = z} e h =
      let n = asked_no e in
      let p = err_from_is_err_and z h in
      (n.0, p.1 ∙ ap Err (p.2 ∙ n.1))

-- a call's result and what it leaves
module _ (P : Phase) (r : Stored) (k : ℕ) (past_zero : Bool) (L buffer : List ℕ) where
  abbrev handed : Call
  handed = call_of k past_zero (length buffer)

  abbrev advanced : Answer × Stored
  advanced = advance_stored P handed r

  pub told_refused : (n : Refusal) → refusal_stored P handed r ≡ some n → (Err (refused_with n r) ≡ advance_of advanced) × (buffer ≡ left_by advanced.0 L buffer)
  unfolding advance_of
  told_refused n e =
      let a = stored_refused P handed r n e in
      (sym (ap advance_of a), writes_nothing n L buffer ∙ sym (ap (λ (y : Answer × Stored). left_by y.0 L buffer) a))

  pub told_exit : {T : Type 0} (asked : Result T Refusal) {y : Result T Refused} {x : Refused} {z : Result Advance Refused} → refusal_in asked ≡ refusal_stored P handed r
      → y ≡ handed_back asked r → y ≡ Err x → IsErrAnd z (λ e. e ≡ x) → (z ≡ advance_of advanced) × (buffer ≡ left_by advanced.0 L buffer)
  told_exit asked {x = x} a is e h =
      let back = exit_handed asked r is e h in
      let told = told_refused x.refusal (sym a ∙ ap refusal_in back.0) in
      (back.1 ∙ told.0, told.1)

  pub told_advanced : (x : Advanced) {y : Result Advance Refused} {after : List ℕ} → refusal_stored P handed r ≡ none → reply_stored P past_zero k r ≡ (answer_of P x, x.after)
      → y ≡ advance_of (answer_of P x, x.after) → after ≡ L ++ drop (length L) buffer → (y ≡ advance_of advanced) × (after ≡ left_by advanced.0 L buffer)
  told_advanced x e f g h =
      let a = stored_goes P handed r e ∙ f in
      (g ∙ sym (ap advance_of a), h ∙ sym (writes P x L buffer) ∙ sym (ap (λ (z : Answer × Stored). left_by z.0 L buffer) a))
