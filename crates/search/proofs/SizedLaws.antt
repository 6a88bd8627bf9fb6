-- A record that an advance hands back has its declared sizes.
use Rattle.std.specs.Prelude.{ℕ, suc, ◌≤◌, ◌≡◌, refl, Bool, ◌∷◌, length}
use Rattle.std.proofs.Common.{sym, subst, arith, length-take}
use Rattle.std.proofs.Math.Option.{Option, none, some}
use Rattle.fields.specs.Sizes.{removal_places, tabu_most}
use Rattle.refusals.specs.declared.Refusal.{Refusal}
use Rattle.history.specs.Phase.{Phase, Step, Call, Answer, stops}
use Rattle.history.specs.Record.{Record, total, best, stepped, proceed, reply_of}
use Rattle.history.proofs.RunLaws.{by_turns}
use Rattle.search.specs.Stored.{view_of, refusal_stored, reply_stored, advance_stored, all_zero, Sized}
use Rattle.search.specs.declared.Record.{Record as Stored}
use Rattle.search.proofs.Fits.{Fits}
use Rattle.search.proofs.StoredLaws.{view_held, store_sized}
use Rattle.search.proofs.AdvanceLaws.{stored_refused, stored_goes}

pub fresh_sized : Sized all_zero
fresh_sized = record { patterns_long = refl; placed_long = refl; removals_long = refl }

stepped_few : (tl : ℕ) (s : Step) (R : Record) → tl ≤ tabu_most → length (stepped tl s R).removals ≤ removal_places
unfolding stepped
stepped_few tl s R l = omega (arith, length-take tl (record { nurse = suc s.nurse; pattern = R.slots s.nurse } ∷ R.removals))

module _ (P : Phase) (fits : Fits P) where
  proceed_few : (past_zero : Bool) (k : ℕ) (R : Record) → length R.removals ≤ removal_places → length (proceed P past_zero k R).0.removals ≤ removal_places
  unfolding proceed
  proceed_few past_zero =
      by_turns (λ r. stops past_zero (total P r)) (best P) (stepped P.tabu) (λ k s r. length s.removals ≤ removal_places → length r.0.removals ≤ removal_places)
      (λ k s e h. h) (λ s n h. h) (λ k s n b h. h) (λ k s e r n b g h. g (stepped_few P.tabu e s fits.tabu_at_most))

  view_few : (r : Stored) → Sized r → length (view_of P r).removals ≤ removal_places
  view_few r z = omega (arith, (view_held P.nurses P.tabu r z fits.tabu_at_most).count, fits.tabu_at_most)

  reply_sized : (past_zero : Bool) (k : ℕ) (r : Stored) → Sized r → Sized (reply_stored P past_zero k r).1
  unfolding reply_stored reply_of
  reply_sized past_zero k r z = store_sized (proceed P past_zero k (view_of P r)).0 (proceed_few past_zero k (view_of P r) (view_few r z))

  pub advanced_sized : (c : Call) (r : Stored) → Sized r → Sized (advance_stored P c r).1
  advanced_sized c r z = go (refusal_stored P c r) refl
    where
      go : (o : Option Refusal) → refusal_stored P c r ≡ o → Sized (advance_stored P c r).1
      go none e = subst (λ (x : Answer × Stored). Sized x.1) (sym (stored_goes P c r e)) (reply_sized c.past_zero c.steps r z)
      go (some n) e = subst (λ (x : Answer × Stored). Sized x.1) (sym (stored_refused P c r n e)) z
