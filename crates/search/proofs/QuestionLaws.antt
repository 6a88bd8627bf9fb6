-- Question 11 of a stored record, as loops over its nurses and its removals ask it.
use Rattle.std.specs.Prelude.{ℕ, zero, suc, ◌≤◌, min, ◌≡◌, refl, Bool, ◌&&◌, List, [], ◌∷◌, ◌++◌, map, length, get_or, take}
use Rattle.std.proofs.Common.{sym, ap, ap₂, ◌∙◌, arith, add-one, take-suc, lt-ltb, eq-eqb}
use Rattle.std.proofs.Math.Bool.{and-true, and_assoc}
use Rattle.numbers.specs.Range.{up_from, all}
use Rattle.numbers.proofs.AllLaws.{all_none, all_more, all_same}
use Rattle.history.specs.Phase.{Phase}
use Rattle.history.specs.Record.{hers, names, all_name, sound}
use Rattle.removals.specs.Removals.{slot, removal_of, no_removal}
use Rattle.search.specs.Stored.{slot_at, held, view, view_of, names_at, unused_zero, sound_stored, Sized}
use Rattle.search.proofs.Fits.{Fits}
use Rattle.search.specs.declared.Record.{Record as Stored}
use Rattle.removals.specs.declared.Removal.{Removal as StoredRemoval}
use Rattle.search.proofs.StoredLaws.{view_held}

module _ (P : Phase) where
  name_append : (l m : List StoredRemoval) → all_name P (map removal_of (l ++ m)) ≡ (all_name P (map removal_of l) && all_name P (map removal_of m))
  name_append [] m = refl
  name_append (x ∷ l) m =
      ap (λ (b : Bool). names P x.nurse (slot x.has x.pattern) && b) (name_append l m)
      ∙ sym (and_assoc (names P x.nurse (slot x.has x.pattern)) (all_name P (map removal_of l)) (all_name P (map removal_of m)))

  name_all : (rs : List StoredRemoval) (n : ℕ) → n ≤ length rs → all_name P (map removal_of (take n rs)) ≡ all (names_at P rs) (up_from 0 n)
  name_all rs zero l = sym (all_none (names_at P rs))
  name_all rs (suc n) l =
      ap (λ (x : List StoredRemoval). all_name P (map removal_of x)) (take-suc rs n no_removal l)
      ∙ name_append (take n rs) (get_or rs n no_removal ∷ [])
      ∙ ap₂ (λ (a b : Bool). a && b) (name_all rs n (omega arith)) (and-true (names_at P rs n))
      ∙ sym (all_more (names_at P rs) n) ∙ ap (λ (k : ℕ). all (names_at P rs) (up_from 0 k)) (add-one n)

  slots_all : (r : Stored) → all (λ i. hers P i ((view_of P r).slots i)) (up_from 0 P.nurses) ≡ all (λ i. hers P i (slot_at r i)) (up_from 0 P.nurses)
  unfolding view
  slots_all r = all_same (λ i. hers P i ((view_of P r).slots i)) (λ i. hers P i (slot_at r i)) P.nurses (λ i l. rw (lt-ltb i P.nurses l))

  -- each placed nurse holds one of her own; each removal held names a nurse, with one of hers or with none; unused fields are 0
  pub question_eleven : (r : Stored) → Sized r → Fits P
      → sound_stored P r
      ≡ (all (λ i. hers P i (slot_at r i)) (up_from 0 P.nurses) && (all (names_at P r.removals) (up_from 0 (held P.tabu r)) && unused_zero P.nurses P.tabu r))
  unfolding sound_stored sound view
  question_eleven r s f =
      let n : length (map removal_of (take (held P.tabu r) r.removals)) ≡ min r.steps P.tabu = (view_held P.nurses P.tabu r s f.tabu_at_most).count in
      rw (slots_all r, name_all r.removals (held P.tabu r) (omega (arith, s.removals_long, f.tabu_at_most)), eq-eqb _ _ n, and-true)
      (and_assoc (all (λ i. hers P i (slot_at r i)) (up_from 0 P.nurses)) (all (names_at P r.removals) (up_from 0 (held P.tabu r))) (unused_zero P.nurses P.tabu r))
