-- The test `sound_stored` of question 11 is the statement `Sound`.
use Rattle.std.specs.Prelude.{ℕ, zero, suc, ◌<◌, ◌≡◌, refl, Bool, true, false, cond, not, ◌&&◌, ◌||◌, ◌↔◌, ltb, eqb, get_or}
use Rattle.std.proofs.Common.{sym, ◌∙◌, subst, arith, lt-ltb, le-ltb, ltb-true, ltb-false, eqb-true, eq-eqb}
use Rattle.std.proofs.lemmas.Bool.{false≢true, not-true, and_parts, not_from_false, and_from}
use mathlib.Core.List.{Memᴰ}
use Rattle.fields.specs.Sizes.{nurse_places, removal_places}
use Rattle.numbers.specs.Range.{up_from, all}
use Rattle.numbers.proofs.AllLaws.{all_each, all_if}
use Rattle.history.specs.Slot.{Slot}
use Rattle.history.specs.Phase.{Phase}
use Rattle.history.specs.Record.{hers, names}
use Rattle.history.proofs.FitLaws.{among_member, member_among}
use Rattle.removals.specs.Removals.{slot, no_removal, slot_zero, removal_zero}
use Rattle.removals.specs.declared.Removal.{Removal as StoredRemoval}
use Rattle.search.specs.Stored.{slot_at, held, names_at, unused_zero, sound_stored, Sized}
use Rattle.search.proofs.Fits.{Fits}
use Rattle.search.specs.declared.Record.{Record as Stored}
use Rattle.search.specs.Sound.{Names, Sound}
use Rattle.search.proofs.StoredLaws.{no_removal_lem}
use Rattle.search.proofs.QuestionLaws.{question_eleven}

-- ---- a flag and a pattern

module _ (P : Phase) (i : ℕ) where
  own_member : (has : Bool) (p : ℕ) → hers P i (slot has p) ≡ true → has ≡ true → Memᴰ p (P.patterns i)
  own_member true p e h = member_among (P.patterns i) p e
  own_member false p e h = absurd (false≢true h)

  member_own : (has : Bool) (p : ℕ) → (has ≡ true → Memᴰ p (P.patterns i)) → hers P i (slot has p) ≡ true
  member_own true p f = among_member (P.patterns i) p (f refl)
  member_own false p f = refl

-- a pattern that is not used is 0
zero_unused : (has : Bool) (p : ℕ) → (has || eqb p 0) ≡ true → has ≡ false → p ≡ 0
zero_unused true p e h = absurd (false≢true (sym h))
zero_unused false p e h = eqb-true p 0 e

unused_pattern : (has : Bool) (p : ℕ) → (has ≡ false → p ≡ 0) → (has || eqb p 0) ≡ true
unused_pattern true p f = refl
unused_pattern false p f = eq-eqb p 0 (f refl)

-- ---- one removal

module _ (P : Phase) where
  record Named (number : ℕ) (s : Slot) : Type 0 where
    nurse : ℕ
    named : number ≡ suc nurse
    inside : nurse < P.nurses
    own : hers P nurse s ≡ true

  names_true : (number : ℕ) (s : Slot) → names P number s ≡ true → Named number s
  names_true zero s e = absurd (false≢true e)
  names_true (suc i) s e =
      let a = and_parts (ltb i P.nurses) (hers P i s) e in
      record { nurse = i; named = refl; inside = ltb-true i P.nurses a.0; own = a.1 }

  true_names : (number : ℕ) (s : Slot) → Named number s → names P number s ≡ true
  true_names number s n =
      rw n.named (and_from (ltb n.nurse P.nurses) (hers P n.nurse s) (lt-ltb n.nurse P.nurses n.inside) n.own)

  names_of : (x : StoredRemoval) → names P x.nurse (slot x.has x.pattern) ≡ true → (x.has || eqb x.pattern 0) ≡ true → Names P x
  names_of x e z =
      let n = names_true x.nurse (slot x.has x.pattern) e in
      record {
        nurse = n.nurse;
        named = n.named;
        inside = n.inside;
        hers = own_member P n.nurse x.has x.pattern n.own;
        unused = zero_unused x.has x.pattern z;
      }

  of_names : (x : StoredRemoval) → Names P x → names P x.nurse (slot x.has x.pattern) ≡ true
  of_names x n =
      true_names x.nurse (slot x.has x.pattern)
      (record { nurse = n.nurse; named = n.named; inside = n.inside; own = member_own P n.nurse x.has x.pattern n.hers })

-- ---- question 11

module _ (P : Phase) (r : Stored) (s : Sized r) (f : Fits P) where
  abbrev own_all : Bool
  own_all = all (λ i. hers P i (slot_at r i)) (up_from 0 P.nurses)

  abbrev name_all : Bool
  name_all = all (names_at P r.removals) (up_from 0 (held P.tabu r))

  abbrev slots_zero : Bool
  slots_zero = all (slot_zero P.nurses r.placed r.patterns) (up_from 0 nurse_places)

  abbrev removals_zero : Bool
  removals_zero = all (removal_zero (held P.tabu r) r.removals) (up_from 0 removal_places)

  parts : sound_stored P r ≡ (own_all && (name_all && (slots_zero && removals_zero)))
  unfolding unused_zero
  parts = question_eleven P r s f

  abbrev at : ℕ → StoredRemoval
  at j = get_or r.removals j no_removal

  sound_of : sound_stored P r ≡ true → Sound P r
  sound_of e =
      let a = and_parts own_all (name_all && (slots_zero && removals_zero)) (sym parts ∙ e) in
      let b = and_parts name_all (slots_zero && removals_zero) a.1 in
      let c = and_parts slots_zero removals_zero b.1 in
      let slots : (i : ℕ) → i < nurse_places → slot_zero P.nurses r.placed r.patterns i ≡ true = λ i l. all_each (slot_zero P.nurses r.placed r.patterns) nurse_places i c.0 l in
      let taken : (j : ℕ) → j < removal_places → removal_zero (held P.tabu r) r.removals j ≡ true = λ j l. all_each (removal_zero (held P.tabu r) r.removals) removal_places j c.1 l in
      record {
        placed = λ i l h. own_member P i (get_or r.placed i false) (get_or r.patterns i 0) (all_each (λ i. hers P i (slot_at r i)) P.nurses i a.0 l) h;
        unplaced = λ i l h.
            zero_unused (get_or r.placed i false) (get_or r.patterns i 0) (rw (lt-ltb i P.nurses l) at (slots i (omega (arith, f.nurses_most)))) h;
        past = λ i h l.
            let z = and_parts (not (get_or r.placed i false)) (eqb (get_or r.patterns i 0) 0) (rw (le-ltb i P.nurses h) at (slots i l)) in
            (not-true (get_or r.placed i false) z.0, eqb-true (get_or r.patterns i 0) 0 z.1);
        named = λ j l.
            names_of P (at j) (all_each (names_at P r.removals) (held P.tabu r) j b.0 l)
            (rw (lt-ltb j (held P.tabu r) l) at (taken j (omega (arith, f.tabu_at_most))));
        past_held = λ j h l. sym (no_removal_lem (at j) (rw (le-ltb j (held P.tabu r) h) at (taken j l)));
      }

  module _ (x : Sound P r) where
    slot_of : (i : ℕ) → i < nurse_places → (b : Bool) → ltb i P.nurses ≡ b
        → cond b (get_or r.placed i false || eqb (get_or r.patterns i 0) 0) (not (get_or r.placed i false) && eqb (get_or r.patterns i 0) 0) ≡ true
    slot_of i l true e = unused_pattern (get_or r.placed i false) (get_or r.patterns i 0) (x.unplaced i (ltb-true i P.nurses e))
    slot_of i l false e =
        let z = x.past i (ltb-false i P.nurses e) l in
        and_from (not (get_or r.placed i false)) (eqb (get_or r.patterns i 0) 0) (not_from_false (get_or r.placed i false) z.0) (eq-eqb (get_or r.patterns i 0) 0 z.1)

    removal_of : (j : ℕ) → j < removal_places → (b : Bool) → ltb j (held P.tabu r) ≡ b
        → cond b ((at j).has || eqb (at j).pattern 0) (eqb (at j).nurse 0 && (not (at j).has && eqb (at j).pattern 0)) ≡ true
    removal_of j l true e = unused_pattern (at j).has (at j).pattern (x.named j (ltb-true j (held P.tabu r) e)).unused
    removal_of j l false e =
        subst (λ (y : StoredRemoval). (eqb y.nurse 0 && (not y.has && eqb y.pattern 0)) ≡ true) (sym (x.past_held j (ltb-false j (held P.tabu r) e) l)) refl

    of_sound : sound_stored P r ≡ true
    of_sound =
        parts
        ∙ and_from own_all (name_all && (slots_zero && removals_zero))
        (all_if (λ i. hers P i (slot_at r i)) P.nurses (λ i l. member_own P i (get_or r.placed i false) (get_or r.patterns i 0) (x.placed i l)))
        (and_from name_all (slots_zero && removals_zero)
        (all_if (names_at P r.removals) (held P.tabu r) (λ j l. of_names P (at j) (x.named j l)))
        (and_from slots_zero removals_zero
        (all_if (slot_zero P.nurses r.placed r.patterns) nurse_places (λ i l. slot_of i l (ltb i P.nurses) refl))
        (all_if (removal_zero (held P.tabu r) r.removals) removal_places (λ j l. removal_of j l (ltb j (held P.tabu r)) refl))))

pub sound_when : (P : Phase) (r : Stored) → Sized r → Fits P → (sound_stored P r ≡ true) ↔ Sound P r
sound_when P r s f = (sound_of P r s f, of_sound P r s f)
