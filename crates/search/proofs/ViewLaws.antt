-- What the code asks of a stored record, in terms of the record that it stands for.
use Rattle.std.specs.Prelude.{ℕ, suc, ◌+◌, ◌<◌, min, ◌≡◌, refl, Bool, true, false, cond, not, ◌&&◌, ◌||◌, List, eqb, get_or, take, set}
use Rattle.std.proofs.Common.{sym, ap, ◌∙◌, add-one, lt-ltb}
use Rattle.std.proofs.Math.Option.{none}
use Rattle.fields.specs.Sizes.{nurse_places, removal_places}
use Rattle.numbers.specs.Range.{up_from, all}
use Rattle.history.specs.Phase.{holds}
use Rattle.history.specs.Record.{may_take}
use Rattle.removals.specs.Removals.{slot, slot_zero, removal_zero}
use Rattle.removals.specs.CodeGiven.{given_up_by}
use Rattle.removals.specs.CodePush.{pushed}
use Rattle.search.specs.Stored.{slot_at, held, view, unused_zero}
use Rattle.search.specs.CodeSteps.{removal_by, exchanged_in}
use Rattle.search.specs.declared.Record.{Record as Stored}
use Rattle.removals.specs.declared.Removal.{Removal as StoredRemoval}

holds_slot : (b : Bool) (q p : ℕ) → holds (slot b q) p ≡ (b && eqb q p)
holds_slot true q p = refl
holds_slot false q p = refl

not_or : (a b : Bool) → not (a || b) ≡ (not a && not b)
not_or true b = refl
not_or false b = refl

-- she may take what is neither in use by her nor given up by her in one of the removals held
pub may_by : (m tl : ℕ) (r : Stored) (i p : ℕ) → i < m
    → may_take (view m tl r) i p ≡ not ((get_or r.placed i false && eqb (get_or r.patterns i 0) p) || given_up_by (take (held tl r) r.removals) (i + 1) p)
unfolding may_take view
may_by m tl r i p l =
    let used = get_or r.placed i false && eqb (get_or r.patterns i 0) p in
    let given-up = given_up_by (take (held tl r) r.removals) (suc i) p in
    ap (λ (b : Bool). not (holds (cond b (slot_at r i) none) p) && not given-up) (lt-ltb i m l)
    ∙ ap (λ (b : Bool). not b && not given-up) (holds_slot (get_or r.placed i false) (get_or r.patterns i 0) p)
    ∙ sym (not_or used given-up)
    ∙ ap (λ (j : ℕ). not (used || given_up_by (take (held tl r) r.removals) j p)) (sym (add-one i))

-- ---- a step's change of the record

pub exchanged_is : (tl : ℕ) (r : Stored) (i p : ℕ) {x : StoredRemoval} {ys : List StoredRemoval} → x ≡ removal_by r i → ys ≡ pushed tl r.steps x r.removals
    → record { patterns = set r.patterns i p; placed = set r.placed i true; removals = ys; steps = r.steps + 1 } ≡ exchanged_in tl r i p
unfolding exchanged_in
exchanged_is tl r i p e f = rw (f, e)

-- ---- unused fields

pub unused_both : (m tl : ℕ) (r : Stored) {k : ℕ} {a b : Bool} → k ≡ min r.steps tl → a ≡ all (slot_zero m r.placed r.patterns) (up_from 0 nurse_places) → a ≡ true
    → b ≡ all (removal_zero k r.removals) (up_from 0 removal_places) → b ≡ unused_zero m tl r
unfolding unused_zero
unused_both m tl r q e t f = rw (← e, t, f, q)

pub unused_slots : (m tl : ℕ) (r : Stored) {a : Bool} → a ≡ all (slot_zero m r.placed r.patterns) (up_from 0 nurse_places) → a ≡ false → a ≡ unused_zero m tl r
unfolding unused_zero
unused_slots m tl r e t = rw (← e, t)
