-- The laws by which the loop over the removals gathers a nurse's bars.
use Rattle.std.specs.Prelude.{ℕ, ◌+◌, ◌≤◌, ◌<◌, ◌≡◌, refl, Bool, true, false, ◌&&◌, ◌||◌, List, [], ◌∷◌, ◌++◌, eqb, length, get_or, take, set, Option, Some, None}
use Rattle.std.proofs.Common.{sym, ap, ◌∙◌, add-one, arith, eq-eqb, eqb-true, length-set, take-suc, take-suc-set}
use Rattle.std.proofs.Math.Bool.{and-false, or_assoc, or-false}
use Rattle.fields.specs.Sizes.{removal_places}
use Rattle.history.specs.Phase.{holds}
use Rattle.numbers.specs.Range.{any_of}
use Rattle.numbers.proofs.MemberLaws.{any_append}
use Rattle.numbers.proofs.RangeLaws.{tests_alike}
use Rattle.removals.specs.Removals.{slot, no_removal}
use Rattle.removals.specs.CodeGiven.{bar_places, is_current, given_up_by}
use Rattle.removals.specs.declared.Removal.{Removal as StoredRemoval}

-- one more bar
any_put : (t : ℕ → Bool) (bars : List ℕ) (count v : ℕ) → count < length bars → any_of t (take (count + 1) (set bars count v)) ≡ (any_of t (take count bars) || t v)
unfolding any_of
any_put t bars count v h =
    ap (λ (n : ℕ). any_of t (take n (set bars count v))) (add-one count)
    ∙ ap (any_of t) (take-suc-set bars count v h)
    ∙ any_append t (take count bars) (v ∷ [])
    ∙ ap (λ (b : Bool). any_of t (take count bars) || b) (or-false (t v))

eqb_swap : (a b : ℕ) → eqb a b ≡ eqb b a
eqb_swap a b = tests_alike (eqb a b) (eqb b a) (λ e. eq-eqb b a (sym (eqb-true a b e))) (λ e. eq-eqb a b (sym (eqb-true b a e)))

-- ---- one removal more

module _ (number p : ℕ) where
  -- whether a stored removal bars p for the nurse of this number
  abbrev bars_it : StoredRemoval → Bool
  bars_it x = eqb number x.nurse && holds (slot x.has x.pattern) p

  up_append : (l m : List StoredRemoval) → given_up_by (l ++ m) number p ≡ (given_up_by l number p || given_up_by m number p)
  up_append [] m = refl
  up_append (x ∷ l) m =
      ap (λ (b : Bool). bars_it x || b) (up_append l m) ∙ sym (or_assoc (bars_it x) (given_up_by l number p) (given_up_by m number p))

  up_more : (list : List StoredRemoval) (k : ℕ) {b : Bool} → k < length list → bars_it (get_or list k no_removal) ≡ b
      → given_up_by (take (k + 1) list) number p ≡ (given_up_by (take k list) number p || b)
  up_more list k h e =
      let x = get_or list k no_removal in
      ap (λ (n : ℕ). given_up_by (take n list) number p) (add-one k)
      ∙ ap (λ (l : List StoredRemoval). given_up_by l number p) (take-suc list k no_removal h)
      ∙ up_append (take k list) (x ∷ [])
      ∙ ap (λ (b : Bool). given_up_by (take k list) number p || b) (or-false (bars_it x) ∙ e)

  -- a removal bars its own pattern, where it has one and is hers
  bars_by : (x : StoredRemoval) (b : Bool) → b ≡ (x.has && eqb x.nurse number) → bars_it x ≡ (b && eqb x.pattern p)
  bars_by x b e = rw e (by_flag x.has)
    where
      by_flag : (has : Bool) → (eqb number x.nurse && holds (slot has x.pattern) p) ≡ ((has && eqb x.nurse number) && eqb x.pattern p)
      by_flag true = ap (λ (t : Bool). t && eqb x.pattern p) (eqb_swap number x.nurse)
      by_flag false = and-false (eqb number x.nurse)

-- ---- a nurse's bars

-- the first bars are the pattern in use by her, and what she gave up in the first k removals
pub record Bars (held : List StoredRemoval) (number : ℕ) (current : Option ℕ) (bars : List ℕ) (count k : ℕ) : Type 0 where
  pub few : count ≤ k + 1
  pub long : length bars ≡ bar_places
  pub are : (p : ℕ) → any_of (λ x. eqb x p) (take count bars) ≡ (is_current current p || given_up_by (take k held) number p)

module _ {held : List StoredRemoval} {number : ℕ} {current : Option ℕ} where
  pub bars_same : {bars xs : List ℕ} {count n k : ℕ} → Bars held number current bars count k → xs ≡ bars → n ≡ count → Bars held number current xs n k
  bars_same s q c = rw (q, c) s

  pub bars_placed : (bars : List ℕ) {v : ℕ} → length bars ≡ bar_places → current ≡ Some v → Bars held number current (set bars 0 v) 1 0
  unfolding any_of
  bars_placed bars {v} l e =
      record {
        few = omega arith;
        long = length-set bars 0 v ∙ l;
        are = λ p. ap (any_of (λ x. eqb x p)) (take-suc-set bars 0 v (omega arith)) ∙ ap (λ (o : Option ℕ). is_current o p || false) (sym e);
      }

  pub bars_unplaced : (bars : List ℕ) → length bars ≡ bar_places → current ≡ None → Bars held number current bars 0 0
  unfolding any_of
  bars_unplaced bars l e = record { few = omega arith; long = l; are = λ p. ap (λ (o : Option ℕ). is_current o p || false) (sym e) }

  -- a removal that she gave up
  pub bars_hers : {bars : List ℕ} {count k : ℕ} {b : Bool} → Bars held number current bars count k → length held ≤ removal_places → k < length held
      → b ≡ ((get_or held k no_removal).has && eqb (get_or held k no_removal).nurse number) → b ≡ true
      → Bars held number current (set bars count (get_or held k no_removal).pattern) (count + 1) (k + 1)
  bars_hers {bars} {count} {k} {b} s h l q e =
      let v = (get_or held k no_removal).pattern in
      record {
        few = omega (arith, s.few);
        long = length-set bars count v ∙ s.long;
        are =
            λ p.
            any_put (λ x. eqb x p) bars count v (omega (arith, s.few, s.long))
            ∙ ap (λ (b : Bool). b || eqb v p) (s.are p)
            ∙ or_assoc (is_current current p) (given_up_by (take k held) number p) (eqb v p)
            ∙ ap (λ (b : Bool). is_current current p || b) (sym (up_more number p held k l (bars_by number p (get_or held k no_removal) true (sym e ∙ q))));
      }

  -- another
  pub bars_other : {bars : List ℕ} {count k : ℕ} {b : Bool} → Bars held number current bars count k → k < length held
      → b ≡ ((get_or held k no_removal).has && eqb (get_or held k no_removal).nurse number) → b ≡ false → Bars held number current bars count (k + 1)
  bars_other {k = k} s l q e =
      record {
        few = omega (arith, s.few);
        long = s.long;
        are = λ p. s.are p ∙ ap (λ (b : Bool). is_current current p || b) (sym (up_more number p held k l (bars_by number p (get_or held k no_removal) false (sym e ∙ q)) ∙ or-false (given_up_by (take k held) number p)));
      }
