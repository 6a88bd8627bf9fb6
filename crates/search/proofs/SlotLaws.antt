-- Laws of a record's slots: the sets in which nurses count, the columns that they make, and the penalty.
use Rattle.std.specs.Prelude.{ℕ, zero, suc, ◌+◌, ◌-◌, ◌^◌, ◌≤◌, ◌<◌, ◌≡◌, refl, Bool, true, false, not, ◌&&◌, List, bit_and, eqb, length, get_or, take, Option, None}
use Rattle.std.proofs.Common.{sym, ap, ap₂, ◌∙◌, subst, add-one, arith}
use Rattle.std.proofs.lemmas.List.Sums.{sum_by_more}
use Rattle.std.specs.List.{sum_by}
use Rattle.std.specs.Bool.{then_some}
use Rattle.fields.specs.Sizes.{nurse_places, day_places}
use Rattle.numbers.specs.Sum.{sum_to, count_to, one_if, Is}
use Rattle.numbers.specs.Digits.{has, number_of}
use Rattle.numbers.specs.Patterns.{pattern, unpaired, days_of, pair_of}
use Rattle.numbers.proofs.SumLaws.{sum_ext}
use Rattle.numbers.proofs.SetLaws.{has_and, has_not}
use Rattle.fields.specs.declared.Body.{Body}
use Rattle.fields.specs.Fields.{Accepted, nurses, days, block, mark_on}
use Rattle.rows.specs.Pairs.{in_pair, free_on}
use Rattle.nursemasks.specs.CodeMasks.{AvailableDays}
use Rattle.penalty.specs.declared.columns.Columns.{Columns}
use Rattle.history.specs.declared.Search.{Search}
use Rattle.history.specs.declared.Search.TheVariants.{Nights, Days}
use Rattle.history.specs.Slot.{Slot, is_none}
use Rattle.penalty.specs.Penalty.{Parts, total, unplaced_in, starts_in, worked_in, parts_in, night_penalty, day_penalty}
use Rattle.penalty.specs.CodeColumns.{Shown, Shows, Empty, NursePut, FreeUnder}
use Rattle.penalty.proofs.ColumnLaws.{night_none, night_more, day_none, day_more}
use Rattle.trials.specs.Trials.{CountsIn}
use Rattle.removals.specs.Removals.{slot}
use Rattle.search.specs.Stored.{slot_at}
use Rattle.search.specs.CodeSeek.{cost_of, pattern_for, Agree}
use Rattle.search.specs.declared.Record.{Record as Stored}

-- ---- a count over the first places of a list

pub sum_taken : {X : Type 0} (f : X → ℕ) (xs : List X) (d : X) (n : ℕ) → n ≤ length xs → sum_by f (take n xs) ≡ sum_to n (λ i. f (get_or xs i d))
unfolding sum_to
sum_taken f xs d zero l = refl
sum_taken f xs d (suc n) l =
    ap (λ (k : ℕ). sum_by f (take k xs)) (sym (add-one n)) ∙ sum_by_more f xs n d l ∙ ap (λ (a : ℕ). a + f (get_or xs n d)) (sum_taken f xs d n (omega arith))

pub agree_at : (w : List ℕ) (r : Stored) (slots : ℕ → Slot) (i : ℕ) → Agree w r slots → i < nurses w → slots i ≡ slot_at r i
unfolding Agree
agree_at w r slots i a l = a i l

-- what holds of the nurse at index i of the ward
pub by_index : {v w : Body} {j i : ℕ} (P : List ℕ → ℕ → Type 0) → (v ≡ w) × (j ≡ i) → P v.numbers.now j → P w.numbers.now i
by_index {v} {w} {j} P e x = subst (P w.numbers.now) e.1 (subst (λ (u : Body). P u.numbers.now j) e.0 x)

-- ---- a slot's pattern

pub no_slot : (placed : Bool) (p : ℕ) {held : Option ℕ} → held ≡ then_some placed p → held ≡ None → placed ≡ false
no_slot false p e n = refl
no_slot true p e n = search (sym e ∙ n)

module _ (w : List ℕ) (r : Stored) (i : ℕ) where
  pub pattern_placed : (which : Search) → get_or r.placed i false ≡ true → get_or r.patterns i 0 ≡ pattern_for which w i (slot_at r i)
  pattern_placed Days e = rw e
  pattern_placed Nights e = rw e

  pub pattern_days : {p s n m : ℕ} {b : List ℕ} (which : Search) → get_or r.placed i false ≡ false → which ≡ Days → m ≡ 2 → n ≡ days w → b ≡ block w i
      → s ≡ number_of (λ d. eqb (mark_on b (suc d)) m) n → p ≡ pattern s 0 → p ≡ pattern_for which w i (slot_at r i)
  pattern_days which e d k x y q f = rw (d, e) (f ∙ ap unpaired (q ∙ rw (x, y, k)))

  pub pattern_nights : {p s n m : ℕ} {b : List ℕ} (which : Search) → get_or r.placed i false ≡ false → which ≡ Nights → m ≡ 3 → n ≡ days w → b ≡ block w i
      → s ≡ number_of (λ d. eqb (mark_on b (suc d)) m) n → p ≡ pattern s 0 → p ≡ pattern_for which w i (slot_at r i)
  pattern_nights which e d k x y q f = rw (d, e) (f ∙ ap unpaired (q ∙ rw (x, y, k)))

-- ---- the sets in which she counts

-- the days on which nurse i is available under the pattern c: as its nights leave her, without its pair's days
free_of : (w : List ℕ) (i c : ℕ) {free off : ℕ} → days w ≤ day_places → AvailableDays (block w i) (days w) (days_of c) free → off < 2 ^ 32
    → ((d : ℕ) → has off d ≡ in_pair w (pair_of c) (suc d)) → FreeUnder w i c (bit_and free ((2 ^ 32 - 1) - off))
unfolding free_on
free_of w i c {free} {off} most a small each d l =
    has_and free ((2 ^ 32 - 1) - off) d
    ∙ ap₂ (λ (x y : Bool). x && y) (a.each d l) (has_not 32 off d small (omega arith) ∙ ap not (each d))

-- the days on which nurse i is available under her pattern, as the masks and the pair's days say
pub free_under : (w : List ℕ) (i c : ℕ) {s k free off : ℕ} → Accepted w → s ≡ days_of c → k ≡ pair_of c → AvailableDays (block w i) (days w) s free → off < 2 ^ 32
    → ((d : ℕ) → has off d ≡ in_pair w k (suc d)) → FreeUnder w i c (bit_and free ((2 ^ 32 - 1) - off))
free_under w i c {k = k} {free} ok es ek av small each =
    free_of w i c ok.days_most (subst (λ (x : ℕ). AvailableDays (block w i) (days w) x free) es av) small (λ d. each d ∙ ap (λ (x : ℕ). in_pair w x (suc d)) ek)

-- ---- columns

module _ (w : List ℕ) (r : Stored) (i : ℕ) (cols : Columns) (slots : ℕ → Slot) where
  -- one nurse more
  pub row_more : (which : Search) {p nights free n : ℕ} {c : Columns} → n ≡ days w → p ≡ pattern_for which w i (slot_at r i) → CountsIn which w i p nights free
      → NursePut cols c n i nights free → slots i ≡ slot_at r i → Shown which w slots i cols → Shown which w slots (i + 1) c
  row_more Days {p} {nights} {free} {n} {c} e q g x a f =
      let as-slot : p ≡ worked_in w i (slots i) = q ∙ ap (worked_in w i) (sym a) in
      day_more w slots i cols c f (g ∙ ap days_of as-slot) (subst (λ (k : ℕ). NursePut cols c k i nights free) e x)
  row_more Nights {p} {nights} {free} {n} {c} e q g x a f =
      let as-slot : p ≡ starts_in w i (slots i) = q ∙ ap (starts_in w i) (sym a) in
      night_more w slots i cols c f (g.starts_are ∙ ap days_of as-slot) (subst (λ (y : ℕ). FreeUnder w i y free) as-slot g.free_are)
      (subst (λ (k : ℕ). NursePut cols c k i nights free) e x)

pub columns_end : (which : Search) (w : List ℕ) (slots : ℕ → Slot) (c : Columns) {i m : ℕ} → Shown which w slots i c → i ≤ m → m ≤ i → m ≡ nurses w → Shown which w slots (nurses w) c
columns_end which w slots c {i} {m} s l h e = let q : i ≡ nurses w = omega arith in subst (λ (k : ℕ). Shown which w slots k c) q s

pub columns_start : (which : Search) (w : List ℕ) (slots : ℕ → Slot) (c : Columns) → Empty c → Shown which w slots 0 c
columns_start Days w slots c e = day_none w slots c e
columns_start Nights w slots c e = night_none w slots c e

-- ---- the penalty

pub none_flag : (b : Bool) (p : ℕ) → is_none (slot b p) ≡ not b
none_flag true p = refl
none_flag false p = refl

-- the unplaced nurses of a record
pub unplaced_is : (w : List ℕ) (r : Stored) (slots : ℕ → Slot) → Agree w r slots
    → count_to (nurses w) (λ i. not (get_or r.placed i false)) ≡ unplaced_in w slots
unfolding unplaced_in Agree
unplaced_is w r slots a =
    sum_ext (nurses w) (λ i. one_if (not (get_or r.placed i false))) (λ i. one_if (is_none (slots i)))
    (λ i l. ap one_if (sym (ap is_none (a i l) ∙ none_flag (get_or r.placed i false) (get_or r.patterns i 0))))

pub cost_total : (which : Search) (w : List ℕ) (slots : ℕ → Slot) → total (parts_in which w slots) ≡ cost_of which w slots
unfolding night_penalty day_penalty
cost_total Nights w slots = refl
cost_total Days w slots = refl

pub penalty_is : (which : Search) (w : List ℕ) (r : Stored) (slots : ℕ → Slot) (cols : Columns) {u x : ℕ} {y : Parts}
    → Is u (count_to (nurses w) (λ i. not (get_or r.placed i false))) nurse_places → Agree w r slots → Shows which w slots cols → x ≡ total y
    → ((l : ℕ → Slot) → Shows which w l cols → u ≡ unplaced_in w l → y ≡ parts_in which w l) → x ≡ cost_of which w slots
penalty_is which w r slots cols q a s f g = f ∙ ap total (g slots s (q.is ∙ unplaced_is w r slots a)) ∙ cost_total which w slots
