-- The exchange that a step takes, over everyone's lists; and what a step makes of columns and penalty.
use Rattle.std.specs.Prelude.{ℕ, ◌+◌, ◌*◌, ◌≤◌, ◌<◌, ◌≡◌, refl, Bool, true, false, cond, not, ◌&&◌, ◌||◌, List, eqb, get_or, set, take, Option, Some, None}
use Rattle.std.proofs.Common.{sym, ap, ap₂, ◌∙◌, subst, arith, get_or-set_same, get_or-set_other, lt-ltb, eqb-true}
use Rattle.std.proofs.lemmas.Bool.{eqb-false}
use Rattle.std.proofs.Math.Option.{some}
use Rattle.std.proofs.Math.Path.{fun_ext}
use Rattle.std.specs.Bool.{then_some}
use Rattle.fields.specs.Sizes.{nurse_places}
use Rattle.numbers.specs.Range.{any_of}
use Rattle.numbers.specs.Sum.{count_to, one_if, Is}
use Rattle.numbers.specs.Digits.{has, put}
use Rattle.numbers.specs.Patterns.{days_of}
use Rattle.fields.specs.Fields.{Accepted, nurses, days, tabu}
use Rattle.history.specs.declared.Search.{Search}
use Rattle.history.specs.declared.Search.TheVariants.{Nights, Days}
use Rattle.history.specs.Slot.{Slot, is_none, exchanged}
use Rattle.history.specs.Phase.{Phase}
use Rattle.history.specs.Record.{may_take, cost_after}
use Rattle.penalty.specs.Penalty.{Parts, total, rest, unplaced_in, starts_in, at_night, available_in, at_day, parts_in}
use Rattle.penalty.specs.CodeColumns.{Same, Shows, NursePut}
use Rattle.penalty.proofs.ColumnLaws.{same_as, night_after, available_after, day_after}
use Rattle.penalty.proofs.BoundLaws.{night_split, day_split, unplaced_after}
use Rattle.trials.specs.Trials.{CountsIn}
use Rattle.removals.specs.Removals.{slot}
use Rattle.removals.specs.CodeGiven.{is_current, given_up_by}
use Rattle.removals.specs.declared.Removal.{Removal as StoredRemoval}
use Rattle.best.specs.CodeBest.{Best, over_list, cost_in, best_over}
use Rattle.best.proofs.BestLaws.{nurses_none, nurses_turn}
use Rattle.best.specs.declared.Exchange.{Exchange}
use Rattle.tries.specs.CodeTries.{Bars, AllHers, offered, NightList, tried_in}
use Rattle.tries.specs.declared.lists.Offered.{Offered}
use Rattle.tries.specs.declared.lists.Offered.TheVariants.{Own, Common}
use Rattle.ownlists.specs.declared.Source.{Source}
use Rattle.ownlists.specs.declared.Source.TheVariants.{Kept, Whole, Among}
use Rattle.search.specs.Stored.{slot_at, held, view, view_of, sound_stored, Sized}
use Rattle.search.specs.CodeSteps.{exchanged_in, stepped_of}
use Rattle.search.specs.CodeSeek.{cost_of, Agree, SeeksBy, listed_by}
use Rattle.search.specs.CodePlan.{IsOffered, SourceHers}
use Rattle.search.specs.CodeChoice.{ColumnsOf, MayBy, BestNeeds, tried_in_offers, SeeksIn, StepNeeds}
use Rattle.search.specs.declared.offers.Offers.{Offers}
use Rattle.penalty.specs.declared.columns.Columns.{Columns}
use Rattle.search.specs.declared.Stepped.{Stepped}
use Rattle.search.specs.declared.Record.{Record as Stored}
use Rattle.search.proofs.Fits.{Fits}
use Rattle.search.proofs.SlotLaws.{agree_at, unplaced_is, none_flag, cost_total}
use Rattle.search.proofs.ViewLaws.{may_by}
use Rattle.search.proofs.AdvanceLaws.{Turn, running_start, takes_none, takes_some, takes_nurse}

pub view_agrees : (w : List ℕ) (r : Stored) (P : Phase) → P.nurses ≡ nurses w → Agree w r (view_of P r).slots
unfolding Agree view
view_agrees w r P e j h = rw (lt-ltb j P.nurses (omega arith))

-- ---- one nurse

module _ {o : Offers} {cols : Columns} {u : ℕ} {r : Stored} (n : BestNeeds o cols u r) (ward : Accepted o.ward.now.numbers.now) where
  abbrev in_search : Search
  in_search = o.search

  abbrev w : List ℕ
  w = o.ward.now.numbers.now

  -- what she tries
  abbrev tried : ℕ → List ℕ
  tried = tried_in_offers o

  module _ (P : Phase) (s : SeeksBy in_search w tried P) (i : ℕ) (l : i < nurses w) where
    abbrev slots_in : ℕ → Slot
    slots_in = (view_of P r).slots

    abbrev may : ℕ → Bool
    may = may_take (view_of P r) i

    -- the unplaced after an exchange of hers, whichever pattern she takes
    abbrev others : ℕ
    others = unplaced_in w (exchanged slots_in i 0)

    agrees : Agree w r slots_in
    agrees = view_agrees w r P s.nurses_are

    was_none : is_none (slots_in i) ≡ not (get_or r.placed i false)
    was_none = ap is_none (agree_at w r slots_in i agrees l) ∙ none_flag (get_or r.placed i false) (get_or r.patterns i 0)

    counted_now : u ≡ unplaced_in w slots_in
    counted_now = n.counted.is ∙ unplaced_is w r slots_in agrees

    pub others_then : (p : ℕ) → u ≡ unplaced_in w (exchanged slots_in i p) + one_if (not (get_or r.placed i false))
    others_then p = counted_now ∙ unplaced_after w slots_in i p l ∙ ap (λ (b : Bool). unplaced_in w (exchanged slots_in i p) + one_if b) was_none

    same_others : (p : ℕ) → others ≡ unplaced_in w (exchanged slots_in i p)
    same_others p = omega (arith, others_then 0, others_then p)

    -- her cost is the phase's
    costs : (λ p. rest (parts_in in_search w (exchanged slots_in i p)) + 10000000 * others) ≡ cost_in P (view_of P r) i
    costs =
        fun_ext (λ p. ap (λ (x : ℕ). rest (parts_in in_search w (exchanged slots_in i p)) + 10000000 * x) (same_others p)
        ∙ sym (s.cost_is (exchanged slots_in i p) ∙ splits in_search p))
      where
        splits : (d : Search) (p : ℕ) → cost_of d w (exchanged slots_in i p) ≡ rest (parts_in d w (exchanged slots_in i p)) + 10000000 * unplaced_in w (exchanged slots_in i p)
        splits Days p = (day_split w (exchanged slots_in i p) ward).0 ∙ omega arith
        splits Nights p = (night_split w (exchanged slots_in i p) ward).0 ∙ omega arith

    -- what she may take
    may_here : MayBy may w i r
    may_here p =
        may_by P.nurses P.tabu r i p (omega (arith, s.nurses_are))
        ∙ ap (λ (k : ℕ). not ((get_or r.placed i false && eqb (get_or r.patterns i 0) p) || given_up_by (take (held k r) r.removals) (i + 1) p)) s.tabu_is

    -- what the loop over her list found, as the phase has it
    pub nurse_found : (best : Best) {res : Best}
        → ((slots : ℕ → Slot) (f : ℕ → Bool) (a : ℕ) → Shows in_search w slots cols → MayBy f w i r → u ≡ a + one_if (not (get_or r.placed i false))
        → res ≡ over_list f (λ p. rest (parts_in in_search w (exchanged slots i p)) + 10000000 * a) i best (tried i))
        → res ≡ over_list may (cost_in P (view_of P r) i) i best (P.patterns i)
    nurse_found best f =
        f slots_in may others (n.shown.shows slots_in agrees) may_here (others_then 0)
        ∙ ap (λ (c : ℕ → ℕ). over_list may c i best (tried i)) costs
        ∙ ap (over_list may (cost_in P (view_of P r) i) i best) (sym (s.patterns_are i l))

current_is : (b : Bool) (v p : ℕ) → is_current (then_some b v) p ≡ (b && eqb v p)
current_is true v p = refl
current_is false v p = refl

-- the bars gathered are what she may not take
pub bars_are : (may : ℕ → Bool) (w : List ℕ) (i : ℕ) (r : Stored) {current : Option ℕ} {gave : List StoredRemoval} (bars : List ℕ)
    → MayBy may w i r → current ≡ then_some (get_or r.placed i false) (get_or r.patterns i 0) → gave ≡ take (held (tabu w) r) r.removals
    → ((p : ℕ) → any_of (λ y. eqb y p) bars ≡ (is_current current p || given_up_by gave (i + 1) p)) → Bars may bars
bars_are may w i r bars m e q g p =
    let placed = ap (λ (o : Option ℕ). is_current o p) e ∙ current_is (get_or r.placed i false) (get_or r.patterns i 0) p in
    m p ∙ ap not (sym (g p ∙ ap₂ (λ (b : Bool) (l : List StoredRemoval). b || given_up_by l (i + 1) p) placed q))

-- by night her list is all hers, or the common one
pub night_list : (w lists : List ℕ) (i : ℕ) (s : Source) (list : Offered) → IsOffered lists s list → SourceHers w lists i s → NightList w i list
night_list w lists i (Kept own) (Own l) q h = subst (AllHers w i) (sym q) (h.kept_hers own refl)
night_list w lists i (Kept own) (Common l) q h = absurd q
night_list w lists i Whole (Own l) q h = subst (AllHers w i) (sym q) (h.whole_hers refl)
night_list w lists i Whole (Common l) q h = absurd q
night_list w lists i Among (Own l) q h = absurd q
night_list w lists i Among (Common l) q h = q ∙ h.among_common refl

-- its patterns
pub offered_is : (lists : List ℕ) (s : Source) (list : Offered) → IsOffered lists s list → offered list ≡ listed_by lists s
offered_is lists (Kept own) (Own l) q = q
offered_is lists (Kept own) (Common l) q = absurd q
offered_is lists Whole (Own l) q = q
offered_is lists Whole (Common l) q = absurd q
offered_is lists Among (Own l) q = absurd q
offered_is lists Among (Common l) q = q

-- what was found, by her list and the unplaced besides her
pub found_in : (which : Search) (w : List ℕ) (may : ℕ → Bool) (cost : ℕ → ℕ) (i : ℕ) (held : Best) {others a : ℕ} {list tried : List ℕ} {r : Best} → a ≡ others → list ≡ tried
    → r ≡ over_list may (λ p. cost p + 10000000 * a) i held (tried_in which w i list) → r ≡ over_list may (λ p. cost p + 10000000 * others) i held (tried_in which w i tried)
found_in which w may cost i held q e f = f ∙ ap₂ (λ (k : ℕ) (l : List ℕ). over_list may (λ p. cost p + 10000000 * k) i held (tried_in which w i l)) q e

-- the loop over the nurses
module _ {which : Search} {w : List ℕ} {tried : ℕ → List ℕ} {P : Phase} (s : SeeksBy which w tried P) (r : Stored) where
  pub best_start : None ≡ best_over P (view_of P r) 0
  best_start = nurses_none (may_take (view_of P r)) (cost_in P (view_of P r)) P.patterns

  pub best_turn : (i : ℕ) {b b' : Best} → b ≡ best_over P (view_of P r) i → b' ≡ over_list (may_take (view_of P r) i) (cost_in P (view_of P r) i) i b (P.patterns i) → b' ≡ best_over P (view_of P r) (i + 1)
  best_turn i e f = nurses_turn (may_take (view_of P r)) (cost_in P (view_of P r)) P.patterns i e f

  pub best_end : {b : Best} {i m : ℕ} → b ≡ best_over P (view_of P r) i → i ≤ m → m ≤ i → m ≡ nurses w → b ≡ best_over P (view_of P r) P.nurses
  best_end {b} {i} {m} e l h q = let z : i ≡ P.nurses = omega (arith, s.nurses_are) in e ∙ ap (best_over P (view_of P r)) z

-- ---- step and advance

module _ {which : Search} {w : List ℕ} {tried : ℕ → List ℕ} {P : Phase} (s : SeeksBy which w tried P) where
  pub seeks_fits : Accepted w → Fits P
  seeks_fits a = record { nurses_most = omega (arith, s.nurses_are, a.nurses_most); tabu_at_most = omega (arith, s.tabu_is, a.tabu_at_most) }

  pub seeks_cost : (r : Stored) {pen : ℕ} → ((slots : ℕ → Slot) → Agree w r slots → pen ≡ cost_of which w slots) → pen ≡ P.cost (view_of P r).slots
  seeks_cost r f = f (view_of P r).slots (view_agrees w r P s.nurses_are) ∙ sym (s.cost_is (view_of P r).slots)

  -- an advance before its first step
  pub turn_start : Accepted w → (r : Stored) → Sized r → sound_stored P r ≡ true → (past_zero : Bool) (k : ℕ) {pen : ℕ}
      → ((slots : ℕ → Slot) → Agree w r slots → pen ≡ cost_of which w slots) → Turn P past_zero k r r 0 pen
  turn_start a r z e past_zero k f = record { running = running_start P past_zero k r z e; fits = seeks_fits a; cost = seeks_cost r f }

  pub seeks_nurse : (r : Stored) {b : Best} {y : Exchange} → b ≡ best_over P (view_of P r) P.nurses → b ≡ Some y → y.nurse < nurses w
  seeks_nurse r {y = y} e q = let l : y.nurse < P.nurses = takes_nurse P r s.ascending e q in omega (arith, s.nurses_are)

  pub seeks_none : (r : Stored) {b : Best} → b ≡ best_over P (view_of P r) P.nurses → b ≡ None → None ≡ stepped_of P r
  seeks_none r e q = takes_none P r s.ascending e q

  -- the penalty by the columns before an exchange is that of the record after it
  module _ {cols : Columns} {r : Stored} (i p : ℕ) {u : ℕ} (shown : ColumnsOf which w r cols) (l : i < nurses w)
      (count : Is u (count_to (nurses w) (λ j. not (get_or r.placed j false))) nurse_places) where
    abbrev slots_now : ℕ → Slot
    slots_now = (view_of P r).slots

    agrees_now : Agree w r slots_now
    agrees_now = view_agrees w r P s.nurses_are

    unplaced_now : u ≡ unplaced_in w (exchanged slots_now i p) + one_if (not (get_or r.placed i false))
    unplaced_now =
        count.is ∙ unplaced_is w r slots_now agrees_now ∙ unplaced_after w slots_now i p l
        ∙ ap (λ (b : Bool). unplaced_in w (exchanged slots_now i p) + one_if b) (ap is_none (agree_at w r slots_now i agrees_now l) ∙ none_flag (get_or r.placed i false) (get_or r.patterns i 0))

    pub exchange_cost : {pen : ℕ} → ((slots : ℕ → Slot) → Shows which w slots cols → u ≡ unplaced_in w (exchanged slots i p) + one_if (not (get_or r.placed i false))
        → pen ≡ total (parts_in which w (exchanged slots i p))) → pen ≡ cost_after P (view_of P r) (record { nurse = i; pattern = p })
    exchange_cost g =
        g slots_now (shown.shows slots_now agrees_now) unplaced_now ∙ cost_total which w (exchanged slots_now i p) ∙ sym (s.cost_is (exchanged slots_now i p))

  pub seeks_some : (r : Stored) {b : Best} {y : Exchange} {x : Stepped} → b ≡ best_over P (view_of P r) P.nurses → b ≡ Some y → x.after ≡ exchanged_in (tabu w) r y.nurse y.pattern
      → x.penalty ≡ cost_after P (view_of P r) (record { nurse = y.nurse; pattern = y.pattern }) → Some x ≡ stepped_of P r
  seeks_some r {y = y} e q z f = takes_some P r s.ascending e q (z ∙ ap (λ (k : ℕ). exchanged_in k r y.nurse y.pattern) (sym s.tabu_is)) f

-- ---- what a step asks, and its choice

module _ {o : Offers} {cols : Columns} {r : Stored} (n : StepNeeds o cols r) where
  -- the nurse of the exchange that was chosen
  pub chosen_nurse : {b : Best} {y : Exchange} → ((P : Phase) → SeeksIn o P → b ≡ best_over P (view_of P r) P.nurses) → b ≡ Some y → y.nurse < nurses o.ward.now.numbers.now
  chosen_nurse f q = seeks_nurse n.sought r (f n.phase n.sought) q

-- ---- the columns after a step

-- everyone's slot after an exchange
slot_after : (tl : ℕ) (r : Stored) (i p j : ℕ) → Sized r → i < nurse_places → slot_at (exchanged_in tl r i p) j ≡ exchanged (slot_at r) i p j
unfolding exchanged_in
slot_after tl r i p j z l = go (eqb j i) refl
  where
    go : (b : Bool) → eqb j i ≡ b → slot (get_or (set r.placed i true) j false) (get_or (set r.patterns i p) j 0) ≡ cond b (some p) (slot_at r j)
    go true e =
        rw (eqb-true j i e, get_or-set_same r.placed i true false (omega (arith, z.placed_long)), get_or-set_same r.patterns i p 0 (omega (arith, z.patterns_long))) refl
    go false e =
        rw (get_or-set_other r.placed i j true false (eqb-false j i e), get_or-set_other r.patterns i j p 0 (eqb-false j i e)) refl

-- the trial's penalty, by the unplaced besides her
pub trial_total : (which : Search) (w : List ℕ) (cols : Columns) (i p nights free : ℕ) (placed : Bool) {u o pen : ℕ} {y : Parts} → ((a : ℕ) → u ≡ a + one_if (not placed) → o ≡ a)
    → CountsIn which w i p nights free
    → ((slots : ℕ → Slot) (q : ℕ) → Shows which w slots cols → CountsIn which w i q nights free → o ≡ unplaced_in w (exchanged slots i q)
    → y ≡ parts_in which w (exchanged slots i q)) → pen ≡ total y
    → (slots : ℕ → Slot) → Shows which w slots cols → u ≡ unplaced_in w (exchanged slots i p) + one_if (not placed) → pen ≡ total (parts_in which w (exchanged slots i p))
trial_total which w cols i p nights free placed f c g e slots s q = e ∙ ap total (g slots p s c (f _ q))

-- nurse i is in the columns as the sets of her new pattern say
pub columns_after : (which : Search) (w : List ℕ) {cols cols' : Columns} {r r' : Stored} (i p nights free tl : ℕ) {n : ℕ} → r' ≡ exchanged_in tl r i p → Sized r → i < nurses w → nurses w ≤ nurse_places → n ≡ days w
    → ColumnsOf which w r cols → CountsIn which w i p nights free → NursePut cols cols' n i nights free → ColumnsOf which w r' cols'
unfolding Agree
columns_after which w {cols} {cols'} {r} {r'} i p nights free tl {n} after z l most e shown c x =
    record { shows = λ slots same. go slots (λ j h. same j h ∙ ap (λ (v : Stored). slot_at v j) after) which shown c }
  where
    was : ℕ → Slot
    was = slot_at r

    now_is : (slots : ℕ → Slot) → ((j : ℕ) → j < nurses w → slots j ≡ slot_at (exchanged_in tl r i p) j) → (j : ℕ) → j < nurses w → slots j ≡ exchanged was i p j
    now_is slots same j h = same j h ∙ slot_after tl r i p j z (omega arith)

    go : (slots : ℕ → Slot) → ((j : ℕ) → j < nurses w → slots j ≡ slot_at (exchanged_in tl r i p) j) → (d : Search) → ColumnsOf d w r cols → CountsIn d w i p nights free
        → Shows d w slots cols'
    go slots same Nights s g = record {
      night_shown = λ d h.
          let y = night_after w was i p l d _ ((s.shows was (λ j k. refl)).night_shown d h) in
          let put_is = x.night_put d (omega arith) ∙ ap (λ (x : ℕ). put (has (get_or cols.night d 0)) i (has x d)) g.starts_are in
          subst (λ (f : ℕ → Bool). Same (nurses w) f (at_night w slots d)) (sym put_is)
          (same_as (nurses w) _ (at_night w (exchanged was i p) d) y (at_night w slots d) (λ j k. ap (λ (t : Slot). has (days_of (starts_in w j t)) d) (sym (now_is slots same j k))));
      available_shown = λ d h.
          let y = available_after w was i p l d _ ((s.shows was (λ j k. refl)).available_shown d h) in
          let put_is = x.day_put d (omega arith) ∙ ap (put (has (get_or cols.day d 0)) i) (g.free_are d h) in
          subst (λ (f : ℕ → Bool). Same (nurses w) f (available_in w slots d)) (sym put_is)
          (same_as (nurses w) _ (available_in w (exchanged was i p) d) y (available_in w slots d) (λ j k. ap (λ (t : Slot). available_in w (λ x. t) d j) (sym (now_is slots same j k))));
    }
    go slots same Days s g = record {
      day_shown = λ d h.
          let y = day_after w was i p l d _ ((s.shows was (λ j k. refl)).day_shown d h) in
          let put_is = x.day_put d (omega arith) ∙ ap (λ (x : ℕ). put (has (get_or cols.day d 0)) i (has x d)) g in
          subst (λ (f : ℕ → Bool). Same (nurses w) f (at_day w slots d)) (sym put_is)
          (same_as (nurses w) _ (at_day w (exchanged was i p) d) y (at_day w slots d) (λ j k. ap (λ (t : Slot). at_day w (λ x. t) d j) (sym (now_is slots same j k))));
    }
