-- The search for the best exchange as loops make it, nurse by nurse and each nurse's list in order, finds the exchange that a step takes.
use Rattle.std.specs.Prelude.{ℕ, zero, suc, ◌+◌, ◌≤◌, ◌<◌, ◌≡◌, refl, Bool, true, false, cond, ◌&&◌, List, [], ◌∷◌, ◌++◌, ltb, length, get_or, take, Some, None}
use Rattle.std.proofs.Common.{suc-le-suc, sym, ap, ◌∙◌, subst, ⊎_elim, append_assoc, append-nil, arith, zero-add, add-one, take-suc, take_all, ltb-true, ltb-false, le-ltb}
use Rattle.std.proofs.Math.Option.{Option, none, some}
use mathlib.Core.List.Memᴰ
use mathlib.Core.List.{Memᴰ}
use Rattle.numbers.specs.Range.{up_from, filter, Ascending}
use Rattle.numbers.proofs.RangeLaws.{range_add}
use Rattle.numbers.proofs.MemberLaws.{Each}
use Rattle.history.specs.Phase.{Step, Phase, offers_to, offers, exchanges, least}
use Rattle.history.specs.Record.{Record, may_take, cost_after, best}
use Rattle.history.specs.Claim.{NotAfter}
use Rattle.best.specs.CodeBest.{Best, exchange, improves, considered, over_list, over_nurses, best_over, found}
use Rattle.history.proofs.ChooseLaws.{First, least_none, least_first, step_path, offers_to_only, offers_only, range_only}

-- what costs no less improves no more
pub improves_less : (b : Best) {c d : ℕ} → c ≤ d → improves b c ≡ false → improves b d ≡ false
improves_less None l e = e
improves_less (Some b) {c} {d} l e = le-ltb d b.cost (omega (arith, ltb-false c b.cost e))

-- ---- the loop over a list

module _ (may : ℕ → Bool) (cost : ℕ → ℕ) (i : ℕ) where
  pub over_nil : (b : Best) → over_list may cost i b [] ≡ b
  unfolding over_list
  over_nil b = refl

  pub over_one : (b : Best) (p : ℕ) → over_list may cost i b (p ∷ []) ≡ considered may cost i b p
  unfolding over_list
  over_one b p = refl

  pub over_append : (b : Best) (ps qs : List ℕ) → over_list may cost i b (ps ++ qs) ≡ over_list may cost i (over_list may cost i b ps) qs
  unfolding over_list
  over_append b [] qs = refl
  over_append b (p ∷ ps) qs = over_append (considered may cost i b p) ps qs

  -- where nothing that she may take improves, the best stays
  pub over_none : (b : Best) (ps : List ℕ) → Each (λ p. may p ≡ true → improves b (cost p) ≡ false) ps → over_list may cost i b ps ≡ b
  unfolding over_list
  over_none b [] f = refl
  over_none b (p ∷ ps) f =
      ap (λ (x : Best). over_list may cost i x ps) (stays (may p) refl)
      ∙ over_none b ps (λ k l. f (suc k) (suc-le-suc l))
    where
      same : (t : Bool) → t ≡ false → cond t (exchange i p (cost p)) b ≡ b
      same t e = rw e

      stays : (u : Bool) → may p ≡ u → cond u (cond (improves b (cost p)) (exchange i p (cost p)) b) b ≡ b
      stays true e = same (improves b (cost p)) (f 0 (omega arith) e)
      stays false e = refl

  -- one more of a list that is walked by its index
  pub over_more : (b : Best) (ps : List ℕ) (k : ℕ) → k < length ps
      → over_list may cost i b (take (k + 1) ps) ≡ considered may cost i (over_list may cost i b (take k ps)) (get_or ps k 0)
  over_more b ps k h = rw (add-one, take-suc ps k 0) (over_append b (take k ps) (get_or ps k 0 ∷ []) ∙ over_one (over_list may cost i b (take k ps)) (get_or ps k 0))

  pub over_done : (b : Best) (ps : List ℕ) (k : ℕ) → length ps ≤ k → over_list may cost i b (take k ps) ≡ over_list may cost i b ps
  over_done b ps k h = ap (over_list may cost i b) (take_all k ps h)

  -- The turn of a loop that asks for the cost first, and only of what improves whether she may take it.
  module _ (b₀ : Best) (ps : List ℕ) (k : ℕ) {b : Best} (l : k < length ps) (e : b ≡ over_list may cost i b₀ (take k ps)) where
    abbrev here : ℕ
    here = get_or ps k 0

    turn : (x : Best) → considered may cost i b here ≡ x → x ≡ over_list may cost i b₀ (take (k + 1) ps)
    turn x q = sym (over_more b₀ ps k l ∙ ap (λ (y : Best). considered may cost i y here) (sym e) ∙ q)

    same : (t : Bool) (x : Best) → cond t x x ≡ x
    same true x = refl
    same false x = refl

    pub turn_considered : {c : ℕ} {b' : Best} → c ≡ cost (get_or ps k 0) → b' ≡ considered may (λ q. c) i b (get_or ps k 0) → b' ≡ over_list may cost i b₀ (take (k + 1) ps)
    turn_considered q s = turn _ (ap (λ (x : ℕ). cond (may here) (cond (improves b x) (exchange i here x) b) b) (sym q) ∙ sym s)

    pub turn_worse : {c : ℕ} {t : Bool} → c ≡ cost (get_or ps k 0) → t ≡ improves b c → t ≡ false → b ≡ over_list may cost i b₀ (take (k + 1) ps)
    turn_worse q s f =
        let n : improves b (cost here) ≡ false = ap (improves b) (sym q) ∙ sym s ∙ f in
        turn b (rw n (same (may here) b))

    pub turn_barred : {u : Bool} → u ≡ may (get_or ps k 0) → u ≡ false → b ≡ over_list may cost i b₀ (take (k + 1) ps)
    turn_barred q f = turn b (rw (sym q ∙ f))

-- what a test keeps of a list: the test asked beside what she may take
pub over_filter : (t may : ℕ → Bool) (cost : ℕ → ℕ) (i : ℕ) (b : Best) (ps : List ℕ)
    → over_list may cost i b (filter t ps) ≡ over_list (λ p. t p && may p) cost i b ps
unfolding filter over_list
over_filter t may cost i b [] = refl
over_filter t may cost i b (p ∷ ps) = go (t p) refl (over_filter t may cost i b ps) (over_filter t may cost i (considered may cost i b p) ps)
  where
    go : (u : Bool) → t p ≡ u → over_list may cost i b (filter t ps) ≡ over_list (λ p. t p && may p) cost i b ps
        → over_list may cost i (considered may cost i b p) (filter t ps) ≡ over_list (λ p. t p && may p) cost i (considered may cost i b p) ps
        → over_list may cost i b (cond u (p ∷ filter t ps) (filter t ps)) ≡ over_list (λ p. t p && may p) cost i (cond (u && may p) (cond (improves b (cost p)) (exchange i p (cost p)) b) b) ps
    go true e x y = y
    go false e x y = x

-- ---- the loop over the nurses

module _ (may : ℕ → ℕ → Bool) (cost : ℕ → ℕ → ℕ) (lists : ℕ → List ℕ) where
  pub nurses_none : None ≡ over_nurses may cost lists 0
  unfolding over_nurses
  nurses_none = refl

  pub nurses_turn : (i : ℕ) {b b' : Best} → b ≡ over_nurses may cost lists i → b' ≡ over_list (may i) (cost i) i b (lists i) → b' ≡ over_nurses may cost lists (i + 1)
  unfolding over_nurses
  nurses_turn i e f = rw (add-one i) (f ∙ ap (λ (x : Best). over_list (may i) (cost i) i x (lists i)) e)

-- ---- exchanges in order

-- t comes before s in order
abbrev Below : Step → Step → Type 0
Below t s = (t.nurse ≤ s.nurse) × (t.nurse ≡ s.nurse → t.pattern < s.pattern)

-- each comes before those after it
data Sorted : List Step → Type 0 where
  empty : Sorted []
  more : {s : Step} {l : List Step} → ((t : Step) → Memᴰ t l → Below s t) → Sorted l → Sorted (s ∷ l)

sorted_append : (l m : List Step) → ((s t : Step) → Memᴰ s l → Memᴰ t m → Below s t) → Sorted l → Sorted m → Sorted (l ++ m)
sorted_append [] m f a b = b
sorted_append (s ∷ l) m f (more g a) b =
    more (λ t k. ⊎_elim (g t) (λ k. f s t (Memᴰ.head refl) k) (Memᴰ.append_cases l k))
    (sorted_append l m (λ s t k. f s t (Memᴰ.tail k)) a b)

member_at : (xs : List ℕ) (q : ℕ) → Memᴰ q xs → (k : ℕ) × (k < length xs) × (get_or xs k 0 ≡ q)
member_at [] q m = absurd (Memᴰ.not-nil m)
member_at (x ∷ xs) q m =
    ⊎_elim (λ e. (0, omega arith, sym e)) (λ m. let r = member_at xs q m in (suc r.0, suc-le-suc r.1, r.2)) (Memᴰ.cases_cons m)

ascending_tail : (x : ℕ) (xs : List ℕ) → Ascending (x ∷ xs) → Ascending xs
unfolding Ascending
ascending_tail x xs a j k l h = a (suc j) (suc k) (suc-le-suc l) (suc-le-suc h)

ascending_head : (x : ℕ) (xs : List ℕ) → Ascending (x ∷ xs) → (q : ℕ) → Memᴰ q xs → x < q
unfolding Ascending
ascending_head x xs a q m = let r = member_at xs q m in rw (← r.2) (a 0 (suc r.0) (omega arith) (suc-le-suc r.1))

module _ (may : ℕ → ℕ → Bool) where
  sorted_to : (i : ℕ) (ps : List ℕ) → Ascending ps → Sorted (offers_to may i ps)
  sorted_to i [] a = empty
  sorted_to i (p ∷ ps) a = go (may i p) (sorted_to i ps (ascending_tail p ps a))
    where
      go : (b : Bool) → Sorted (offers_to may i ps) → Sorted (cond b (record { nurse = i; pattern = p } ∷ offers_to may i ps) (offers_to may i ps))
      go true s =
          more {s = record { nurse = i; pattern = p }} (λ t m.
          let o = offers_to_only may i ps t m in
          (omega (arith, o.0), λ _. ascending_head p ps a t.pattern o.1)) s
      go false s = s

  sorted_offers : (patterns : ℕ → List ℕ) (a n : ℕ) → ((i : ℕ) → a ≤ i → i < a + n → Ascending (patterns i)) → Sorted (offers patterns may (up_from a n))
  unfolding up_from
  sorted_offers patterns a zero f = empty
  sorted_offers patterns a (suc n) f =
      sorted_append (offers_to may a (patterns a)) (offers patterns may (up_from (suc a) n))
      (λ s t k m.
      let x = offers_to_only may a (patterns a) s k in
      let y = range_only (suc a) n t.nurse (offers_only patterns may (up_from (suc a) n) t m).0 in
      (omega (arith, x.0), λ e. let z : ⊥ = omega (arith, x.0) in absurd z))
      (sorted_to a (patterns a) (f a (omega arith) (omega arith)))
      (sorted_offers patterns (suc a) n (λ i l h. f i (omega arith) (omega arith)))

-- ---- the first of least cost

best_of : (Step → ℕ) → Option Step → Best
best_of cost none = None
best_of cost (some s) = exchange s.nurse s.pattern (cost s)

-- one more exchange, after the best so far
abbrev better : (Step → ℕ) → Best → Step → Best
better cost b s = cond (improves b (cost s)) (exchange s.nurse s.pattern (cost s)) b

-- a list of exchanges in order
walk : (Step → ℕ) → Best → List Step → Best
walk cost b [] = b
walk cost b (s ∷ l) = walk cost (better cost b s) l

walk_append : (cost : Step → ℕ) (b : Best) (l m : List Step) → walk cost b (l ++ m) ≡ walk cost (walk cost b l) m
unfolding walk
walk_append cost b [] m = refl
walk_append cost b (s ∷ l) m = walk_append cost (better cost b s) l m

module _ (cost : Step → ℕ) where
  first_unique : (l : List Step) (s t : Step) → First cost s l → First cost t l → s ≡ t
  first_unique l s t f g =
      let p = f.first t g.member in
      let q = g.first s f.member in
      let c : cost s ≡ cost t = omega (arith, p.penalty, q.penalty) in
      let n : s.nurse ≡ t.nurse = omega (arith, p.nurse c, q.nurse (sym c)) in
      step_path s t n (omega (arith, p.number c n, q.number (sym c) (sym n)))

  least_is : (l : List Step) (s : Step) → First cost s l → least cost l ≡ some s
  least_is l s f = go (least cost l) refl
    where
      go : (o : Option Step) → least cost l ≡ o → least cost l ≡ some s
      go none e = absurd (Memᴰ.not-nil (rw (least_none cost l e) at f.member))
      go (some t) e = e ∙ ap {B = Option Step} some (first_unique l t s (least_first cost l t e) f)

  -- one more exchange, which comes after all those before it in order
  least_more : (l : List Step) (s : Step) → ((t : Step) → Memᴰ t l → Below t s) → best_of cost (least cost (l ++ (s ∷ []))) ≡ better cost (best_of cost (least cost l)) s
  unfolding best_of
  least_more l s b = go (least cost l) refl
    where
      ends : (u : Step) → ((t : Step) → Memᴰ t l → NotAfter (cost u) (cost t) u t) → NotAfter (cost u) (cost s) u s
          → (t : Step) → Memᴰ t (l ++ (s ∷ [])) → NotAfter (cost u) (cost t) u t
      ends u f g t m =
          ⊎_elim (f t) (λ m. subst (λ (x : Step). NotAfter (cost u) (cost x) u x) (sym (Memᴰ.eq_of_singleton m)) g) (Memᴰ.append_cases l m)

      test : (t : Step) → First cost t l → (c : Bool) → ltb (cost s) (cost t) ≡ c
          → best_of cost (least cost (l ++ (s ∷ []))) ≡ cond c (best_of cost (some s)) (best_of cost (some t))
      test t f true e =
          let d = ltb-true (cost s) (cost t) e in
          ap (best_of cost) (least_is (l ++ (s ∷ [])) s
          (record {
            member = Memᴰ.append_right l (Memᴰ.head refl);
            first = ends s (λ u m. omega (arith, (f.first u m).penalty)) (omega arith);
          }))
      test t f false e =
          let d = ltb-false (cost s) (cost t) e in
          let k = b t f.member in
          ap (best_of cost) (least_is (l ++ (s ∷ [])) t
          (record {
            member = Memᴰ.append_left (s ∷ []) f.member;
            first = ends t f.first (record { penalty = d; nurse = λ _. k.0; number = λ _ q. omega (arith, k.1 q) });
          }))

      go : (o : Option Step) → least cost l ≡ o → best_of cost (least cost (l ++ (s ∷ []))) ≡ better cost (best_of cost o) s
      go none e = rw (least_none cost l e)
      go (some t) e = test t (least_first cost l t e) (ltb (cost s) (cost t)) refl

  walk_least : (l m : List Step) → Sorted m → ((s t : Step) → Memᴰ s l → Memᴰ t m → Below s t)
      → walk cost (best_of cost (least cost l)) m ≡ best_of cost (least cost (l ++ m))
  unfolding walk
  walk_least l [] o f = ap (λ (x : List Step). best_of cost (least cost x)) (sym (append-nil l))
  walk_least l (s ∷ m) (more g o) f =
      ap (λ (b : Best). walk cost b m) (sym (least_more l s (λ t k. f t s k (Memᴰ.head refl))))
      ∙ walk_least (l ++ (s ∷ [])) m o
      (λ u t k n. ⊎_elim (λ k. f u t k (Memᴰ.tail n)) (λ k. subst (λ (x : Step). Below x t) (sym (Memᴰ.eq_of_singleton k)) (g t n)) (Memᴰ.append_cases l k))
      ∙ ap (λ (x : List Step). best_of cost (least cost x)) (append_assoc l (s ∷ []) m)

-- ---- the loops make this walk

module _ (may : ℕ → ℕ → Bool) (cost : Step → ℕ) where
  abbrev costs : ℕ → ℕ → ℕ
  costs i p = cost (record { nurse = i; pattern = p })

  list_walk : (i : ℕ) (b : Best) (ps : List ℕ) → over_list (may i) (costs i) i b ps ≡ walk cost b (offers_to may i ps)
  unfolding over_list walk
  list_walk i b [] = refl
  list_walk i b (p ∷ ps) = go (may i p) (list_walk i b ps) (list_walk i (better cost b (record { nurse = i; pattern = p })) ps)
    where
      go : (u : Bool) → over_list (may i) (costs i) i b ps ≡ walk cost b (offers_to may i ps)
          → over_list (may i) (costs i) i (better cost b (record { nurse = i; pattern = p })) ps ≡ walk cost (better cost b (record { nurse = i; pattern = p })) (offers_to may i ps)
          → over_list (may i) (costs i) i (cond u (better cost b (record { nurse = i; pattern = p })) b) ps
          ≡ walk cost b (cond u (record { nurse = i; pattern = p } ∷ offers_to may i ps) (offers_to may i ps))
      go true x y = y
      go false x y = x

  offers_append : (patterns : ℕ → List ℕ) (is js : List ℕ) → offers patterns may (is ++ js) ≡ offers patterns may is ++ offers patterns may js
  offers_append patterns [] js = refl
  offers_append patterns (i ∷ is) js = rw (offers_append patterns is js, append_assoc)

  offers_more : (patterns : ℕ → List ℕ) (m : ℕ) → offers patterns may (up_from 0 (suc m)) ≡ offers patterns may (up_from 0 m) ++ offers_to may m (patterns m)
  unfolding up_from
  offers_more patterns m =
      ap (λ (k : ℕ). offers patterns may (up_from 0 k)) (sym (add-one m)) ∙ ap (offers patterns may) (range_add 0 m 1)
      ∙ offers_append patterns (up_from 0 m) ((0 + m) ∷ [])
      ∙ ap (λ (k : ℕ). offers patterns may (up_from 0 m) ++ (offers_to may k (patterns k) ++ [])) (zero-add m)
      ∙ ap (λ (x : List Step). offers patterns may (up_from 0 m) ++ x) (append-nil (offers_to may m (patterns m)))

  nurses_walk : (patterns : ℕ → List ℕ) (m : ℕ) → over_nurses may costs patterns m ≡ walk cost None (offers patterns may (up_from 0 m))
  unfolding over_nurses walk up_from
  nurses_walk patterns zero = refl
  nurses_walk patterns (suc m) =
      ap (λ (b : Best). over_list (may m) (costs m) m b (patterns m)) (nurses_walk patterns m)
      ∙ list_walk m (walk cost None (offers patterns may (up_from 0 m))) (patterns m)
      ∙ sym (walk_append cost None (offers patterns may (up_from 0 m)) (offers_to may m (patterns m)))
      ∙ ap (walk cost None) (sym (offers_more patterns m))

found_of : (cost : Step → ℕ) (o : Option Step) → found (best_of cost o) ≡ o
unfolding best_of
found_of cost none = refl
found_of cost (some s) = refl

-- what the loops over all nurses find is the exchange that a step takes
pub found_best : (P : Phase) (R : Record) → ((i : ℕ) → i < P.nurses → Ascending (P.patterns i)) → found (best_over P R P.nurses) ≡ best P R
unfolding best best_of
found_best P R up =
    ap found (nurses_walk (may_take R) (cost_after P R) P.patterns P.nurses
    ∙ walk_least (cost_after P R) [] (exchanges P (may_take R)) (sorted_offers (may_take R) P.patterns 0 P.nurses (λ i l h. up i (omega arith))) (λ s t k m. absurd (Memᴰ.not-nil k)))
    ∙ found_of (cost_after P R) (best P R)
