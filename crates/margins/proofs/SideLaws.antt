-- A duty's cost on a day with nurse i on it and without her, from the margins of her conditions; and the loops that add them up.
use Rattle.std.specs.Prelude.{◌≡◌, refl, Bool, true, false, cond, ◌&&◌, List, ℕ, zero, suc, ◌+◌, ◌-◌, ◌*◌, ◌≤◌, ◌<◌, eqb, ltb, length, get_or, set, replicate, count_by}
use Rattle.std.proofs.Common.{sym, ap, ◌∙◌, subst, zero-mul, add-zero, not-suc-le-zero, arith, eqb-true, ltb-true, ltb-false, length-set, get_or-set_same, get_or-set_other}
use Rattle.std.proofs.lemmas.Bool.{false≢true, eqb-false}
use Rattle.std.proofs.lemmas.List.Recursion.{is_count_by}
use Rattle.std.proofs.Math.ListN.{get_or-eq_default}
use Rattle.std.proofs.Math.Path.{fun_ext}
use Rattle.numbers.specs.Sum.{sum_to, count_to, one_if, Is}
use Rattle.numbers.specs.Digits.{has, put}
use Rattle.numbers.proofs.SumLaws.{sum_zero, sum_front, sum_ext, sum_add, sum_le, count_le, loop_start, loop_turn, loop_end}
use Rattle.numbers.proofs.DigitLaws.{count_put, count_put_all}
use Rattle.fields.specs.Fields.{Accepted, nurses, days, member_sets, needs, need, low, high}
use Rattle.fields.proofs.FieldLaws.{length_member_sets}
use Rattle.penalty.specs.Weights.{Weights, Light}
use Rattle.penalty.specs.CodeCounts.{DayNeeds, members_in, need_term, low_term, high_term, group_term, duty_cost}
use Rattle.penalty.proofs.DutyLaws.{w_le, u_le, v_le}
use Rattle.penalty.proofs.ColumnLaws.{zeros}
use Rattle.penalty.proofs.FieldLaws.{needs_are}
use Rattle.tables.specs.CodeTables.{Low}
use Rattle.margins.specs.declared.sides.Side.{Side}
use Rattle.margins.specs.CodeMargins.{bounds_cost, as_low, Margin, DayMargins, MarginsOf, SomeMargins, Slight, RowAdded, Hers, SideFits, SideOf, side_at, SidesOf}

-- ---- one condition, with her among those that count or not

more_one : (cost : ℕ → ℕ) {x m f : ℕ} (b : Bool) → Margin cost x m f → cond b m 0 + cost x ≡ cond b 100 0 + cost (x + one_if b)
more_one cost true h = h.more_is
more_one cost {x} false h = ap (λ (y : ℕ). 0 + cost y) (sym (add-zero x))

fewer_one : (cost : ℕ → ℕ) {x m f : ℕ} (y : ℕ) (b : Bool) → Margin cost x m f → x ≡ y + one_if b → cond b f 0 + cost x ≡ cond b 100 0 + cost y
fewer_one cost y true h e = h.fewer_is y e
fewer_one cost y false h e = ap (λ (z : ℕ). 0 + cost z) (e ∙ add-zero y)

-- ---- a choice as it stands

put_same : (f : ℕ → Bool) (i : ℕ) (b : Bool) → f i ≡ b → put f i b ≡ f
put_same f i b e = fun_ext (λ j. go j (eqb j i) refl)
  where
    go : (j : ℕ) (t : Bool) → eqb j i ≡ t → cond t b (f j) ≡ f j
    go j true q = sym e ∙ ap f (sym (eqb-true j i q))
    go j false q = refl

-- ---- the terms of a duty are what bounds cost

need_cost : (wt : Weights) (needs : List ℕ) (k : ℕ) (f : ℕ → Bool) → need_term wt needs k f ≡ bounds_cost (as_low wt) (need needs k) 0 (count_to 64 f)
unfolding need_term bounds_cost
need_cost wt needs k f = omega (arith, zero-mul (count_to 64 f - 0))

group_cost : (wt : Weights) (sets needs : List ℕ) (k : ℕ) (f : ℕ → Bool) (g : ℕ) → group_term wt sets needs k f g ≡ bounds_cost wt (low needs k g) (high needs k g) (members_in sets f g)
unfolding group_term low_term high_term bounds_cost
group_cost wt sets needs k f g = refl

-- at most so much, whoever is on duty
pub duty_most : (wt : Weights) (sets needs : List ℕ) (k : ℕ) (f : ℕ → Bool) → Light wt → DayNeeds sets needs → duty_cost wt sets needs k f ≤ 185600
unfolding need_term group_term low_term high_term
duty_most wt sets needs k f l n =
    let all : wt.w * (need needs k - count_to 64 f) ≤ 4800 = w_le l (omega (arith, n.small k)) in
    let each = sum_le (length sets) 11300 (group_term wt sets needs k f)
    (λ g h. let a : wt.u * (low needs k g - members_in sets f g) ≤ 4800 = u_le l (omega (arith, n.small (4 * g + 2 * k + 2))) in
    let b : wt.v * (members_in sets f g - high needs k g) ≤ 6500 = v_le l (omega (arith, count_le 64 (λ i. f i && has (get_or sets g 0) i))) in
    omega arith) in
    omega (arith, all, each, n.groups)

-- ---- her conditions added up

move : (n : ℕ) (a s z t : ℕ → ℕ) → ((g : ℕ) → g < n → a g + s g ≡ z g + t g) → sum_to n a + sum_to n s ≡ sum_to n z + sum_to n t
move n a s z t h = sym (sum_add n a s) ∙ sum_ext n (λ g. a g + s g) (λ g. z g + t g) h ∙ sum_add n z t

hundreds : (n : ℕ) (p : ℕ → Bool) → sum_to n (λ g. cond (p g) 100 0) ≡ 100 * count_to n p
unfolding sum_to
hundreds zero p = refl
hundreds (suc n) p = omega (arith, hundreds n p, one (p n))
  where
    one : (b : Bool) → cond b 100 0 ≡ 100 * one_if b
    one true = refl
    one false = refl

-- what her margins add up to at place e of each row, and 100 for each
abbrev pub sum_at : List ℕ → ℕ → List ℕ → ℕ → ℕ
sum_at sets i part e = get_or part (1024 + e) 0 + sum_to (length sets) (λ g. cond (has (get_or sets g 0) i) (get_or part (64 * g + e) 0) 0)

abbrev pub zero_of : List ℕ → ℕ → ℕ
zero_of sets i = 100 * (1 + count_to (length sets) (λ g. has (get_or sets g 0) i))

module _ (wt : Weights) (sets needs : List ℕ) (k i : ℕ) (f : ℕ → Bool) (part : List ℕ) where
  -- from f to f', by the margins at place e of each row
  changed : (f' : ℕ → Bool) (e : ℕ) → get_or part (1024 + e) 0 + need_term wt needs k f ≡ 100 + need_term wt needs k f'
      → ((g : ℕ) → g < length sets → cond (has (get_or sets g 0) i) (get_or part (64 * g + e) 0) 0 + group_term wt sets needs k f g ≡ cond (has (get_or sets g 0) i) 100 0 + group_term wt sets needs k f' g)
      → sum_at sets i part e + duty_cost wt sets needs k f ≡ zero_of sets i + duty_cost wt sets needs k f'
  changed f' e all each =
      let p : ℕ → Bool = λ g. has (get_or sets g 0) i in
      let sums = move (length sets) (λ g. cond (p g) (get_or part (64 * g + e) 0) 0) (group_term wt sets needs k f) (λ g. cond (p g) 100 0) (group_term wt sets needs k f') each in
      omega (arith, all, sums, hundreds (length sets) p)

module _ (wt : Weights) (sets needs : List ℕ) (k column : ℕ) (part : List ℕ) (d i : ℕ) (l : i < 64) (h : DayMargins wt sets needs k column part d) where
  -- where she is not on duty: one more
  more_changed : has column i ≡ false → sum_at sets i part d + duty_cost wt sets needs k (has column) ≡ zero_of sets i + duty_cost wt sets needs k (put (has column) i true)
  more_changed q =
      let f = has column in
      let f' = put f i true in
      let same = put_same f i false q in
      let count : count_to 64 f' ≡ count_to 64 f + 1 = count_put_all 64 i f l ∙ ap (λ (t : ℕ → Bool). count_to 64 t + 1) same in
      let counts : (g : ℕ) → members_in sets f' g ≡ members_in sets f g + one_if (has (get_or sets g 0) i) = λ g.
      count_put 64 i f (has (get_or sets g 0)) l ∙ ap (λ (t : ℕ → Bool). members_in sets t g + one_if (has (get_or sets g 0) i)) same in
      changed wt sets needs k i f part f' d
      (omega (arith, need_cost wt needs k f, need_cost wt needs k f', h.everyone.more_is, ap (bounds_cost (as_low wt) (need needs k) 0) count))
      (λ g m. let one = more_one (bounds_cost wt (low needs k g) (high needs k g)) (has (get_or sets g 0) i) (h.groups g m) in
      omega (arith, one, group_cost wt sets needs k f g, group_cost wt sets needs k f' g, ap (bounds_cost wt (low needs k g) (high needs k g)) (counts g)))

  -- where she is: one fewer
  fewer_changed : has column i ≡ true → sum_at sets i part (32 + d) + duty_cost wt sets needs k (has column) ≡ zero_of sets i + duty_cost wt sets needs k (put (has column) i false)
  fewer_changed q =
      let f = has column in
      let f' = put f i false in
      let same = sym (put_same f i true q) in
      let count : count_to 64 f ≡ count_to 64 f' + 1 = ap (λ (t : ℕ → Bool). count_to 64 t) same ∙ count_put_all 64 i f l in
      let counts : (g : ℕ) → members_in sets f g ≡ members_in sets f' g + one_if (has (get_or sets g 0) i) = λ g.
      ap (λ (t : ℕ → Bool). members_in sets t g) same ∙ count_put 64 i f (has (get_or sets g 0)) l in
      let all : get_or part (1024 + (32 + d)) 0 ≡ get_or part (1024 + d + 32) 0 = ap (λ (e : ℕ). get_or part e 0) (omega arith) in
      let each : (g : ℕ) → 64 * g + (32 + d) ≡ 64 * g + d + 32 = λ g. omega arith in
      changed wt sets needs k i f part f' (32 + d)
      (omega (arith, all, need_cost wt needs k f, need_cost wt needs k f', h.everyone.fewer_is (count_to 64 f') count))
      (λ g m. let one = fewer_one (bounds_cost wt (low needs k g) (high needs k g)) (members_in sets f' g) (has (get_or sets g 0) i) (h.groups g m) (counts g) in
      let at = ap (λ (e : ℕ). cond (has (get_or sets g 0) i) (get_or part e 0) 0) (each g) in
      omega (arith, at, one, group_cost wt sets needs k f g, group_cost wt sets needs k f' g))

  as_it_stands : (b : Bool) → has column i ≡ b → duty_cost wt sets needs k (put (has column) i b) ≡ duty_cost wt sets needs k (has column)
  as_it_stands b q = ap (λ (t : ℕ → Bool). duty_cost wt sets needs k t) (put_same (has column) i b q)

  -- no difference is below zero
  pub fits : {on : Bool} {standing more fewer base : ℕ} → on ≡ has column i → standing ≡ get_or part (1088 + d) 0
      → Is more (sum_at sets i part d) 3400 → Is fewer (sum_at sets i part (32 + d)) 3400 → base ≡ zero_of sets i → SideFits on standing more fewer base
  fits o s m r z = record {
    when_on = λ q. omega (arith, s, r.is, z, h.standing.is, fewer_changed (sym o ∙ q));
    if_off = λ q. omega (arith, s, m.is, z, h.standing.is, more_changed (sym o ∙ q));
    small = (omega (arith, s, h.standing.most), m.most, r.most);
  }

  -- both sides, whether she is on duty or not
  pub told : {on : Bool} {standing more fewer base : ℕ} {r : Side} → on ≡ has column i → standing ≡ get_or part (1088 + d) 0
      → Is more (sum_at sets i part d) 3400 → Is fewer (sum_at sets i part (32 + d)) 3400 → base ≡ zero_of sets i → SideOf on standing more fewer base r
      → (r.on ≡ duty_cost wt sets needs k (put (has column) i true)) × (r.off ≡ duty_cost wt sets needs k (put (has column) i false))
  told {on} {standing} {more} {fewer} {base} {r} o s m u z t = go on refl
    where
      go : (b : Bool) → on ≡ b → (r.on ≡ duty_cost wt sets needs k (put (has column) i true)) × (r.off ≡ duty_cost wt sets needs k (put (has column) i false))
      go true q = (
        omega (arith, (t.when_on q).0, s, h.standing.is, as_it_stands true (sym o ∙ q)),
        omega (arith, (t.when_on q).1, s, u.is, z, h.standing.is, fewer_changed (sym o ∙ q)),
      )
      go false q = (
        omega (arith, (t.if_off q).0, s, m.is, z, h.standing.is, more_changed (sym o ∙ q)),
        omega (arith, (t.if_off q).1, s, h.standing.is, as_it_stands false (sym o ∙ q)),
      )

-- ---- one day's two sides

pub side_on : {on : Bool} (standing more fewer base : ℕ) → on ≡ true → SideOf on standing more fewer base (record { on = standing; off = standing + fewer - base })
side_on standing more fewer base q = record {
  when_on = λ r. (refl, refl);
  if_off = λ r. absurd (false≢true (sym r ∙ q));
}

pub side_off : {on : Bool} (standing more fewer base : ℕ) → on ≡ false → SideOf on standing more fewer base (record { on = standing + more - base; off = standing })
side_off standing more fewer base q = record {
  when_on = λ r. absurd (false≢true (sym q ∙ r));
  if_off = λ r. (refl, refl);
}

-- ---- places written in turn

-- the places of the numbers below d hold f: one more is written, and one elsewhere
pub record PlacesHold (place f : ℕ → ℕ) (d : ℕ) (l : List ℕ) : Type 0 where
  pub holds : (e : ℕ) → e < d → get_or l (place e) 0 ≡ f e

pub holds_none : (place f : ℕ → ℕ) (l : List ℕ) → PlacesHold place f 0 l
holds_none place f l = record { holds = λ e q. absurd (not-suc-le-zero q) }

pub holds_more : (place f : ℕ → ℕ) {d : ℕ} {l : List ℕ} {x : ℕ} → PlacesHold place f d l → ((e : ℕ) → place e ≡ place d → e ≡ d) → place d < length l → x ≡ f d
    → PlacesHold place f (d + 1) (set l (place d) x)
holds_more place f {d} {l} {x} h once m v = record { holds = λ e q. go e (eqb e d) refl q }
  where
    go : (e : ℕ) (t : Bool) → eqb e d ≡ t → e < d + 1 → get_or (set l (place d) x) (place e) 0 ≡ f e
    go e true t q = rw (eqb-true e d t, get_or-set_same l (place d) x 0 m) v
    go e false t q =
        let other = eqb-false e d t in
        get_or-set_other l (place d) (place e) x 0 (λ s. other (once e s)) ∙ h.holds e (omega (arith, other))

pub holds_still : (place f : ℕ → ℕ) {d : ℕ} {l : List ℕ} (p x : ℕ) → PlacesHold place f d l → ((e : ℕ) → e < d → place e ≡ p → ⊥) → PlacesHold place f d (set l p x)
holds_still place f {l = l} p x h apart = record { holds = λ e q. get_or-set_other l p (place e) x 0 (apart e q) ∙ h.holds e q }

-- ---- a row added up

-- up to place e, from l to r
pub record RowTo (part : List ℕ) (from : ℕ) (l r : List ℕ) (e : ℕ) : Type 0 where
  pub inside : e ≤ 64
  pub long : length r ≡ 64
  pub done : PlacesHold (λ j. j) (λ j. get_or l j 0 + get_or part (from + j) 0) e r
  pub left : (j : ℕ) → e ≤ j → get_or r j 0 ≡ get_or l j 0

module _ (part : List ℕ) (from : ℕ) (l : List ℕ) where
  pub row_start : length l ≡ 64 → RowTo part from l l 0
  row_start n = record { inside = omega arith; long = n; done = holds_none _ _ _; left = λ j q. refl }

  -- small enough to be added
  pub row_small : {r : List ℕ} {e : ℕ} → RowTo part from l r e → e < 64 → from + 64 ≤ 1088 → Slight part → Low l 100000 → get_or r e 0 + get_or part (from + e) 0 ≤ 100200
  row_small {r} {e} p h m s low = omega (arith, p.left e (omega arith), s.slight (from + e) (omega arith), low.low e)

  pub row_turn : {r : List ℕ} {e : ℕ} → RowTo part from l r e → e < 64 → RowTo part from l (set r e (get_or r e 0 + get_or part (from + e) 0)) (e + 1)
  row_turn {r} {e} p h =
      let x = get_or r e 0 + get_or part (from + e) 0 in
      record {
        inside = omega arith;
        long = length-set r e x ∙ p.long;
        done = holds_more _ _ p.done (λ j q. q) (omega (arith, p.long)) (omega (arith, p.left e (omega arith)));
        left = λ j q. get_or-set_other r e j x 0 (λ s. omega arith) ∙ p.left j (omega arith);
      }

  pub row_end : {r : List ℕ} {e : ℕ} → RowTo part from l r e → 64 ≤ e → from + 64 ≤ 1088 → Slight part → RowAdded part from l r
  row_end p h m s = record { long = p.long; small = λ j q. s.slight (from + j) (omega arith); added = λ j q. p.done.holds j (omega arith) }

-- ---- the rows of her conditions

pub blank_low : (n m : ℕ) → Low (replicate n 0) m
blank_low n m = record { low = λ e. omega (arith, zeros n e) }

-- a term more, and none
pub sum_in : (s p q : ℕ) (f : ℕ → ℕ) (g : ℕ) {t x : ℕ} → Is t (s + sum_to g f) (p + q * g) → x ≡ f g → x ≤ q → Is (t + x) (s + sum_to (g + 1) f) (p + q * (g + 1))
sum_in s p q f g h e m = loop_turn s p q f g h (record { is = e; most = m })

pub sum_out : (s p q : ℕ) (f : ℕ → ℕ) (g : ℕ) {t : ℕ} → Is t (s + sum_to g f) (p + q * g) → f g ≡ 0 → Is t (s + sum_to (g + 1) f) (p + q * (g + 1))
sum_out s p q f g h e = subst (λ (x : ℕ). Is x (s + sum_to (g + 1) f) (p + q * (g + 1))) (add-zero _) (sum_in s p q f g h (sym e) (omega arith))

-- those of the first g groups
pub record HersTo (sets : List ℕ) (i : ℕ) (part : List ℕ) (g : ℕ) (r : List ℕ) : Type 0 where
  pub inside : g ≤ length sets
  pub long : length r ≡ 64
  pub sums : (e : ℕ) → e < 64 → Is (get_or r e 0) (get_or part (1024 + e) 0 + sum_to g (λ j. cond (has (get_or sets j 0) i) (get_or part (64 * j + e) 0) 0)) (200 + 200 * g)

module _ (sets : List ℕ) (i : ℕ) (part : List ℕ) where
  pub hers_start : {r : List ℕ} → RowAdded part 1024 (replicate 64 0) r → HersTo sets i part 0 r
  hers_start {r} a = record {
    inside = omega arith;
    long = a.long;
    sums = λ e q. loop_start (get_or part (1024 + e) 0) 200 (λ j. cond (has (get_or sets j 0) i) (get_or part (64 * j + e) 0) 0)
        (record { is = omega (arith, a.added e q, zeros 64 e); most = omega (arith, a.added e q, zeros 64 e, a.small e q) });
  }

  pub hers_low : {g : ℕ} {r : List ℕ} → HersTo sets i part g r → length sets ≤ 16 → Low r 100000
  hers_low {g} {r} h n = record { low = λ e. go e (ltb e 64) refl }
    where
      go : (e : ℕ) (t : Bool) → ltb e 64 ≡ t → get_or r e 0 ≤ 100000
      go e true t = omega (arith, h.inside, (h.sums e (ltb-true e 64 t)).most)
      go e false t = omega (arith, get_or-eq_default r 0 {n = e} (omega (arith, h.long, ltb-false)))

  pub hers_in : {g : ℕ} {l r s : List ℕ} → HersTo sets i part g l → g < length sets → length sets ≤ 16 → has (get_or sets g 0) i ≡ true
      → RowAdded part (64 * g) l r → s ≡ r → HersTo sets i part (g + 1) s
  hers_in {g} {l} {r} h m n b a same = rw same record {
    inside = omega arith;
    long = a.long;
    sums = λ e q. rw (a.added e q) (sum_in (get_or part (1024 + e) 0) 200 200 (λ j. cond (has (get_or sets j 0) i) (get_or part (64 * j + e) 0) 0) g (h.sums e q)
        (sym (ap (λ (t : Bool). cond t (get_or part (64 * g + e) 0) 0) b)) (a.small e q));
  }

  pub hers_out : {g : ℕ} {l s : List ℕ} → HersTo sets i part g l → g < length sets → has (get_or sets g 0) i ≡ false → s ≡ l → HersTo sets i part (g + 1) s
  hers_out {g} {l} h m b same = rw same record {
    inside = omega arith;
    long = h.long;
    sums = λ e q. sum_out (get_or part (1024 + e) 0) 200 200 (λ j. cond (has (get_or sets j 0) i) (get_or part (64 * j + e) 0) 0) g (h.sums e q)
        (ap (λ (t : Bool). cond t (get_or part (64 * g + e) 0) 0) b);
  }

  pub hers_end : {g : ℕ} {r : List ℕ} → HersTo sets i part g r → length sets ≤ g → length sets ≤ 16 → Hers sets i part r
  hers_end h m n = record {
    sums = λ e q. loop_end (get_or part (1024 + e) 0) 200 200 (λ j. cond (has (get_or sets j 0) i) (get_or part (64 * j + e) 0) 0) (length sets) 3400 (h.sums e q) h.inside m (omega arith);
  }

-- ---- how many conditions are hers

count_is : (t : ℕ → Bool) (xs : List ℕ) → count_by t xs ≡ count_to (length xs) (λ g. t (get_or xs g 0))
count_is t xs = sym (is_count_by (λ l. count_to (length l) (λ g. t (get_or l g 0))) t (sum_zero _) (λ x l. sum_front (length l) _ ∙ first (t x) _) xs)
  where
    first : (b : Bool) (n : ℕ) → one_if b + n ≡ cond b (1 + n) n
    first true n = refl
    first false n = omega arith

pub conditions_are : (sets : List ℕ) (i : ℕ) {n : ℕ} → n ≡ count_by (λ s. has s i) sets → length sets ≤ 16 → Is (1 + n) (1 + count_to (length sets) (λ g. has (get_or sets g 0) i)) 17
conditions_are sets i e h = record { is = omega (arith, count_is (λ s. has s i) sets); most = omega (arith, count_is (λ s. has s i) sets, count_le (length sets) (λ g. has (get_or sets g 0) i)) }

-- ---- the days

-- the groups of a ward, and a nurse of it
pub sets_few : {w sets : List ℕ} {i : ℕ} → Accepted w → i < nurses w → sets ≡ member_sets w → (length sets ≤ 16) × (i < 64)
sets_few {w} a h e = (rw (e, length_member_sets w a) a.groups_most, omega (arith, a.nurses_most))

-- a small number written
pub low_set : (l : List ℕ) (j x m : ℕ) → j < length l → Low l m → x ≤ m → Low (set l j x) m
low_set l j x m h p q = record { low = λ e. go e (eqb e j) refl }
  where
    go : (e : ℕ) (t : Bool) → eqb e j ≡ t → get_or (set l j x) e 0 ≤ m
    go e true t = rw (eqb-true e j t, get_or-set_same l j x 0 h) q
    go e false t = rw (get_or-set_other l j e x 0 (eqb-false e j t)) (p.low e)

-- those below d
pub record SidesTo (w cols : List ℕ) (i : ℕ) (part : List ℕ) (n d : ℕ) (r : List ℕ) : Type 0 where
  pub inside : d ≤ n
  pub long : length r ≡ 64
  pub low : Low r 185600
  pub done : (wt : Weights) (k : ℕ) → MarginsOf w wt k cols part → PlacesHold (λ e. e) (λ e. side_at w wt k cols i e true) d r × PlacesHold (λ e. 32 + e) (λ e. side_at w wt k cols i e false) d r

module _ (w cols : List ℕ) (i : ℕ) (part : List ℕ) where
  pub sides_start : (n : ℕ) → SidesTo w cols i part n 0 (replicate 64 0)
  sides_start n = record { inside = omega arith; long = refl; low = blank_low 64 _; done = λ wt k h. (holds_none _ _ _, holds_none _ _ _) }

  pub sides_end : {n d : ℕ} {r : List ℕ} → SidesTo w cols i part n d r → n ≤ d → n ≡ days w → (wt : Weights) (k : ℕ) → MarginsOf w wt k cols part → SidesOf w wt k cols i r
  sides_end p h e wt k m = record {
    on_is = λ d q. (p.done wt k m).0.holds d (omega arith);
    off_is = λ d q. (p.done wt k m).1.holds d (omega arith);
  }

  module _ (a : Accepted w) (l : i < nurses w) (some : SomeMargins w cols part) where
    small_i : i < 64
    small_i = omega (arith, a.nurses_most)

    side_most : (d : ℕ) → d < days w → (b : Bool) → side_at w some.weights some.duty cols i d b ≤ 185600
    side_most d h b = duty_most _ _ _ _ _ some.light (needs_are w a d h)

    -- one day, from what the calls gave
    module _ (sets sums : List ℕ) (count d : ℕ) (on : Bool) (e : sets ≡ member_sets w) (s : Hers sets i part sums) (n : Is count (1 + count_to (length sets) (λ g. has (get_or sets g 0) i)) 17)
        (h : d < days w) (o : on ≡ has (get_or cols d 0) i) where
      sums_are : Hers (member_sets w) i part sums
      sums_are = subst (λ (x : List ℕ). Hers x i part sums) e s

      base_is : 100 * count ≡ zero_of (member_sets w) i
      base_is = ap (λ (x : ℕ). 100 * x) n.is ∙ ap (λ (x : List ℕ). zero_of x i) e

      pub day_fits : SideFits on (get_or part (1088 + d) 0) (get_or sums d 0) (get_or sums (32 + d) 0) (100 * count)
      day_fits = fits _ _ _ _ _ _ d i small_i (some.margins.each d h) o refl (sums_are.sums d (omega (arith, a.days_most))) (sums_are.sums (32 + d) (omega (arith, a.days_most))) base_is

      day_told : {x : Side} → SideOf on (get_or part (1088 + d) 0) (get_or sums d 0) (get_or sums (32 + d) 0) (100 * count) x
          → (wt : Weights) (k : ℕ) → MarginsOf w wt k cols part → (x.on ≡ side_at w wt k cols i d true) × (x.off ≡ side_at w wt k cols i d false)
      day_told t wt k m = told _ _ _ _ _ _ d i small_i (m.each d h) o refl (sums_are.sums d (omega (arith, a.days_most))) (sums_are.sums (32 + d) (omega (arith, a.days_most))) base_is t

      pub sides_turn : {m : ℕ} {r : List ℕ} {x : Side} → SidesTo w cols i part m d r → d < m → SideOf on (get_or part (1088 + d) 0) (get_or sums d 0) (get_or sums (32 + d) 0) (100 * count) x
          → SidesTo w cols i part m (d + 1) (set (set r d x.on) (32 + d) x.off)
      sides_turn {m} {r} {x} p q t =
          let here = day_told t in
          let mine = here some.weights some.duty some.margins in
          let first : length (set r d x.on) ≡ 64 = length-set r d x.on ∙ p.long in
          record {
            inside = omega arith;
            long = length-set (set r d x.on) (32 + d) x.off ∙ first;
            low = low_set (set r d x.on) (32 + d) x.off _ (omega (arith, a.days_most))
                (low_set r d x.on _ (omega (arith, a.days_most, p.long)) p.low (omega (arith, mine.0, side_most d h true))) (omega (arith, mine.1, side_most d h false));
            done = λ wt k g. (
              holds_still _ _ (32 + d) x.off (holds_more _ _ (p.done wt k g).0 (λ c u. u) (omega (arith, a.days_most, p.long)) (here wt k g).0) (λ c u v. omega (arith, a.days_most)),
              holds_more (λ c. 32 + c) _ (holds_still _ _ d x.on (p.done wt k g).1 (λ c u v. omega (arith, a.days_most))) (λ c u. omega arith) (omega (arith, a.days_most)) (here wt k g).1,
            );
          }
