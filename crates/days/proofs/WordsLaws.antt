-- The test `day_rule` says yes exactly when the day rule holds as specs/DayRule says it.
use Rattle.std.specs.Prelude.{◌≡◌, refl, ◌↔◌, ◌≢◌, Bool, true, false, cond, not, ◌&&◌, ◌||◌, List, [], ◌∷◌, map, ℕ, zero, suc, ◌+◌, ◌-◌, ◌^◌, ◌≤◌, ◌<◌, leb, ltb, eqb, length}
use Rattle.std.proofs.Common.{sym, ap, ap₂, ◌∙◌, subst, ⊎_elim, true≢false, eq-or-lt_of_le, arith, ltb-true, lt-ltb, leb-true, le-leb, eqb-true, eq-eqb}
use Rattle.std.proofs.lemmas.Bool.{false≢true, not-true, and_parts}
use Rattle.std.proofs.Math.Bool.{or-true}
use mathlib.Core.List.Memᴰ
use mathlib.Core.List.{Memᴰ}
use Rattle.numbers.specs.Range.{up_from, all, any_of}
use Rattle.numbers.proofs.RangeLaws.{range_all, range_each}
use Rattle.fields.specs.Fields.{least_rests_of, most_rests_of, mark_on}
use Rattle.rows.specs.Rows.{started, available_on}
use Rattle.days.specs.Days.{may_work, choice, row_duty, window, in_run, is_rest, forbidden, same, free_of, windows_hold, rests, day_rule}
use Rattle.days.specs.DayRule.{Among, RowRule, DayHers}

-- ---- two lists

same_equal : (xs ys : List ℕ) → same xs ys ≡ true → xs ≡ ys
unfolding same
same_equal [] [] e = refl
same_equal [] (y ∷ ys) e = absurd (false≢true e)
same_equal (x ∷ xs) [] e = absurd (false≢true e)
same_equal (x ∷ xs) (y ∷ ys) e =
    let a = and_parts (eqb x y) (same xs ys) e in
    ap₂ (λ (z : ℕ) (zs : List ℕ). z ∷ zs) (eqb-true x y a.0) (same_equal xs ys a.1)

same_self : (xs : List ℕ) → same xs xs ≡ true
unfolding same
same_self [] = refl
same_self (x ∷ xs) = rw (eq-eqb x x refl, same_self xs)

pub same_when : (xs ys : List ℕ) → (same xs ys ≡ true) ↔ (xs ≡ ys)
same_when xs ys = (same_equal xs ys, λ e. subst (λ (zs : List ℕ). same xs zs ≡ true) e (same_self xs))

-- ---- forbidden sequences

not_same : (s w : List ℕ) → not (same s w) ≡ true → w ≢ s
not_same s w e q = true≢false (sym ((same_when s w).1 (sym q)) ∙ not-true (same s w) e)

same_not : (s w : List ℕ) → w ≢ s → not (same s w) ≡ true
same_not s w h = go (same s w) refl
  where
    go : (b : Bool) → same s w ≡ b → not b ≡ true
    go true e = absurd (h (sym ((same_when s w).0 e)))
    go false e = refl

free_each : (ss : List (List ℕ)) (row : ℕ → ℕ) (t : ℕ) → free_of ss row t ≡ true → (s : List ℕ) → Memᴰ s ss → window row (length s) t ≢ s
unfolding free_of
free_each [] row t e s m = absurd (Memᴰ.not-nil m)
free_each (z ∷ ss) row t e s m =
    let a = and_parts (not (same z (window row (length z) t))) (free_of ss row t) e in
    ⊎_elim
    (λ q. subst (λ (x : List ℕ). window row (length x) t ≢ x) (sym q) (not_same z (window row (length z) t) a.0))
    (free_each ss row t a.1 s)
    (Memᴰ.cases_cons m)

each_free : (ss : List (List ℕ)) (row : ℕ → ℕ) (t : ℕ) → ((s : List ℕ) → Memᴰ s ss → window row (length s) t ≢ s) → free_of ss row t ≡ true
unfolding free_of
each_free [] row t h = refl
each_free (z ∷ ss) row t h =
    rw (same_not z (window row (length z) t) (h z (Memᴰ.head refl))) (each_free ss row t (λ s m. h s (Memᴰ.tail m)))

pub free_when : (ss : List (List ℕ)) (row : ℕ → ℕ) (t : ℕ) → (free_of ss row t ≡ true) ↔ ((s : List ℕ) → Memᴰ s ss → window row (length s) t ≢ s)
free_when ss row t = (free_each ss row t, each_free ss row t)

-- ---- one of the duties of a window passes a test

module _ (test : ℕ → Bool) (row : ℕ → ℕ) where
  -- a place from a on, below a + n, whose duty passes
  record Found (a n : ℕ) : Type 0 where
    place : ℕ
    from : a ≤ place
    below : place < a + n
    passes : test (row place) ≡ true

  found_step : (a n : ℕ) (b : Bool) → test (row a) ≡ b → (b || any_of test (map row (up_from (suc a) n))) ≡ true
      → (any_of test (map row (up_from (suc a) n)) ≡ true → Found (suc a) n) → Found a (suc n)
  found_step a n true q e more = record { place = a; from = omega arith; below = omega arith; passes = q }
  found_step a n false q e more =
      let f = more e in
      record { place = f.place; from = omega (arith, f.from); below = omega (arith, f.below); passes = f.passes }

  any_found : (a n : ℕ) → any_of test (map row (up_from a n)) ≡ true → Found a n
  unfolding any_of up_from
  any_found a zero e = absurd (false≢true e)
  any_found a (suc n) e = found_step a n (test (row a)) refl e (any_found (suc a) n)

  any_there : (a n u : ℕ) → a ≤ u → u < a + n → test (row u) ≡ true → any_of test (map row (up_from a n)) ≡ true
  unfolding any_of up_from
  any_there a zero u l h e = absurd (omega arith)
  any_there a (suc n) u l h e =
      ⊎_elim
      (λ q. let first : test (row a) ≡ true = ap (λ (x : ℕ). test (row x)) q ∙ e in
      rw first)
      (λ q. rw (any_there (suc a) n u q (omega arith) e) (or-true (test (row a))))
      (eq-or-lt_of_le l)

  window_found : (k t : ℕ) → k ≤ t → any_of test (window row (suc k) t) ≡ true → Among row k t (λ duty. test duty ≡ true)
  window_found k t h e =
      let f = any_found (suc t - suc k) (suc k) e in
      record { place = f.place; from = omega (arith, f.from); to = omega (arith, f.below); there = f.passes }

  window_there : (k t : ℕ) → k ≤ t → Among row k t (λ duty. test duty ≡ true) → any_of test (window row (suc k) t) ≡ true
  window_there k t h a = any_there (suc t - suc k) (suc k) a.place (omega (arith, a.from)) (omega (arith, a.to)) a.there

-- not all pass where one fails
not_all : (test : ℕ → Bool) (xs : List ℕ) → not (all test xs) ≡ any_of (λ x. not (test x)) xs
unfolding all any_of
not_all test [] = refl
not_all test (x ∷ xs) = step (test x) (not_all test xs)
  where
    step : (b : Bool) → not (all test xs) ≡ any_of (λ y. not (test y)) xs → not (b && all test xs) ≡ (not b || any_of (λ y. not (test y)) xs)
    step true e = e
    step false e = refl

-- ---- the windows that end at one place

module _ (row : ℕ → ℕ) (longest t : ℕ) where
  run_holds : longest ≤ t → not (all in_run (window row (suc longest) t)) ≡ true → Among row longest t (λ duty. in_run duty ≡ false)
  run_holds h e =
      let f = window_found (λ x. not (in_run x)) row longest t h (sym (not_all in_run (window row (suc longest) t)) ∙ e) in
      record { place = f.place; from = f.from; to = f.to; there = not-true (in_run (row f.place)) f.there }

  holds_run : longest ≤ t → Among row longest t (λ duty. in_run duty ≡ false) → not (all in_run (window row (suc longest) t)) ≡ true
  holds_run h a =
      not_all in_run (window row (suc longest) t)
      ∙ window_there (λ x. not (in_run x)) row longest t h (record { place = a.place; from = a.from; to = a.to; there = ap not a.there })

  -- what `windows_hold` asks, apart
  record Hold : Type 0 where
    run : Among row longest t (λ duty. in_run duty ≡ false)
    rest : Among row 6 t (λ duty. is_rest duty ≡ true)
    no_sequence : (s : List ℕ) → Memᴰ s forbidden → window row (length s) t ≢ s

  windows_say : longest ≤ 6 → 6 ≤ t → windows_hold row longest t ≡ true → Hold
  unfolding windows_hold
  windows_say short late e =
      let a = and_parts (not (all in_run (window row (suc longest) t))) (any_of is_rest (window row 7 t) && free_of forbidden row t) e in
      let b = and_parts (any_of is_rest (window row 7 t)) (free_of forbidden row t) a.1 in
      record {
        run = run_holds (omega arith) a.0;
        rest = window_found is_rest row 6 t late b.0;
        no_sequence = (free_when forbidden row t).0 b.1;
      }

  say_windows : longest ≤ 6 → 6 ≤ t → Hold → windows_hold row longest t ≡ true
  unfolding windows_hold
  say_windows short late h =
      rw (holds_run (omega arith) h.run, window_there is_rest row 6 t late h.rest) ((free_when forbidden row t).1 h.no_sequence)

-- ---- the windows of the month

module _ (row : ℕ → ℕ) (longest n : ℕ) (short : longest ≤ 6) where
  row_rule : all (windows_hold row longest) (up_from 7 n) ≡ true → RowRule longest n row
  row_rule e =
      let at : (t : ℕ) → 7 ≤ t → t < 7 + n → Hold row longest t
      = λ t l h. windows_say row longest t short (omega arith) (range_each (windows_hold row longest) 7 n e t l h) in
      record {
        run = λ t l h. (at t l h).run;
        rest = λ t l h. (at t l h).rest;
        no_sequence = λ t l h. (at t l h).no_sequence;
      }

  rule_row : RowRule longest n row → all (windows_hold row longest) (up_from 7 n) ≡ true
  rule_row r =
      range_all (windows_hold row longest) 7 n
      (λ t l h. say_windows row longest t short (omega arith) (record { run = r.run t l h; rest = r.rest t l h; no_sequence = r.no_sequence t l h }))

-- ---- the choice

-- c: the day is chosen; a: she may work it; f: it is marked 2
chosen_open : (c a f : Bool) → cond c a (not f) ≡ true → c ≡ true → a ≡ true
chosen_open true a f e h = e
chosen_open false a f e h = absurd (false≢true h)

fixed_chosen : (c a f : Bool) → cond c a (not f) ≡ true → f ≡ true → c ≡ true
fixed_chosen true a f e h = refl
fixed_chosen false a f e h = absurd (true≢false (sym h ∙ not-true f e))

chosen_both : (c a f : Bool) → (c ≡ true → a ≡ true) → (f ≡ true → c ≡ true) → cond c a (not f) ≡ true
chosen_both true a f h k = h refl
chosen_both false a true h k = k refl
chosen_both false a false h k = refl

module _ (b : List ℕ) (n p : ℕ) (off : ℕ → Bool) (q : ℕ) where
  -- what `choice` asks, apart
  record Chosen : Type 0 where
    month : q < 2 ^ n
    available : (d : ℕ) → 1 ≤ d → d ≤ n → started q d ≡ true → available_on b p d ≡ true
    not_off : (d : ℕ) → 1 ≤ d → d ≤ n → started q d ≡ true → off d ≡ false
    marks : (d : ℕ) → 1 ≤ d → d ≤ n → mark_on b d ≡ 2 → started q d ≡ true

  abbrev may_day : ℕ → Bool
  may_day d = cond (started q d) (may_work b p off d) (not (eqb (mark_on b d) 2))

  choice_says : choice b n p off q ≡ true → Chosen
  unfolding choice
  choice_says e =
      let a = and_parts (ltb q (2 ^ n)) (all may_day (up_from 1 n)) e in
      let at : (d : ℕ) → 1 ≤ d → d ≤ n → may_day d ≡ true = λ d l h. range_each may_day 1 n a.1 d l (omega arith) in
      let may : (d : ℕ) → 1 ≤ d → d ≤ n → started q d ≡ true → (available_on b p d ≡ true) × (not (off d) ≡ true)
      = λ d l h s. and_parts (available_on b p d) (not (off d)) (chosen_open (started q d) (may_work b p off d) (eqb (mark_on b d) 2) (at d l h) s) in
      record {
        month = ltb-true q (2 ^ n) a.0;
        available = λ d l h s. (may d l h s).0;
        not_off = λ d l h s. not-true (off d) (may d l h s).1;
        marks = λ d l h m. fixed_chosen (started q d) (may_work b p off d) (eqb (mark_on b d) 2) (at d l h) (eq-eqb (mark_on b d) 2 m);
      }

  says_choice : Chosen → choice b n p off q ≡ true
  unfolding choice
  says_choice c =
      rw (lt-ltb q (2 ^ n) c.month)
      (range_all may_day 1 n
      (λ d l h.
      let k : d ≤ n = omega arith in
      chosen_both (started q d) (may_work b p off d) (eqb (mark_on b d) 2)
      (λ s. ap₂ ◌&&◌ (c.available d l k s) (ap not (c.not_off d l k s)))
      (λ m. c.marks d l k (eqb-true (mark_on b d) 2 m))))

-- ---- the rule

module _ (b : List ℕ) (n longest p : ℕ) (off : ℕ → Bool) (q : ℕ) (short : longest ≤ 6) where
  rule_says : day_rule b n longest p off q ≡ true → DayHers b n longest p off q
  unfolding day_rule
  rule_says e =
      let row = row_duty b p q in
      let least = leb (least_rests_of b) (rests row n) in
      let most = leb (rests row n) (most_rests_of b) in
      let a = and_parts (choice b n p off q) (all (windows_hold row longest) (up_from 7 n) && (least && most)) e in
      let w = and_parts (all (windows_hold row longest) (up_from 7 n)) (least && most) a.1 in
      let r = and_parts least most w.1 in
      let c = choice_says b n p off q a.0 in
      record {
        month = c.month;
        available = c.available;
        not_off = c.not_off;
        marks = c.marks;
        row_keeps = row_rule row longest n short w.0;
        least_rests = leb-true (least_rests_of b) (rests row n) r.0;
        most_rests = leb-true (rests row n) (most_rests_of b) r.1;
      }

  says_rule : DayHers b n longest p off q → day_rule b n longest p off q ≡ true
  unfolding day_rule
  says_rule h =
      let row = row_duty b p q in
      let chosen = says_choice b n p off q (record { month = h.month; available = h.available; not_off = h.not_off; marks = h.marks }) in
      rw (chosen, rule_row row longest n short h.row_keeps, le-leb (least_rests_of b) (rests row n) h.least_rests) (le-leb (rests row n) (most_rests_of b) h.most_rests)

pub rule_when : (b : List ℕ) (n longest p : ℕ) (off : ℕ → Bool) (q : ℕ) → longest ≤ 6 → (day_rule b n longest p off q ≡ true) ↔ DayHers b n longest p off q
rule_when b n longest p off q short = (rule_says b n longest p off q short, says_rule b n longest p off q short)
