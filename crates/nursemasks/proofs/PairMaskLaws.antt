-- A nurse's pairs by masks: the N and n days under a pattern, the days of her pairs, and when one of them fits.
use Rattle.std.specs.Prelude.{◌≡◌, refl, Bool, true, false, not, ◌&&◌, ◌||◌, List, ℕ, zero, suc, ◌-◌, ◌/◌, ◌%◌, ◌^◌, ◌≤◌, ◌<◌, bit_and, bit_or, eqb}
use Rattle.std.proofs.Common.{sym, ap, ap₂, ◌∙◌, lt_of_le_of_lt, arith, eqb-true, eq-eqb, ne_eqb}
use Rattle.std.proofs.lemmas.Bool.{false≢true, and_parts}
use Rattle.std.proofs.lemmas.Nat.{and_le_l}
use Rattle.std.proofs.Math.Bool.{and-true, and-false}
use Rattle.std.proofs.Math.Dec.{eqb-suc-suc}
use Rattle.numbers.specs.Range.{any_of}
use Rattle.numbers.specs.Digits.{has}
use Rattle.numbers.proofs.DigitLaws.{low_digit}
use Rattle.numbers.proofs.SetLaws.{has_and, has_or, has_back, has_above, none_zero}
use Rattle.fields.specs.Fields.{Accepted, block, mark_on, pair_count, pair_day}
use Rattle.rows.specs.Rows.{row_state}
use Rattle.rows.specs.Pairs.{pair_numbers, in_pair, rest_mark, at_rest_on, pair_fits}
use Rattle.rows.proofs.PairLaws.{in_pair_lem, fits_none, fits_pair}
use Rattle.nights.proofs.OwnLaws.{pair_numbers_none}
use Rattle.nursemasks.specs.declared.masks.Row.{Row}
use Rattle.nursemasks.specs.CodeMasks.{RowOf}
use Rattle.nursemasks.specs.CodePairs.{marks_rest, PairDays, BusyDays}
use Rattle.nursemasks.proofs.MaskLaws.{row_small}

-- ---- the N and n days

pub busy_row : (b : List ℕ) (p : ℕ) (x : Row) → RowOf b p x → BusyDays b p (bit_or x.night x.second / 2 % 2 ^ 32)
unfolding BusyDays
busy_row b p x ok d l =
    ap (λ (v : ℕ). eqb v 1) (low_digit (bit_or x.night x.second / 2) 32 d (omega arith))
    ∙ has_back (bit_or x.night x.second) d
    ∙ has_or x.night x.second (suc d)
    ∙ ap₂ ◌||◌ (ok.night (suc d) (omega arith)) (ok.second (suc d) (omega arith))

-- ---- the days of a pair

nothing_has : (d : ℕ) → has 0 d ≡ false
nothing_has d = has_above 0 0 d (omega arith) (omega arith)

days_none : (w : List ℕ) (i k : ℕ) → marks_rest w i k ≡ false → PairDays w i k 0
unfolding PairDays
days_none w i k e d = nothing_has d ∙ sym (ap (λ (v : Bool). in_pair w k (suc d) && v) e ∙ and-false (in_pair w k (suc d)))

-- as the code asks, `second` being the index of the later day
module _ (w : List ℕ) (i k : ℕ) {b : List ℕ} {second : ℕ} (eb : b ≡ block w i) (es : second ≡ pair_day w k) (some : 1 ≤ second) where
  first_mark : {mark : ℕ} {r : Bool} → mark ≡ mark_on b (suc (second - 1)) → r ≡ rest_mark mark → r ≡ rest_mark (mark_on (block w i) (pair_day w k))
  first_mark m e =
      let q : suc (second - 1) ≡ second = omega (arith, some) in
      e ∙ ap rest_mark (m ∙ ap₂ mark_on eb (q ∙ es))

  second_mark : {mark : ℕ} {r : Bool} → mark ≡ mark_on b (suc second) → r ≡ rest_mark mark → r ≡ rest_mark (mark_on (block w i) (suc (pair_day w k)))
  second_mark m e = e ∙ ap rest_mark (m ∙ ap₂ (λ (x : List ℕ) (d : ℕ). mark_on x (suc d)) eb es)

  -- the first day's mark decides, or leaves it to the second's
  module _ {mark : ℕ} {r : Bool} (m : mark ≡ mark_on b (suc (second - 1))) (e : r ≡ rest_mark mark) where
    pub days_first : r ≡ false → PairDays w i k 0
    days_first q = days_none w i k (ap (λ (v : Bool). v && rest_mark (mark_on (block w i) (suc (pair_day w k)))) (sym (first_mark m e) ∙ q))

    module _ {mark2 : ℕ} {r2 : Bool} (yes1 : r ≡ true) (m2 : mark2 ≡ mark_on b (suc second)) (e2 : r2 ≡ rest_mark mark2) where
      marks_are : marks_rest w i k ≡ r2
      marks_are = ap₂ ◌&&◌ (sym (first_mark m e) ∙ yes1) (sym (second_mark m2 e2))

      pub days_second : r2 ≡ false → PairDays w i k 0
      days_second q = days_none w i k (marks_are ∙ q)

      pub days_both : (x : ℕ) → r2 ≡ true → ((d : ℕ) → has x d ≡ in_pair w k (suc d)) → PairDays w i k x
      unfolding PairDays
      days_both x q each d = each d ∙ sym (ap (λ (v : Bool). in_pair w k (suc d) && v) (marks_are ∙ q) ∙ and-true (in_pair w k (suc d)))

-- ---- whether a pair fits

-- the set of the days e and e + 1 has no day in common with another set where that has neither
module _ (x y e : ℕ) (small : x < 2 ^ 32) (each : (d : ℕ) → has x d ≡ (eqb d e || eqb d (suc e))) where
  common_day : (d : ℕ) → has (bit_and x y) d ≡ ((eqb d e || eqb d (suc e)) && has y d)
  common_day d = has_and x y d ∙ ap (λ (v : Bool). v && has y d) (each d)

  no_common : has y e ≡ false → has y (suc e) ≡ false → (d : ℕ) → ((eqb d e || eqb d (suc e)) && has y d) ≡ false
  no_common f g d = go (eqb d e) (eqb d (suc e)) refl refl
    where
      go : (u v : Bool) → eqb d e ≡ u → eqb d (suc e) ≡ v → ((u || v) && has y d) ≡ false
      go true v q r = ap (λ (n : ℕ). has y n) (eqb-true d e q) ∙ f
      go false true q r = ap (λ (n : ℕ). has y n) (eqb-true d (suc e) r) ∙ g
      go false false q r = refl

  shared : (d : ℕ) → (eqb d e || eqb d (suc e)) ≡ true → has y d ≡ true → bit_and x y ≡ 0 → ⊥
  shared d t h z = false≢true (sym (nothing_has d) ∙ ap (λ (v : ℕ). has v d) (sym z) ∙ common_day d ∙ ap₂ ◌&&◌ t h)

  two_apart : eqb (bit_and x y) 0 ≡ (not (has y e) && not (has y (suc e)))
  two_apart = go (has y e) (has y (suc e)) refl refl
    where
      or_second : (u v : Bool) → v ≡ true → (u || v) ≡ true
      or_second true v q = refl
      or_second false v q = q

      go : (u v : Bool) → has y e ≡ u → has y (suc e) ≡ v → eqb (bit_and x y) 0 ≡ (not u && not v)
      go true v q r = ne_eqb (bit_and x y) 0 (shared e (ap (λ (t : Bool). t || eqb e (suc e)) (eq-eqb e e refl)) q)
      go false true q r = ne_eqb (bit_and x y) 0 (shared (suc e) (or_second (eqb (suc e) e) (eqb (suc e) (suc e)) (eq-eqb (suc e) (suc e) refl)) r)
      go false false q r = eq-eqb (bit_and x y) 0 (none_zero 32 (bit_and x y) (lt_of_le_of_lt (and_le_l x y) small) (λ d l. common_day d ∙ no_common q r d))

-- O or R is neither N nor n
idle_is : (s : ℕ) → s < 4 → (eqb s 0 || eqb s 3) ≡ not (eqb s 1 || eqb s 2)
idle_is zero h = refl
idle_is (suc zero) h = refl
idle_is (suc (suc zero)) h = refl
idle_is (suc (suc (suc zero))) h = refl
idle_is (suc (suc (suc (suc s)))) h = absurd (omega arith)

rest_by_set : (b : List ℕ) (p busy d : ℕ) → BusyDays b p busy → d < 31 → at_rest_on b p (suc d) ≡ (not (has busy d) && rest_mark (mark_on b (suc d)))
unfolding BusyDays at_rest_on
rest_by_set b p busy d ok l =
    ap (λ (v : Bool). v && rest_mark (mark_on b (suc d))) (idle_is (row_state b p (suc d)) (row_small b p (suc d)) ∙ ap not (sym (ok d l)))

-- two tests of each of two
by_twos : (a m b n : Bool) → ((a && m) && (b && n)) ≡ ((a && b) && (m && n))
by_twos true true b n = refl
by_twos true false b n = sym (and-false b)
by_twos false m b n = refl

-- pair k with its set of days for nurse i, its first day's index, and the N and n days of a row
record Beside (w : List ℕ) (i p k days busy first : ℕ) : Type 0 where
  some : 1 ≤ k
  most : k ≤ pair_count w
  day_is : pair_day w k ≡ suc first
  day_most : suc first < 31
  small : days < 2 ^ 32
  busy_days : BusyDays (block w i) p busy
  pair_days : PairDays w i k days

beside : (w : List ℕ) (i p k days busy : ℕ) → Accepted w → 1 ≤ k → k ≤ pair_count w → days < 2 ^ 32 → BusyDays (block w i) p busy → PairDays w i k days
    → Beside w i p k days busy (pair_day w k - 1)
beside w i p k days busy ok l h small b each = record {
  some = l;
  most = h;
  day_is = omega (arith, ok.pair_day_some k l h);
  day_most = omega (arith, ok.pair_day_some k l h, ok.pair_day_most k l h, ok.days_most);
  small = small;
  busy_days = b;
  pair_days = each;
}

module _ (w : List ℕ) (i p k days busy first : ℕ) (x : Beside w i p k days busy first) where
  abbrev inside : ℕ → Bool
  inside d = eqb d first || eqb d (suc first)

  abbrev clear : Bool
  clear = not (has busy first) && not (has busy (suc first))

  fits_is : pair_fits w i p k ≡ (clear && marks_rest w i k)
  fits_is =
      let b = block w i in
      fits_pair w i p k x.some x.most
      ∙ ap (λ (d : ℕ). at_rest_on b p d && at_rest_on b p (suc d)) x.day_is
      ∙ ap₂ ◌&&◌ (rest_by_set b p busy first x.busy_days (omega (arith, x.day_most))) (rest_by_set b p busy (suc first) x.busy_days x.day_most)
      ∙ by_twos (not (has busy first)) (rest_mark (mark_on b (suc first))) (not (has busy (suc first))) (rest_mark (mark_on b (suc (suc first))))
      ∙ ap (λ (d : ℕ). clear && (rest_mark (mark_on b d) && rest_mark (mark_on b (suc d)))) (sym x.day_is)

  days_are : (d : ℕ) → has days d ≡ (inside d && marks_rest w i k)
  unfolding PairDays
  days_are d =
      x.pair_days d
      ∙ ap (λ (v : Bool). v && marks_rest w i k)
      (in_pair_lem w k (suc d) x.some x.most ∙ ap (λ (n : ℕ). eqb (suc d) n || eqb (suc d) (suc n)) x.day_is ∙ ap₂ ◌||◌ (eqb-suc-suc d first) (eqb-suc-suc d (suc first)))

  -- her marks rule it out: it has no day, and does not fit
  out_days : marks_rest w i k ≡ false → days ≡ 0
  out_days q = none_zero 32 days x.small (λ d l. days_are d ∙ ap (λ (v : Bool). inside d && v) q ∙ and-false (inside d))

  out_fits : marks_rest w i k ≡ false → pair_fits w i p k ≡ false
  out_fits q = fits_is ∙ ap (λ (v : Bool). clear && v) q ∙ and-false clear

  -- they do not: it has its two days, and fits where they are clear
  two_days : marks_rest w i k ≡ true → (d : ℕ) → has days d ≡ inside d
  two_days q d = days_are d ∙ ap (λ (v : Bool). inside d && v) q ∙ and-true (inside d)

  some_day : marks_rest w i k ≡ true → days ≡ 0 → ⊥
  some_day q z =
      false≢true (sym (nothing_has first) ∙ ap (λ (v : ℕ). has v first) (sym z) ∙ two_days q first ∙ ap (λ (v : Bool). v || eqb first (suc first)) (eq-eqb first first refl))

  two_fit : marks_rest w i k ≡ true → eqb (bit_and days busy) 0 ≡ pair_fits w i p k
  two_fit q = two_apart days busy first x.small (two_days q) ∙ sym (fits_is ∙ ap (λ (v : Bool). clear && v) q ∙ and-true clear)

  where_some : (days ≡ 0 → ⊥) → eqb (bit_and days busy) 0 ≡ pair_fits w i p k
  where_some f = go (marks_rest w i k) refl
    where
      go : (v : Bool) → marks_rest w i k ≡ v → eqb (bit_and days busy) 0 ≡ pair_fits w i p k
      go true q = two_fit q
      go false q = absurd (f (out_days q))

  where_none : days ≡ 0 → pair_fits w i p k ≡ false
  where_none z = go (marks_rest w i k) refl
    where
      go : (v : Bool) → marks_rest w i k ≡ v → pair_fits w i p k ≡ false
      go true q = absurd (some_day q z)
      go false q = out_fits q

-- as the code asks
module _ (w : List ℕ) (i p k days busy : ℕ) (ok : Accepted w) (l : 1 ≤ k) (h : k ≤ pair_count w) (small : days < 2 ^ 32) (b : BusyDays (block w i) p busy) (each : PairDays w i k days) where
  pub fits_where : (days ≡ 0 → ⊥) → eqb (bit_and days busy) 0 ≡ pair_fits w i p k
  fits_where = where_some w i p k days busy (pair_day w k - 1) (beside w i p k days busy ok l h small b each)

  pub fits_never : days ≡ 0 → not (eqb days 0) ≡ pair_fits w i p k
  fits_never z = ap not (eq-eqb days 0 z) ∙ sym (where_none w i p k days busy (pair_day w k - 1) (beside w i p k days busy ok l h small b each) z)

-- a pair that fits has its two days, for who takes them off
rest_marked : (b : List ℕ) (p d : ℕ) → at_rest_on b p d ≡ true → rest_mark (mark_on b d) ≡ true
unfolding at_rest_on
rest_marked b p d e = (and_parts (eqb (row_state b p d) 0 || eqb (row_state b p d) 3) (rest_mark (mark_on b d)) e).1

pub fitting_days : (w : List ℕ) (i p k x : ℕ) → 1 ≤ k → k ≤ pair_count w → PairDays w i k x → pair_fits w i p k ≡ true → (d : ℕ) → has x d ≡ in_pair w k (suc d)
unfolding PairDays
fitting_days w i p k x l h each fit d =
    let b = block w i in
    let both = and_parts (at_rest_on b p (pair_day w k)) (at_rest_on b p (suc (pair_day w k))) (sym (fits_pair w i p k l h) ∙ fit) in
    each d
    ∙ ap (λ (v : Bool). in_pair w k (suc d) && v) (ap₂ ◌&&◌ (rest_marked b p (pair_day w k) both.0) (rest_marked b p (suc (pair_day w k)) both.1))
    ∙ and-true (in_pair w k (suc d))

-- ---- whether any does

pub any_none : (w : List ℕ) (i p : ℕ) → pair_count w ≡ 0 → true ≡ any_of (pair_fits w i p) (pair_numbers w)
unfolding any_of
any_none w i p e = rw (pair_numbers_none w e, fits_none w i p, eq-eqb (pair_count w) 0 e)
