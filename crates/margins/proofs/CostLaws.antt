-- A nurse's days: how their costs are filled in, and what they are in terms of her two sides of each duty.
use Rattle.std.specs.Prelude.{◌≡◌, refl, Bool, true, false, cond, List, ◌++◌, ℕ, ◌+◌, ◌-◌, ◌≤◌, ◌<◌, length, get_or, set, take, drop, replicate}
use Rattle.std.proofs.Common.{sym, ap, ap₂, ◌∙◌, subst, zero-add, not-suc-le-zero, arith, length-set, length-append, length-drop, get_or-set_other, length-take-le, get_or-take, get_or-drop}
use Rattle.std.proofs.lemmas.List.{length-replicate}
use Rattle.std.proofs.Math.Decide.{dec_lt}
use Rattle.std.proofs.Math.ListN.{get_or-append}
use Rattle.std.proofs.Math.Seq.{get_or-append_right}
use Rattle.numbers.specs.Digits.{has}
use Rattle.history.specs.declared.Search.{Search}
use Rattle.history.specs.declared.Search.TheVariants.{Nights, Days}
use Rattle.fields.specs.Fields.{Accepted, days}
use Rattle.penalty.specs.CodeCounts.{weights_of, no_high}
use Rattle.penalty.proofs.ColumnLaws.{zeros}
use Rattle.penalty.proofs.FieldLaws.{light, light_no_high}
use Rattle.tables.specs.CodeTables.{Low, Small, night_on, open_on, none_on}
use Rattle.margins.specs.CodeMargins.{MarginsOf, SomeMargins, NightMargins, SearchMargins, side_at, SidesOf, NightSummed, DaySummed, night_with, day_with, NightCosts, DayCosts, CostsOf}
use Rattle.margins.proofs.SideLaws.{PlacesHold, holds_none, holds_more, holds_still, blank_low, low_set}

-- the days below d hold the three costs, and those after them 0
pub record CostsTo (a b e : ℕ → ℕ) (n d : ℕ) (c : List ℕ) : Type 0 where
  pub inside : d ≤ n
  pub long : length c ≡ 108
  pub low : Low c 371200
  pub nights : PlacesHold (λ j. j) a d c
  pub opens : PlacesHold (λ j. 36 + j) b d c
  pub nones : PlacesHold (λ j. 72 + j) e d c
  pub past : (j : ℕ) → d ≤ j → j < 36 → (night_on c j ≡ 0) × (open_on c j ≡ 0) × (none_on c j ≡ 0)

module _ (a b e : ℕ → ℕ) (n : ℕ) where
  pub costs_start : CostsTo a b e n 0 (replicate 108 0)
  costs_start = record {
    inside = omega arith;
    long = refl;
    low = blank_low 108 _;
    nights = holds_none _ _ _;
    opens = holds_none _ _ _;
    nones = holds_none _ _ _;
    past = λ j q h. (zeros 108 j, zeros 108 (36 + j), zeros 108 (72 + j));
  }

  pub costs_turn : {d : ℕ} {c : List ℕ} {x y z : ℕ} → CostsTo a b e n d c → d < n → n ≤ 31 → x ≡ a d → y ≡ b d → z ≡ e d → (x ≤ 371200) × (y ≤ 371200) × (z ≤ 371200)
      → CostsTo a b e n (d + 1) (set (set (set c d x) (36 + d) y) (72 + d) z)
  costs_turn {d} {c} {x} {y} {z} p h m ex ey ez s =
      let first : length (set c d x) ≡ 108 = length-set c d x ∙ p.long in
      let second : length (set (set c d x) (36 + d) y) ≡ 108 = length-set (set c d x) (36 + d) y ∙ first in
      let same : (j : ℕ) → (j ≡ d → ⊥) → (j ≡ 36 + d → ⊥) → (j ≡ 72 + d → ⊥) → get_or (set (set (set c d x) (36 + d) y) (72 + d) z) j 0 ≡ get_or c j 0 = λ j r t u.
      get_or-set_other (set (set c d x) (36 + d) y) (72 + d) j z 0 u ∙ get_or-set_other (set c d x) (36 + d) j y 0 t ∙ get_or-set_other c d j x 0 r in
      record {
        inside = omega arith;
        long = length-set (set (set c d x) (36 + d) y) (72 + d) z ∙ second;
        low = low_set _ (72 + d) z _ (omega arith) (low_set _ (36 + d) y _ (omega arith) (low_set c d x _ (omega (arith, p.long)) p.low s.0) s.1) s.2;
        nights = holds_still _ _ (72 + d) z (holds_still _ _ (36 + d) y (holds_more _ _ p.nights (λ j u. u) (omega (arith, p.long)) ex) (λ j u v. omega arith)) (λ j u v. omega arith);
        opens = holds_still _ _ (72 + d) z (holds_more (λ j. 36 + j) _ (holds_still _ _ d x p.opens (λ j u v. omega arith)) (λ j u. omega arith) (omega arith) ey) (λ j u v. omega arith);
        nones = holds_more (λ j. 72 + j) _ (holds_still _ _ (36 + d) y (holds_still _ _ d x p.nones (λ j u v. omega arith)) (λ j u v. omega arith)) (λ j u. omega arith) (omega arith) ez;
        past = λ j q k. let old = p.past j (omega arith) k in (
          same j (λ r. omega arith) (λ r. omega arith) (λ r. omega arith) ∙ old.0,
          same (36 + j) (λ r. omega arith) (λ r. omega arith) (λ r. omega arith) ∙ old.1,
          same (72 + j) (λ r. omega arith) (λ r. omega arith) (λ r. omega arith) ∙ old.2,
        );
      }

  pub costs_small : {d : ℕ} {c : List ℕ} → CostsTo a b e n d c → n ≤ d → n ≤ 31 → Small c n
  costs_small p h m = record { days_most = m; small = p.low; past = λ j q k. p.past j (omega (arith, p.inside)) k }

-- ---- by night, from the sides x and y of night and day

abbrev pub night_at : List ℕ → List ℕ → ℕ → ℕ
night_at x y d = get_or x d 0 + get_or y (32 + d) 0

abbrev pub open_at : List ℕ → List ℕ → ℕ → ℕ → ℕ
open_at x y workable d = get_or x (32 + d) 0 + cond (has workable d) (get_or y d 0) (get_or y (32 + d) 0)

abbrev pub none_at : List ℕ → List ℕ → ℕ → ℕ
none_at x y d = get_or x (32 + d) 0 + get_or y (32 + d) 0

pub record NightTo (x y : List ℕ) (workable n d : ℕ) (c : List ℕ) : Type 0 where
  pub costs : CostsTo (night_at x y) (open_at x y workable) (none_at x y) n d c

module _ (x y : List ℕ) (workable n : ℕ) where
  pub night_start : NightTo x y workable n 0 (replicate 108 0)
  night_start = record { costs = costs_start _ _ _ _ }

  -- one day, from what the calls gave: `free` is what the day's duty costs where she is open
  module _ (d : ℕ) {free : ℕ} {on : Bool} (k : Low x 185600) (l : Low y 185600) (o : on ≡ has workable d) (e : free ≡ cond on (get_or y d 0) (get_or y (32 + d) 0)) where
    -- small enough to be added
    pub night_small : (night_at x y d ≤ 371200) × (get_or x (32 + d) 0 + free ≤ 371200) × (none_at x y d ≤ 371200)
    night_small = (
      omega (arith, k.low d, l.low (32 + d)),
      omega (arith, e, k.low (32 + d), either on),
      omega (arith, k.low (32 + d), l.low (32 + d)),
    )
      where
        either : (b : Bool) → cond b (get_or y d 0) (get_or y (32 + d) 0) ≤ 185600
        either true = l.low d
        either false = l.low (32 + d)

    pub night_turn : {c : List ℕ} → NightTo x y workable n d c → d < n → n ≤ 31
        → NightTo x y workable n (d + 1) (set (set (set c d (night_at x y d)) (36 + d) (get_or x (32 + d) 0 + free)) (72 + d) (none_at x y d))
    night_turn p h m =
        let open_is = e ∙ ap (λ (b : Bool). cond b (get_or y d 0) (get_or y (32 + d) 0)) o in
        record { costs = costs_turn _ _ _ _ p.costs h m refl (ap (λ (t : ℕ). get_or x (32 + d) 0 + t) open_is) refl night_small }

  pub night_end : {d : ℕ} {c : List ℕ} → NightTo x y workable n d c → n ≤ d → NightSummed n x y workable c
  night_end p h = record {
    at_night = λ j q. p.costs.nights.holds j (omega arith);
    at_open = λ j q. p.costs.opens.holds j (omega arith);
    at_none = λ j q. p.costs.nones.holds j (omega arith);
  }

-- ---- by day, from the sides y: three rows are copied over zeros

-- the row is put over l from a place on
pub record RowPut (l r row : List ℕ) (at : ℕ) : Type 0 where
  pub within : (j : ℕ) → j < length row → get_or r (at + j) 0 ≡ get_or row j 0
  pub before : (e : ℕ) → e < at → get_or r e 0 ≡ get_or l e 0
  pub after : (e : ℕ) → at + length row ≤ e → get_or r e 0 ≡ get_or l e 0

first_put : (l row : List ℕ) (k : ℕ) → k ≡ length row → RowPut l (row ++ drop k l) row 0
first_put l row k m = record {
  within = λ j q. rw zero-add (get_or-append row _ 0 j q);
  before = λ e q. absurd (not-suc-le-zero q);
  after = λ e q. (let past : length row ≤ e = omega arith in
      let back : k + (e - length row) ≡ e = omega arith in
      get_or-append_right row _ e 0 past ∙ get_or-drop k l (e - length row) 0 ∙ ap (λ (i : ℕ). get_or l i 0) back);
}

row_put : (l row : List ℕ) (at k : ℕ) → k ≡ length row → at ≤ length l → RowPut l (take at l ++ (row ++ drop k (drop at l))) row at
row_put l row at k m h =
    let long : length (take at l) ≡ at = length-take-le at l h in
    let from : (e : ℕ) → at ≤ e → get_or (take at l ++ (row ++ drop k (drop at l))) e 0 ≡ get_or (row ++ drop k (drop at l)) (e - at) 0 = λ e q.
    get_or-append_right (take at l) _ e 0 (omega arith) ∙ ap (λ (i : ℕ). get_or (row ++ drop k (drop at l)) (e - i) 0) long in
    let rest = first_put (drop at l) row k m in
    record {
      within = λ j q. (let e : at + j - at ≡ j = omega arith in from (at + j) (omega arith) ∙ ap (λ (i : ℕ). get_or (row ++ drop k (drop at l)) i 0) e ∙ get_or-append row _ 0 j q);
      before = λ e q. get_or-append (take at l) _ 0 e (omega arith) ∙ get_or-take at l e 0 q;
      after = λ e q. (let back : at + (e - at) ≡ e = omega arith in
          from e (omega arith) ∙ rest.after (e - at) (omega arith) ∙ get_or-drop at l (e - at) 0 ∙ ap (λ (i : ℕ). get_or l i 0) back);
    }

module _ (y : List ℕ) (n : ℕ) {a b c on off next : List ℕ} (h : n ≤ 31) (p : RowPut (replicate 108 0) a on 0) (q : RowPut a b off 36) (r : RowPut b c next 72)
    (ons : length on ≡ n) (offs : length off ≡ n) (nexts : length next ≡ n)
    (on_is : (j : ℕ) → j < n → get_or on j 0 ≡ get_or y j 0) (off_is : (j : ℕ) → j < n → get_or off j 0 ≡ get_or y (32 + j) 0) (next_is : (j : ℕ) → j < n → get_or next j 0 ≡ get_or y (32 + j) 0) where
  nights_copied : (j : ℕ) → j < n → night_on c j ≡ get_or y j 0
  nights_copied j l = r.before j (omega arith) ∙ q.before j (omega arith) ∙ ap (λ (e : ℕ). get_or a e 0) (sym (zero-add j)) ∙ p.within j (omega arith) ∙ on_is j l

  opens_copied : (j : ℕ) → j < n → open_on c j ≡ get_or y (32 + j) 0
  opens_copied j l = r.before (36 + j) (omega arith) ∙ q.within j (omega arith) ∙ off_is j l

  nones_copied : (j : ℕ) → j < n → none_on c j ≡ get_or y (32 + j) 0
  nones_copied j l = r.within j (omega arith) ∙ next_is j l

  pub day_summed : DaySummed n y c
  day_summed = record { at_night = nights_copied; at_open = opens_copied; at_none = nones_copied }

  past_night : (j : ℕ) → n ≤ j → j < 36 → night_on c j ≡ 0
  past_night j l m = r.before j (omega arith) ∙ q.before j (omega arith) ∙ p.after j (omega arith) ∙ zeros 108 j

  past_open : (j : ℕ) → n ≤ j → j < 36 → open_on c j ≡ 0
  past_open j l m = r.before (36 + j) (omega arith) ∙ q.after (36 + j) (omega arith) ∙ p.after (36 + j) (omega arith) ∙ zeros 108 (36 + j)

  past_none : (j : ℕ) → n ≤ j → none_on c j ≡ 0
  past_none j l = r.after (72 + j) (omega arith) ∙ q.after (72 + j) (omega arith) ∙ p.after (72 + j) (omega arith) ∙ zeros 108 (72 + j)

  pub day_small : Low y 185600 → Small c n
  day_small s = record {
    days_most = h;
    small = record { low = λ e. go e (dec_lt e 36) (dec_lt e 72) };
    past = λ j l m. (past_night j l m, past_open j l m, past_none j l);
  }
    where
      night_low : (j : ℕ) → j < 36 → Dec (j < n) → night_on c j ≤ 371200
      night_low j m (yes l) = omega (arith, nights_copied j l, s.low j)
      night_low j m (no l) = omega (arith, past_night j (omega arith) m)

      open_low : (j : ℕ) → j < 36 → Dec (j < n) → open_on c j ≤ 371200
      open_low j m (yes l) = omega (arith, opens_copied j l, s.low (32 + j))
      open_low j m (no l) = omega (arith, past_open j (omega arith) m)

      none_low : (j : ℕ) → Dec (j < n) → none_on c j ≤ 371200
      none_low j (yes l) = omega (arith, nones_copied j l, s.low (32 + j))
      none_low j (no l) = omega (arith, past_none j (omega arith))

      go : (e : ℕ) → Dec (e < 36) → Dec (e < 72) → get_or c e 0 ≤ 371200
      go e (yes m) k = night_low e m (dec_lt e n)
      go e (no m) (yes k) = let back : 36 + (e - 36) ≡ e = omega arith in subst (λ (i : ℕ). get_or c i 0 ≤ 371200) back (open_low (e - 36) (omega arith) (dec_lt (e - 36) n))
      go e (no m) (no k) = let back : 72 + (e - 72) ≡ e = omega arith in subst (λ (i : ℕ). get_or c i 0 ≤ 371200) back (none_low (e - 72) (dec_lt (e - 72) n))

-- two rows are copied, and there is room for the third
two_long : (n : ℕ) (blank s t : List ℕ) → n ≤ 31 → blank ≡ replicate 108 0 → length s ≡ n → length t ≡ n
    → length (take 36 (s ++ drop n blank) ++ (t ++ drop (36 + n - 36) (drop 36 (s ++ drop n blank)))) ≡ 108
two_long n blank s t h e ones twos =
    let first = s ++ drop n blank in
    let long : length first ≡ 108 = omega (arith, length-append s (drop n blank), length-drop n blank, ap length e, length-replicate {A = ℕ} 108 0) in
    omega (
      arith,
      length-append (take 36 first) (t ++ drop (36 + n - 36) (drop 36 first)),
      length-append t (drop (36 + n - 36) (drop 36 first)),
      length-drop (36 + n - 36) (drop 36 first),
      length-drop 36 first,
      length-take-le 36 first (omega arith),
    )

pub third_fits : (n : ℕ) (blank s t : List ℕ) → n ≤ 31 → blank ≡ replicate 108 0 → length s ≡ n → length t ≡ n
    → 72 + n ≤ length (take 36 (s ++ drop n blank) ++ (t ++ drop (36 + n - 36) (drop 36 (s ++ drop n blank))))
third_fits n blank s t h e ones twos = omega (arith, two_long n blank s t h e ones twos)

-- as the copies leave it
module _ (y : List ℕ) (n : ℕ) {blank s t u : List ℕ} (h : n ≤ 31) (e : blank ≡ replicate 108 0) (one : s ≡ take n y) (two : t ≡ take (32 + n - 32) (drop 32 y))
    (three : u ≡ take (32 + n - 32) (drop 32 y)) (ones : length s ≡ n) (twos : length t ≡ n) (threes : length u ≡ n) where
  abbrev first_of : List ℕ
  first_of = s ++ drop n blank

  abbrev second_of : List ℕ
  second_of = take 36 first_of ++ (t ++ drop (36 + n - 36) (drop 36 first_of))

  abbrev third_of : List ℕ
  third_of = take 72 second_of ++ (u ++ drop (72 + n - 72) (drop 72 second_of))

  first_long : length first_of ≡ 108
  first_long = omega (arith, length-append s (drop n blank), length-drop n blank, ap length e, length-replicate {A = ℕ} 108 0)

  second_long : length second_of ≡ 108
  second_long = two_long n blank s t h e ones twos

  first_is : RowPut (replicate 108 0) first_of s 0
  first_is = subst (λ (b : List ℕ). RowPut (replicate 108 0) (s ++ drop n b) s 0) (sym e) (first_put (replicate 108 0) s n (sym ones))

  on_row : (j : ℕ) → j < n → get_or s j 0 ≡ get_or y j 0
  on_row j l = ap (λ (x : List ℕ). get_or x j 0) one ∙ get_or-take n y j 0 l

  off_row : {x : List ℕ} → x ≡ take (32 + n - 32) (drop 32 y) → (j : ℕ) → j < n → get_or x j 0 ≡ get_or y (32 + j) 0
  off_row q j l = ap (λ (z : List ℕ). get_or z j 0) q ∙ get_or-take (32 + n - 32) (drop 32 y) j 0 (omega arith) ∙ get_or-drop 32 y j 0

  second_is : RowPut first_of second_of t 36
  second_is = row_put first_of t 36 (36 + n - 36) (omega arith) (omega (arith, first_long))

  third_is : RowPut second_of third_of u 72
  third_is = row_put second_of u 72 (72 + n - 72) (omega arith) (omega (arith, second_long))

  pub day_copied : DaySummed n y third_of
  day_copied = day_summed y n h first_is second_is third_is ones twos threes on_row (off_row two) (off_row three)

  pub day_costs_small : Low y 185600 → Small third_of n
  day_costs_small = day_small y n h first_is second_is third_is ones twos threes on_row (off_row two) (off_row three)

-- ---- a nurse, in either search

module _ (w night day nightly daily : List ℕ) (a : Accepted w) where
  pub some_day : (search : Search) → SearchMargins search w night day nightly daily → SomeMargins w day daily
  some_day Nights h = record { weights = no_high (weights_of w 1); duty = 1; light = light_no_high (light w a 1 (omega arith)); margins = h.day_margins }
  some_day Days h = record { weights = weights_of w 1; duty = 1; light = light w a 1 (omega arith); margins = h }

  pub some_night : NightMargins w night day nightly daily → SomeMargins w night nightly
  some_night h = record { weights = weights_of w 0; duty = 0; light = light w a 0 (omega arith); margins = h.night_margins }

module _ (w night day nightly daily : List ℕ) where
  pub by_night : (search : Search) → search ≡ Nights → SearchMargins search w night day nightly daily → NightMargins w night day nightly daily
  by_night search e h = subst (λ (s : Search). SearchMargins s w night day nightly daily) e h

  pub by_day : (search : Search) → search ≡ Days → SearchMargins search w night day nightly daily → MarginsOf w (weights_of w 1) 1 day daily
  by_day search e h = subst (λ (s : Search). SearchMargins s w night day nightly daily) e h

module _ (w night day : List ℕ) (i workable : ℕ) (search : Search) where
  pub nights_are : {n : ℕ} {x y c : List ℕ} → search ≡ Nights → n ≡ days w
      → SidesOf w (weights_of w 0) 0 night i x → SidesOf w (no_high (weights_of w 1)) 1 day i y → NightSummed n x y workable c → CostsOf search w night day i workable c
  unfolding night_with
  nights_are {n} {x} {y} {c} e m h k s =
      let to : (d : ℕ) → d < days w → d < n = λ d q. omega arith in
      let costs : NightCosts w night day i workable c = record {
        at_night = λ d q. s.at_night d (to d q) ∙ ap₂ (λ (a b : ℕ). a + b) (h.on_is d q) (k.off_is d q);
        at_open = λ d q. s.at_open d (to d q) ∙ ap₂ (λ (a b : ℕ). a + b) (h.off_is d q) (either d q (has workable d));
        at_none = λ d q. s.at_none d (to d q) ∙ ap₂ (λ (a b : ℕ). a + b) (h.off_is d q) (k.off_is d q);
      } in
      subst (λ (t : Search). CostsOf t w night day i workable c) (sym e) costs
    where
      either : (d : ℕ) → d < days w → (b : Bool) → cond b (get_or y d 0) (get_or y (32 + d) 0) ≡ side_at w (no_high (weights_of w 1)) 1 day i d b
      either d q true = k.on_is d q
      either d q false = k.off_is d q

  pub days_are : {n : ℕ} {y c : List ℕ} → search ≡ Days → n ≡ days w → SidesOf w (weights_of w 1) 1 day i y → DaySummed n y c
      → CostsOf search w night day i workable c
  unfolding day_with
  days_are {n} {y} {c} e m k s =
      let to : (d : ℕ) → d < days w → d < n = λ d q. omega arith in
      let costs : DayCosts w day i c = record {
        at_night = λ d q. s.at_night d (to d q) ∙ k.on_is d q;
        at_open = λ d q. s.at_open d (to d q) ∙ k.off_is d q;
        at_none = λ d q. s.at_none d (to d q) ∙ k.off_is d q;
      } in
      subst (λ (t : Search). CostsOf t w night day i workable c) (sym e) costs
