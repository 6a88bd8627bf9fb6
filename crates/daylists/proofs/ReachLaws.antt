-- A pattern that meets the rules is never cut off: on its way the walk goes on. And one that the walk comes to meets them.
use Rattle.std.specs.Prelude.{◌≡◌, refl, Bool, true, false, cond, not, ◌&&◌, ◌||◌, List, ℕ, zero, suc, ◌+◌, ◌-◌, ◌*◌, ◌/◌, ◌%◌, ◌^◌, ◌≤◌, ◌<◌, min, ltb, bit_or}
use Rattle.std.proofs.Common.{sym, ap, ◌∙◌, subst, add-zero, pow-suc, div-one, mul_comm, mul_assoc, add-one, arith, lt-ltb, le-ltb, ltb-true, eqb-true, shr-shr, true≢false}
use Rattle.std.proofs.lemmas.Bool.{eqb-false, and_parts, and_from}
use Rattle.std.proofs.lemmas.Nat.{shl-shr}
use Rattle.std.proofs.Math.Decide.{dec_lt}
use Rattle.std.proofs.Math.Nat.{sub-zero}
use Rattle.numbers.specs.Range.{up_from, all}
use Rattle.numbers.specs.Digits.{has, bit}
use Rattle.numbers.proofs.RangeLaws.{length_range, range_all, range_each}
use Rattle.numbers.proofs.DigitLaws.{bit_lt, bit_of_zero}
use Rattle.numbers.proofs.AgreeLaws.{filter_le, low_agree, field_agree, has_moved_down, has_or_left, has_or_right}
use Rattle.rows.specs.Rows.{started}
use Rattle.days.specs.Days.{is_rest, windows_hold, rests}
use Rattle.days.specs.CodeMonth.{SmallMonth, in_bounds, duty_at, choice_of, rule_of, rest_on}
use Rattle.daylists.specs.CodeWalk.{may_choose, step_holds, first_hold, branch, reach, goes_on}
use Rattle.days.specs.declared.month.Month.{Month}
use Rattle.days.proofs.RuleLaws.{rests_from, rests_start, rest_day}
use Rattle.days.proofs.WindowLaws.{windows_same, duty_same}
use Rattle.daylists.proofs.LocalLaws.{Near, near_high, step_same, branch_same, rests_high}

-- what the walk leans on: the set of counts of rests within her bounds
pub record Bounded (m : Month) : Type 0 where
  pub small : SmallMonth m
  pub within_is : (k : ℕ) → k < 32 → has m.within k ≡ in_bounds m.least m.most k

-- what the rule's yes to q says
record Meets (m : Month) (row : List ℕ) (q : ℕ) : Type 0 where
  pub below : q < 2 ^ m.days
  pub chosen : (d : ℕ) → d < m.days → cond (has q d) (has m.available d) (not (has m.fixed d)) ≡ true
  pub windows : (t : ℕ) → 7 ≤ t → t < 7 + m.days → windows_hold (duty_at row q) m.longest t ≡ true
  pub bounds : in_bounds m.least m.most (rests (duty_at row q) m.days) ≡ true

chosen_in : (m : Month) (q : ℕ) → all (λ e. cond (started q e) (started m.available e) (not (started m.fixed e))) (up_from 1 m.days) ≡ true
    → (d : ℕ) → d < m.days → cond (has q d) (has m.available d) (not (has m.fixed d)) ≡ true
chosen_in m q e d h =
    range_each (λ e. cond (started q e) (started m.available e) (not (started m.fixed e))) 1 m.days e (suc d) (omega arith) (omega arith)

meets : (m : Month) (row : List ℕ) (q : ℕ) → rule_of m row q ≡ true → Meets m row q
unfolding rule_of choice_of
meets m row q e =
    let a = and_parts _ _ e in
    let b = and_parts _ _ a.0 in
    let c = and_parts _ _ a.1 in
    record {
      below = ltb-true q (2 ^ m.days) b.0;
      chosen = chosen_in m q b.1;
      windows = λ t l h. range_each (windows_hold (duty_at row q) m.longest) 7 m.days c.0 t l h;
      bounds = c.1;
    }

module _ (m : Month) (row : List ℕ) (b : Bounded m) (q : ℕ) (y : Meets m row q) where
  -- ---- one day

  step_made : (d : ℕ) → d ≤ m.days → step_holds m row d q ≡ true
  unfolding step_holds
  step_made d l = go (dec_lt m.days (d + 7))
    where
      go : Dec (m.days < d + 7) → (ltb m.days (d + 7) || (may_choose m q (d + 6) && windows_hold (duty_at row q) m.longest (d + 13))) ≡ true
      go (yes h) = rw (lt-ltb m.days (d + 7) h)
      go (no h) =
          let k : d + 7 ≤ m.days = omega arith in
          rw (le-ltb m.days (d + 7) k, y.chosen (d + 6) (omega arith), y.windows (d + 13) (omega arith) (omega arith))

  -- ---- the table

  -- the six first days alone
  first_made : first_hold m row (q / 2 ^ 0 % 64) ≡ true
  unfolding first_hold
  first_made =
      and_from (all (may_choose m (q / 2 ^ 0 % 64)) (up_from 0 (min 6 m.days))) (all (windows_hold (duty_at row (q / 2 ^ 0 % 64)) m.longest) (up_from 7 (min 6 m.days)))
      (range_all (may_choose m (q / 2 ^ 0 % 64)) 0 (min 6 m.days)
      (λ d l h. ap (λ (b : Bool). cond b (has m.available d) (not (has m.fixed d))) (first_days d (omega arith)) ∙ y.chosen d (omega arith)))
      (range_all (windows_hold (duty_at row (q / 2 ^ 0 % 64)) m.longest) 7 (min 6 m.days)
      (λ t l h. windows_same (duty_at row (q / 2 ^ 0 % 64)) (duty_at row q) m.longest t b.small.short (omega arith)
      (λ u i k. duty_same row (q / 2 ^ 0 % 64) q u (λ g. first_days (u - 7) (omega arith)))
      ∙ y.windows t l (omega arith)))
    where
      first_days : (j : ℕ) → j < 6 → has (q / 2 ^ 0 % 64) j ≡ has q j
      first_days j h = ap (λ (x : ℕ). has (x % 64) j) (div-one q) ∙ low_agree q 6 j h

  rests_within : has m.within (rests_from (duty_at row q) m.days 0) ≡ true
  rests_within =
      let most : rests_from (duty_at row q) m.days 0 ≤ m.days =
      omega (arith, filter_le (λ t. is_rest (duty_at row q t)) (up_from 7 (m.days - 0)), length_range 7 (m.days - 0), sub-zero m.days) in
      b.within_is (rests_from (duty_at row q) m.days 0) (omega (arith, b.small.few_days))
      ∙ ap (in_bounds m.least m.most) (sym (rests_start (duty_at row q) m.days))
      ∙ y.bounds

  -- seven days of q from d on, by the six after d and d itself
  seven : (d : ℕ) (c : Bool) → has q d ≡ c → q / 2 ^ suc d % 64 * 2 ^ suc d + cond c (2 ^ d) 0 ≡ q / 2 ^ d % 2 ^ 7 * 2 ^ d
  seven d c e = go c e
    where
      half : q / 2 ^ suc d ≡ q / 2 ^ d / 2
      half = sym (shr-shr q d 1 ∙ ap (λ (k : ℕ). q / 2 ^ k) (add-one d))

      twice : (x : ℕ) → x * 2 ^ suc d ≡ 2 * x * 2 ^ d
      twice x = ap (λ (z : ℕ). x * z) (pow-suc 2 d) ∙ sym (mul_assoc x (2 ^ d) 2) ∙ mul_comm (x * 2 ^ d) 2 ∙ sym (mul_assoc 2 x (2 ^ d))

      go : (c : Bool) → has q d ≡ c → q / 2 ^ suc d % 64 * 2 ^ suc d + cond c (2 ^ d) 0 ≡ q / 2 ^ d % 2 ^ 7 * 2 ^ d
      go true h =
          let s : 2 * (q / 2 ^ d / 2 % 64) + 1 ≡ q / 2 ^ d % 128 = omega (arith, eqb-true (bit q d) 1 h) in
          rw (half, twice (q / 2 ^ d / 2 % 64), ← s) (omega arith)
      go false h =
          let z = eqb-false (bit q d) 1 h in
          let s : 2 * (q / 2 ^ d / 2 % 64) ≡ q / 2 ^ d % 128 = omega (arith, bit_lt q d, z) in
          rw (half, twice (q / 2 ^ d / 2 % 64), ← s) (omega arith)

  branch_taken : (d : ℕ) → d ≤ m.days → (f : ℕ → ℕ) → branch m row f d q ≡ f (q / 2 ^ d % 64) / 2 ^ rest_on row q d
  unfolding branch
  branch_taken d l f = rw (step_made d l)

  -- the branch that q takes, by its seven days from d on
  branch_made : (d x : ℕ) → x ≡ q / 2 ^ d % 2 ^ 7 * 2 ^ d → d < m.days → (f : ℕ → ℕ) → has (f (q / 2 ^ d % 64)) (rests_from (duty_at row q) m.days d) ≡ true
      → has (branch m row f d x) (rests_from (duty_at row q) m.days (d + 1)) ≡ true
  branch_made d x e l f h =
      let near : Near d x q = λ j i k. ap (λ (z : ℕ). has z j) e ∙ field_agree q d 7 j i k in
      let six : x / 2 ^ d % 64 ≡ q / 2 ^ d % 64 = ap (λ (z : ℕ). z / 2 ^ d % 64) e ∙ ap (λ (z : ℕ). z % 64) (shl-shr (q / 2 ^ d % 128) d) ∙ omega arith in
      let r = rests_from (duty_at row q) m.days (d + 1) in
      ap (λ (z : ℕ). has z r) (branch_same m row b.small.short d x q near f six ∙ branch_taken d (omega arith) f)
      ∙ has_moved_down (f (q / 2 ^ d % 64)) (rest_on row q d) r
      ∙ ap (λ (z : ℕ). has (f (q / 2 ^ d % 64)) z) (sym (rest_day row q m.days d l))
      ∙ h

  either_made : (d : ℕ) → d < m.days → (f : ℕ → ℕ) → has (f (q / 2 ^ d % 64)) (rests_from (duty_at row q) m.days d) ≡ true → (c : Bool) → has q d ≡ c
      → has (bit_or (branch m row f d (q / 2 ^ suc d % 64 * 2 ^ suc d)) (branch m row f d (q / 2 ^ suc d % 64 * 2 ^ suc d + 2 ^ d))) (rests_from (duty_at row q) m.days (d + 1)) ≡ true
  either_made d l f h true e =
      has_or_right (branch m row f d (q / 2 ^ suc d % 64 * 2 ^ suc d)) (branch m row f d (q / 2 ^ suc d % 64 * 2 ^ suc d + 2 ^ d)) (rests_from (duty_at row q) m.days (d + 1))
      (branch_made d (q / 2 ^ suc d % 64 * 2 ^ suc d + 2 ^ d) (seven d true e) l f h)
  either_made d l f h false e =
      has_or_left (branch m row f d (q / 2 ^ suc d % 64 * 2 ^ suc d)) (branch m row f d (q / 2 ^ suc d % 64 * 2 ^ suc d + 2 ^ d)) (rests_from (duty_at row q) m.days (d + 1))
      (branch_made d (q / 2 ^ suc d % 64 * 2 ^ suc d) (sym (add-zero (q / 2 ^ suc d % 64 * 2 ^ suc d)) ∙ seven d false e) l f h)

  -- the table's counts have her own
  reach_made : (d : ℕ) → d ≤ m.days → has (reach m row d (q / 2 ^ d % 64)) (rests_from (duty_at row q) m.days d) ≡ true
  unfolding reach
  reach_made zero l = rw first_made rests_within
  reach_made (suc d) l =
      ap (λ (k : ℕ). has (reach m row (suc d) (q / 2 ^ suc d % 64)) (rests_from (duty_at row q) m.days k)) (sym (add-one d))
      ∙ either_made d (omega arith) (λ x. reach m row d x) (reach_made d (omega arith)) (has q d) refl

  -- the walk goes on where q is below
  goes_made : (d a r : ℕ) → d ≤ m.days → a / 2 ^ d ≡ q / 2 ^ d → r ≡ rests_from (duty_at row a) m.days d → goes_on m row d a r ≡ true
  unfolding goes_on
  goes_made d a r l e h =
      rw (step_same m row b.small.short d a q (near_high d a q e) ∙ step_made d l, e, h ∙ rests_high row m.days d a q e, reach_made d l)

pub never_cut : (m : Month) (row : List ℕ) → Bounded m → (q : ℕ) → rule_of m row q ≡ true
    → (d a r : ℕ) → d ≤ m.days → a / 2 ^ d ≡ q / 2 ^ d → r ≡ rests_from (duty_at row a) m.days d → goes_on m row d a r ≡ true
never_cut m row b q y = goes_made m row b q (meets m row q y)

-- ---- what the walk comes to

or_false : (a b : Bool) → a ≡ false → (a || b) ≡ true → b ≡ true
or_false true b e h = absurd (true≢false e)
or_false false b e h = h

module _ (m : Month) (row : List ℕ) (b : Bounded m) (a r : ℕ) (below : a < 2 ^ m.days) (steps : (d : ℕ) → d ≤ m.days → step_holds m row d a ≡ true)
    (first : has (reach m row 0 (a / 2 ^ 0 % 64)) r ≡ true) (rested : r ≡ rests_from (duty_at row a) m.days 0) where
  -- the table's first row
  begins : (first_hold m row (a / 2 ^ 0 % 64) ≡ true) × (has m.within r ≡ true)
  unfolding reach
  begins = go (first_hold m row (a / 2 ^ 0 % 64)) refl
    where
      go : (t : Bool) → first_hold m row (a / 2 ^ 0 % 64) ≡ t → (first_hold m row (a / 2 ^ 0 % 64) ≡ true) × (has m.within r ≡ true)
      go true e = (e, rw e at first)
      go false e = let z : has 0 r ≡ true = rw e at first in absurd (omega (arith, bit_of_zero r, eqb-true (bit 0 r) 1 z))

  first_parts : (all (may_choose m (a / 2 ^ 0 % 64)) (up_from 0 (min 6 m.days)) ≡ true) × (all (windows_hold (duty_at row (a / 2 ^ 0 % 64)) m.longest) (up_from 7 (min 6 m.days)) ≡ true)
  unfolding first_hold
  first_parts = and_parts _ _ begins.0

  first_days : (j : ℕ) → j < 6 → has a j ≡ has (a / 2 ^ 0 % 64) j
  first_days j h = sym (ap (λ (x : ℕ). has (x % 64) j) (div-one a) ∙ low_agree a 6 j h)

  -- the steps of the days after them
  step_parts : (d : ℕ) → d + 7 ≤ m.days → (may_choose m a (d + 6) ≡ true) × (windows_hold (duty_at row a) m.longest (d + 13) ≡ true)
  unfolding step_holds
  step_parts d l =
      and_parts (may_choose m a (d + 6)) (windows_hold (duty_at row a) m.longest (d + 13))
      (or_false (ltb m.days (d + 7)) (may_choose m a (d + 6) && windows_hold (duty_at row a) m.longest (d + 13)) (le-ltb m.days (d + 7) l) (steps d (omega arith)))

  chosen_come : (d : ℕ) → d < m.days → may_choose m a d ≡ true
  chosen_come d l = go (dec_lt d 6)
    where
      go : Dec (d < 6) → may_choose m a d ≡ true
      go (yes k) =
          ap (λ (b : Bool). cond b (has m.available d) (not (has m.fixed d))) (first_days d k)
          ∙ range_each (may_choose m (a / 2 ^ 0 % 64)) 0 (min 6 m.days) first_parts.0 d (omega arith) (omega arith)
      go (no k) =
          let e : d - 6 + 6 ≡ d = omega arith in
          subst (λ (x : ℕ). may_choose m a x ≡ true) e (step_parts (d - 6) (omega arith)).0

  chosen_each : (x : ℕ) → 1 ≤ x → x < 1 + m.days → cond (started a x) (started m.available x) (not (started m.fixed x)) ≡ true
  chosen_each zero l h = absurd (omega arith)
  chosen_each (suc d) l h = chosen_come d (omega arith)

  choice_comes : choice_of m a ≡ true
  unfolding choice_of
  choice_comes =
      rw (lt-ltb a (2 ^ m.days) below)
      (range_all (λ e. cond (started a e) (started m.available e) (not (started m.fixed e))) 1 m.days chosen_each)

  early : (t : ℕ) → 7 ≤ t → t < 13 → t < 7 + m.days → windows_hold (duty_at row a) m.longest t ≡ true
  early t l h k =
      windows_same (duty_at row a) (duty_at row (a / 2 ^ 0 % 64)) m.longest t b.small.short (omega arith)
      (λ u i j. duty_same row a (a / 2 ^ 0 % 64) u (λ g. first_days (u - 7) (omega arith)))
      ∙ range_each (windows_hold (duty_at row (a / 2 ^ 0 % 64)) m.longest) 7 (min 6 m.days) first_parts.1 t l (omega arith)

  windows_come : (t : ℕ) → 7 ≤ t → t < 7 + m.days → windows_hold (duty_at row a) m.longest t ≡ true
  windows_come t l h = go (dec_lt t 13)
    where
      go : Dec (t < 13) → windows_hold (duty_at row a) m.longest t ≡ true
      go (yes k) = early t l k h
      go (no k) =
          let e : t - 13 + 13 ≡ t = omega arith in
          subst (λ (x : ℕ). windows_hold (duty_at row a) m.longest x ≡ true) e (step_parts (t - 13) (omega arith)).1

  rests_come : in_bounds m.least m.most (rests (duty_at row a) m.days) ≡ true
  rests_come =
      let most : rests_from (duty_at row a) m.days 0 ≤ m.days =
      omega (arith, filter_le (λ t. is_rest (duty_at row a t)) (up_from 7 (m.days - 0)), length_range 7 (m.days - 0), sub-zero m.days) in
      ap (in_bounds m.least m.most) (rests_start (duty_at row a) m.days ∙ sym rested)
      ∙ sym (b.within_is r (omega (arith, b.small.few_days)))
      ∙ begins.1

  pub comes_to : rule_of m row a ≡ true
  unfolding rule_of
  comes_to = rw (choice_comes, range_all (windows_hold (duty_at row a) m.longest) 7 m.days windows_come) rests_come
