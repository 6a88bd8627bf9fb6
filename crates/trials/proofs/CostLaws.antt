-- A trial by a nurse's costs is what is short and over counted afresh after the exchange.
use Rattle.std.specs.Prelude.{◌≡◌, refl, Bool, true, false, cond, not, ◌&&◌, ◌||◌, List, ℕ, suc, ◌+◌, ◌^◌, ◌≤◌, ◌<◌, get_or}
use Rattle.std.proofs.Common.{sym, ap, ap₂, ◌∙◌, subst, le_refl, add-le-add, arith}
use Rattle.std.proofs.Math.Bool.{and-false}
use Rattle.numbers.specs.Digits.{has, put}
use Rattle.numbers.specs.Patterns.{pattern, unpaired, days_of}
use Rattle.numbers.proofs.SumLaws.{sum_ext, sum_add}
use Rattle.numbers.proofs.PatternLaws.{days_of_pattern, pair_of_pattern}
use Rattle.fields.specs.Fields.{Accepted, nurses, days, member_sets, needs, block, mark_on}
use Rattle.rows.specs.Rows.{available, available_on}
use Rattle.rows.specs.Pairs.{in_pair, free_on}
use Rattle.history.specs.declared.Search.{Search}
use Rattle.history.specs.declared.Search.TheVariants.{Nights, Days}
use Rattle.history.specs.Slot.{Slot, exchanged}
use Rattle.penalty.specs.Penalty.{rest, short_on, over_on, at_night, available_in, at_day, night_parts, day_parts, parts_in}
use Rattle.penalty.specs.CodeCounts.{weights_of}
use Rattle.penalty.specs.CodeColumns.{Shows, columns_of}
use Rattle.penalty.proofs.ColumnLaws.{night_after, available_after, day_after}
use Rattle.penalty.proofs.CountLaws.{short_same, over_same, cost_both, cost_low, cost_falls}
use Rattle.tables.specs.CodeTables.{night_on, open_on, none_on, day_at, trial_of, day_without, trial_without}
use Rattle.margins.specs.CodeMargins.{night_with, day_with, NightCosts, DayCosts, CostsOf}
use Rattle.trials.specs.CodeTrials.{before_of, start_set, WorkableDays, NightTrials, DayTrials, CostTrials}
use Rattle.trials.proofs.WindowLaws.{start_digit, window_open, before_small}

-- ---- a day of a trial

-- by her starts on it (a), on the day before (b) and on the one before that (c), whether it is off, and whether she may work it
night_state : (f : Bool → Bool → ℕ) (a b c off work : Bool) {night opened none : ℕ} → night ≡ f true false → opened ≡ f false work → none ≡ f false false
    → cond a night (cond off none (cond (b || c) none opened)) ≡ f a (((not a && (not b && not c)) && work) && not off)
night_state f true b c off work x y z = x
night_state f false b c true work x y z = z ∙ ap (f false) (sym (and-false ((not b && not c) && work)))
night_state f false true c false work x y z = z
night_state f false false true false work x y z = z
night_state f false false false false true x y z = y
night_state f false false false false false x y z = y

day_state : (f : Bool → ℕ) (a b : Bool) {worked opened none : ℕ} → worked ≡ f true → opened ≡ f false → none ≡ f false → cond a worked (cond b none opened) ≡ f a
day_state f true b x y z = x
day_state f false true x y z = z
day_state f false false x y z = y

-- the days on which a pattern leaves her available, by the set of its trial
free_window : (w : List ℕ) (i p k d : ℕ) → k < 2 ^ 32
    → free_on w i (pattern p k) (suc d)
    ≡ (((not (has (start_set (before_of (block w i)) p) (d + 2)) && (not (has (start_set (before_of (block w i)) p) (d + 1)) && not (has (start_set (before_of (block w i)) p) d)))
    && available (mark_on (block w i) (suc d)) 0) && not (in_pair w k (suc d)))
unfolding free_on available_on
free_window w i p k d h =
    ap₂ (λ (q j : ℕ). available_on (block w i) q (suc d) && not (in_pair w j (suc d))) (days_of_pattern p k h) (pair_of_pattern p k h)
    ∙ ap (λ (t : Bool). (t && available (mark_on (block w i) (suc d)) 0) && not (in_pair w k (suc d))) (window_open (block w i) p d)

-- no day is one of pair 0's
in_no_pair : (w : List ℕ) (d : ℕ) → in_pair w 0 d ≡ false
unfolding in_pair
in_no_pair w d = refl

-- ---- the month

module _ (w night day c : List ℕ) (i : ℕ) (slots : ℕ → Slot) (a : Accepted w) (l : i < nurses w) where
  -- by night
  night_cost : Shows Nights w slots (columns_of night day) → (p d : ℕ) → d < days w
      → night_with w night day i d (has (days_of p) d) (free_on w i p (suc d))
      ≡ (short_on w 0 (at_night w (exchanged slots i p) d) d + short_on w 1 (available_in w (exchanged slots i p) d) d) + over_on w 0 (at_night w (exchanged slots i p) d) d
  unfolding night_with
  night_cost s p d h =
      let f = put (has (get_or night d 0)) i (has (days_of p) d) in
      let g = put (has (get_or day d 0)) i (free_on w i p (suc d)) in
      let x = night_after w slots i p l d _ (s.night_shown d h) in
      let y = available_after w slots i p l d _ (s.available_shown d h) in
      omega (
        arith,
        cost_both (weights_of w 0) (member_sets w) (needs w d) 0 f,
        cost_low (weights_of w 1) (member_sets w) (needs w d) 1 g,
        short_same w a 0 d f _ x,
        over_same w a 0 d f _ x,
        short_same w a 1 d g _ y,
      )

  -- by day
  day_cost : Shows Days w slots (columns_of night day) → (q d : ℕ) → d < days w
      → day_with w day i d (has (days_of q) d) ≡ short_on w 1 (at_day w (exchanged slots i q) d) d + over_on w 1 (at_day w (exchanged slots i q) d) d
  unfolding day_with
  day_cost s q d h =
      let f = put (has (get_or day d 0)) i (has (days_of q) d) in
      let x = day_after w slots i q l d _ (s.day_shown d h) in
      omega (arith, cost_both (weights_of w 1) (member_sets w) (needs w d) 1 f, short_same w a 1 d f _ x, over_same w a 1 d f _ x)

  day_trials : Shows Days w slots (columns_of night day) → DayCosts w day i c → DayTrials w c (λ q. rest (day_parts w (exchanged slots i q)))
  unfolding trial_of day_at day_parts
  day_trials s k = record {
    worked = λ q.
        sum_ext (days w) _ _ (λ d h.
        day_state (day_with w day i d) (has (start_set 0 q) (d + 2)) (has (start_set 0 q) (d + 1) || has (start_set 0 q) d) (k.at_night d h) (k.at_open d h) (k.at_none d h)
        ∙ ap (day_with w day i d) (start_digit 0 q d (omega arith) ∙ ap (λ (y : ℕ). has y d) (sym (days_of_pattern q 0 (omega arith))))
        ∙ day_cost s (unpaired q) d h)
        ∙ sum_add (days w) _ _;
  }

  module _ (workable : ℕ) (s : Shows Nights w slots (columns_of night day)) (k : NightCosts w night day i workable c) (m : WorkableDays w i workable) where
    -- one day, off or not as the pattern's pair says
    night_day : (p n d : ℕ) (off : Bool) → n < 2 ^ 32 → d < days w → off ≡ in_pair w n (suc d)
        → cond (has (start_set (before_of (block w i)) p) (d + 2)) (night_on c d)
        (cond off (none_on c d) (cond (has (start_set (before_of (block w i)) p) (d + 1) || has (start_set (before_of (block w i)) p) d) (none_on c d) (open_on c d)))
        ≡ (short_on w 0 (at_night w (exchanged slots i (pattern p n)) d) d + short_on w 1 (available_in w (exchanged slots i (pattern p n)) d) d)
        + over_on w 0 (at_night w (exchanged slots i (pattern p n)) d) d
    night_day p n d off few h e =
        let x = has (start_set (before_of (block w i)) p) in
        night_state (night_with w night day i d) (x (d + 2)) (x (d + 1)) (x d) off (has workable d) (k.at_night d h) (k.at_open d h) (k.at_none d h)
        ∙ ap₂ (night_with w night day i d)
        (start_digit (before_of (block w i)) p d (before_small (block w i)) ∙ ap (λ (y : ℕ). has y d) (sym (days_of_pattern p n few)))
        (ap₂ (λ (t u : Bool). ((not (x (d + 2)) && (not (x (d + 1)) && not (x d))) && t) && not u) (m d h) e ∙ sym (free_window w i p n d few))
        ∙ night_cost s (pattern p n) d h

    -- a day costs no less with her neither at night nor available, since day highs are ignored
    night_lost : (d : ℕ) → d < days w → open_on c d ≤ none_on c d
    unfolding night_with
    night_lost d h = rw (k.at_open d h, k.at_none d h) (go (has workable d))
      where
        go : (t : Bool) → night_with w night day i d false t ≤ night_with w night day i d false false
        go true = add-le-add (le_refl _) (cost_falls (weights_of w 1) (member_sets w) (needs w d) 1 i (has (get_or day d 0)) (omega (arith, a.nurses_most)))
        go false = le_refl _

    night_trials : NightTrials w (before_of (block w i)) c (λ p. rest (night_parts w (exchanged slots i p)))
    unfolding trial_of day_at trial_without day_without night_parts
    night_trials = record {
      alone = λ p. sum_ext (days w) _ _ (λ d h. night_day p 0 d false (omega arith) h (sym (in_no_pair w (suc d)))) ∙ sum_add (days w) _ _;
      paired = λ p n off few o. sum_ext (days w) _ _ (λ d h. night_day p n d (has off d) few h (o d h)) ∙ sum_add (days w) _ _;
      lost = night_lost;
    }

-- in either search
pub cost_trials : (which : Search) (w night day c : List ℕ) (i workable before : ℕ) (slots : ℕ → Slot) → Accepted w → i < nurses w
    → Shows which w slots (columns_of night day) → CostsOf which w night day i workable c → (which ≡ Nights → WorkableDays w i workable) → (which ≡ Nights → before ≡ before_of (block w i))
    → CostTrials which w before c (λ p. rest (parts_in which w (exchanged slots i p)))
cost_trials Nights w night day c i workable before slots a l s k m e =
    subst (λ (x : ℕ). NightTrials w x c (λ p. rest (night_parts w (exchanged slots i p)))) (sym (e refl)) (night_trials w night day c i slots a l workable s k (m refl))
cost_trials Days w night day c i workable before slots a l s k m e = day_trials w night day c i slots a l s k
