-- How large a penalty can be, and what it is made of.
use Rattle.std.specs.Prelude.{◌≡◌, Bool, ◌&&◌, List, ℕ, ◌+◌, ◌-◌, ◌*◌, ◌≤◌, ◌<◌, get_or}
use Rattle.std.proofs.Common.{sym, ap, ◌∙◌, mul-le-mul, le_trans, arith}
use Rattle.std.proofs.Math.Decide.{dec_lt}
use Rattle.fields.specs.Sizes.{nurse_places}
use Rattle.numbers.specs.Sum.{one_if}
use Rattle.numbers.specs.Digits.{has}
use Rattle.numbers.proofs.SumLaws.{sum_add, sum_le, sum_change, count_le}
use Rattle.fields.specs.Fields.{Accepted, nurses, days, groups, weight, member_sets, needs, need, low, high}
use Rattle.history.specs.Slot.{Slot, is_none, exchanged}
use Rattle.penalty.specs.Penalty.{rest, on_duty, members, short_on, over_on, unplaced_in, at_night, available_in, at_day, night_parts, night_penalty, day_parts, day_penalty}
use Rattle.penalty.proofs.ColumnLaws.{exchanged_here, exchanged_there}

-- ---- one duty of one day

-- a group is short of low or above high, and not both
group_most : (u v low high count : ℕ) → u ≤ 100 → v ≤ 100 → low ≤ high → low ≤ 48 → count ≤ nurse_places → u * (low - count) + v * (count - high) ≤ 4800
group_most u v low high count hu hv h p q = go (dec_lt count low)
  where
    go : Dec (count < low) → u * (low - count) + v * (count - high) ≤ 4800
    go (yes s) =
        let z : count - high ≡ 0 = omega arith in
        let t : low - count ≤ nurse_places = omega arith in
        rw z (omega (arith, mul-le-mul hu t))
    go (no s) =
        let z : low - count ≡ 0 = omega arith in
        let t : count - high ≤ 48 = omega arith in
        rw z (omega (arith, mul-le-mul hv t))

module _ (w : List ℕ) (a : Accepted w) (k d : ℕ) (on : ℕ → Bool) (hk : k < 2) (hd : d < days w) where
  need_le : weight w (3 * k) * (need (needs w d) k - on_duty w on) ≤ 4800
  need_le =
      let s : need (needs w d) k - on_duty w on ≤ 48 = omega (arith, a.needs_most d k hd) in
      mul-le-mul (a.weight_most (3 * k) (omega arith)) s

  pub members_le : (g : ℕ) → members w on g ≤ nurse_places
  unfolding members
  members_le g = le_trans (count_le (nurses w) (λ i. on i && has (get_or (member_sets w) g 0) i)) a.nurses_most

  pub short_most : short_on w k on d ≤ 81600
  unfolding short_on
  short_most =
      let s = sum_le (groups w) 4800 (λ g. weight w (3 * k + 1) * (low (needs w d) k g - members w on g))
      (λ g l. let t : low (needs w d) k g - members w on g ≤ 48 = omega (arith, a.needs_most d (4 * g + 2 * k + 2) hd) in
      mul-le-mul (a.weight_most (3 * k + 1) (omega arith)) t) in
      omega (arith, need_le, s, a.groups_most)

  pub duty_most : short_on w k on d + over_on w k on d ≤ 81600
  unfolding short_on over_on
  duty_most =
      let lows : ℕ → ℕ = λ g. weight w (3 * k + 1) * (low (needs w d) k g - members w on g) in
      let highs : ℕ → ℕ = λ g. weight w (3 * k + 2) * (members w on g - high (needs w d) k g) in
      let s = sum_le (groups w) 4800 (λ g. lows g + highs g)
      (λ g l. group_most (weight w (3 * k + 1)) (weight w (3 * k + 2)) (low (needs w d) k g) (high (needs w d) k g) (members w on g)
      (a.weight_most (3 * k + 1) (omega arith)) (a.weight_most (3 * k + 2) (omega arith)) (a.low_high d k g hd hk l) (a.needs_most d (4 * g + 2 * k + 2) hd) (members_le g)) in
      omega (arith, need_le, s, sum_add (groups w) lows highs, a.groups_most)

-- ---- the month

module _ (w : List ℕ) (slots : ℕ → Slot) (a : Accepted w) where
  pub night_rest_le : rest (night_parts w slots) ≤ 5059200
  unfolding night_parts
  night_rest_le =
      let shorts : ℕ → ℕ = λ d. short_on w 0 (at_night w slots d) d + short_on w 1 (available_in w slots d) d in
      let overs : ℕ → ℕ = λ d. over_on w 0 (at_night w slots d) d in
      let s = sum_le (days w) 163200 (λ d. shorts d + overs d)
      (λ d l. omega (arith, duty_most w a 0 d (at_night w slots d) (omega arith) l, short_most w a 1 d (available_in w slots d) (omega arith) l)) in
      omega (arith, s, sum_add (days w) shorts overs, a.days_most)

  pub day_rest_le : rest (day_parts w slots) ≤ 2529600
  unfolding day_parts
  day_rest_le =
      let shorts : ℕ → ℕ = λ d. short_on w 1 (at_day w slots d) d in
      let overs : ℕ → ℕ = λ d. over_on w 1 (at_day w slots d) d in
      let s = sum_le (days w) 81600 (λ d. shorts d + overs d) (λ d l. duty_most w a 1 d (at_day w slots d) (omega arith) l) in
      omega (arith, s, sum_add (days w) shorts overs, a.days_most)

  pub unplaced_le : unplaced_in w slots ≤ nurse_places
  unfolding unplaced_in
  unplaced_le = le_trans (count_le (nurses w) (λ i. is_none (slots i))) a.nurses_most

  -- the flat cost of the unplaced, and a rest below it
  pub night_split : (night_penalty w slots ≡ 10000000 * unplaced_in w slots + rest (night_parts w slots)) × (rest (night_parts w slots) < 10000000)
  unfolding night_penalty night_parts
  night_split = (omega arith, omega (arith, night_rest_le))

  pub day_split : (day_penalty w slots ≡ 10000000 * unplaced_in w slots + rest (day_parts w slots)) × (rest (day_parts w slots) < 10000000)
  unfolding day_penalty day_parts
  day_split = (omega arith, omega (arith, day_rest_le))

  pub night_total_le : night_penalty w slots ≤ 485059200
  night_total_le = omega (arith, night_split.0, night_rest_le, unplaced_le)

  pub day_total_le : day_penalty w slots ≤ 485059200
  day_total_le = omega (arith, day_split.0, day_rest_le, unplaced_le)

-- an exchange places the nurse, if she was not
pub unplaced_after : (w : List ℕ) (slots : ℕ → Slot) (i p : ℕ) → i < nurses w → unplaced_in w slots ≡ unplaced_in w (exchanged slots i p) + one_if (is_none (slots i))
unfolding unplaced_in
unplaced_after w slots i p l =
    sum_change (nurses w) i (one_if (is_none (slots i))) (λ j. one_if (is_none (slots j))) (λ j. one_if (is_none (exchanged slots i p j))) l
    (λ j q. sym (ap (λ (x : Slot). one_if (is_none x)) (exchanged_there slots i p j q)))
    (sym (ap (λ (x : Slot). one_if (is_none x) + one_if (is_none (slots i))) (exchanged_here slots i p) ∙ zero_left (one_if (is_none (slots i)))))
  where
    zero_left : (x : ℕ) → 0 + x ≡ x
    zero_left x = omega arith
