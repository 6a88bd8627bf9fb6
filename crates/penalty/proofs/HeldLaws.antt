-- A penalty of zero means that nothing is broken, and nothing broken means a penalty of zero.
use Rattle.std.specs.Prelude.{◌≡◌, refl, Bool, true, false, List, ℕ, ◌+◌, ◌-◌, ◌*◌, ◌≤◌, ◌<◌}
use Rattle.std.proofs.Common.{ap, ◌∙◌, mul-le-mul, le_refl, mul-zero, arith}
use Rattle.numbers.specs.Sum.{sum_to, one_if}
use Rattle.numbers.proofs.SumLaws.{sum_none, sum_none_at}
use Rattle.fields.specs.Fields.{Accepted, nurses, days, groups, weight, needs, need, low, high}
use Rattle.history.specs.Slot.{Slot, is_none}
use Rattle.penalty.specs.Penalty.{on_duty, members, short_on, over_on, unplaced_in, at_night, available_in, at_day, night_parts, night_penalty, day_parts, day_penalty}
use Rattle.penalty.specs.Held.{LowsHeld, HighsHeld, AllPlaced, NightHeld, DayHeld}

-- a weight is not zero
weighed : (a b : ℕ) → 1 ≤ a → a * b ≡ 0 → b ≡ 0
weighed a b h e = omega (arith, mul-le-mul h (le_refl b))

weightless : (a b : ℕ) → b ≡ 0 → a * b ≡ 0
weightless a b e = ap (λ (x : ℕ). a * x) e ∙ mul-zero a

module _ (w : List ℕ) (k d : ℕ) (on : ℕ → Bool) where
  short_zero : Accepted w → k < 2 → short_on w k on d ≡ 0 → LowsHeld w k on d
  unfolding short_on
  short_zero a h e =
      let x : weight w (3 * k) * (need (needs w d) k - on_duty w on) ≡ 0 = omega arith in
      let y : sum_to (groups w) (λ g. weight w (3 * k + 1) * (low (needs w d) k g - members w on g)) ≡ 0 = omega arith in
      record {
        need_held = (let z = weighed (weight w (3 * k)) (need (needs w d) k - on_duty w on) (a.weight_some (3 * k) (omega arith)) x in omega arith);
        low_held = λ g l. (let z = weighed (weight w (3 * k + 1)) (low (needs w d) k g - members w on g) (a.weight_some (3 * k + 1) (omega arith)) (sum_none_at (groups w) _ y g l) in omega arith);
      }

  short_held : LowsHeld w k on d → short_on w k on d ≡ 0
  unfolding short_on
  short_held h =
      let x = weightless (weight w (3 * k)) (need (needs w d) k - on_duty w on) (omega (arith, h.need_held)) in
      let y = sum_none (groups w) (λ g. weight w (3 * k + 1) * (low (needs w d) k g - members w on g))
      (λ g l. weightless (weight w (3 * k + 1)) (low (needs w d) k g - members w on g) (omega (arith, h.low_held g l))) in
      omega arith

  over_zero : Accepted w → k < 2 → over_on w k on d ≡ 0 → HighsHeld w k on d
  unfolding over_on
  over_zero a h e g l =
      let z = weighed (weight w (3 * k + 2)) (members w on g - high (needs w d) k g) (a.weight_some (3 * k + 2) (omega arith)) (sum_none_at (groups w) _ e g l) in
      omega arith

  over_held : HighsHeld w k on d → over_on w k on d ≡ 0
  unfolding over_on
  over_held h =
      sum_none (groups w) (λ g. weight w (3 * k + 2) * (members w on g - high (needs w d) k g))
      (λ g l. weightless (weight w (3 * k + 2)) (members w on g - high (needs w d) k g) (omega (arith, h g l)))

not_one : (b : Bool) → one_if b ≡ 0 → b ≡ false
not_one true e = absurd (omega arith)
not_one false e = refl

module _ (w : List ℕ) (slots : ℕ → Slot) where
  pub placed_zero : unplaced_in w slots ≡ 0 → AllPlaced w slots
  unfolding unplaced_in
  placed_zero e i l = not_one (is_none (slots i)) (sum_none_at (nurses w) _ e i l)

  pub placed_held : AllPlaced w slots → unplaced_in w slots ≡ 0
  unfolding unplaced_in
  placed_held h = sum_none (nurses w) (λ i. one_if (is_none (slots i))) (λ i l. ap one_if (h i l))

  pub night_zero : Accepted w → night_penalty w slots ≡ 0 → NightHeld w slots
  unfolding night_penalty night_parts
  night_zero a e =
      let s : sum_to (days w) (λ d. short_on w 0 (at_night w slots d) d + short_on w 1 (available_in w slots d) d) ≡ 0 = omega arith in
      let o : sum_to (days w) (λ d. over_on w 0 (at_night w slots d) d) ≡ 0 = omega arith in
      let u : unplaced_in w slots ≡ 0 = omega arith in
      record {
        nights = λ d l. short_zero w 0 d (at_night w slots d) a (omega arith) (omega (arith, sum_none_at (days w) _ s d l));
        highs = λ d l. over_zero w 0 d (at_night w slots d) a (omega arith) (sum_none_at (days w) _ o d l);
        available = λ d l. short_zero w 1 d (available_in w slots d) a (omega arith) (omega (arith, sum_none_at (days w) _ s d l));
        placed = placed_zero u;
      }

  pub night_held : NightHeld w slots → night_penalty w slots ≡ 0
  unfolding night_penalty night_parts
  night_held h =
      let s = sum_none (days w) (λ d. short_on w 0 (at_night w slots d) d + short_on w 1 (available_in w slots d) d)
      (λ d l. omega (arith, short_held w 0 d (at_night w slots d) (h.nights d l), short_held w 1 d (available_in w slots d) (h.available d l))) in
      let o = sum_none (days w) (λ d. over_on w 0 (at_night w slots d) d) (λ d l. over_held w 0 d (at_night w slots d) (h.highs d l)) in
      omega (arith, s, o, placed_held h.placed)

  pub day_zero : Accepted w → day_penalty w slots ≡ 0 → DayHeld w slots
  unfolding day_penalty day_parts
  day_zero a e =
      let s : sum_to (days w) (λ d. short_on w 1 (at_day w slots d) d) ≡ 0 = omega arith in
      let o : sum_to (days w) (λ d. over_on w 1 (at_day w slots d) d) ≡ 0 = omega arith in
      let u : unplaced_in w slots ≡ 0 = omega arith in
      record {
        worked = λ d l. short_zero w 1 d (at_day w slots d) a (omega arith) (sum_none_at (days w) _ s d l);
        highs = λ d l. over_zero w 1 d (at_day w slots d) a (omega arith) (sum_none_at (days w) _ o d l);
        placed = placed_zero u;
      }

  pub day_held : DayHeld w slots → day_penalty w slots ≡ 0
  unfolding day_penalty day_parts
  day_held h =
      let s = sum_none (days w) (λ d. short_on w 1 (at_day w slots d) d) (λ d l. short_held w 1 d (at_day w slots d) (h.worked d l)) in
      let o = sum_none (days w) (λ d. over_on w 1 (at_day w slots d) d) (λ d l. over_held w 1 d (at_day w slots d) (h.highs d l)) in
      omega (arith, s, o, placed_held h.placed)
