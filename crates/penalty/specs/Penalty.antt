-- The penalty: what is short of the needs and lows, what is above the highs, and the nurses not yet placed.
-- Nurses, groups and days count from 0 here; k is 0 for night and 1 for day.
use Rattle.std.specs.Prelude.{Bool, ◌&&◌, List, ℕ, suc, ◌+◌, ◌-◌, ◌*◌, get_or}
use Rattle.std.proofs.Math.Option.{none, some}
use Rattle.numbers.specs.Sum.{sum_to, count_to}
use Rattle.numbers.specs.Digits.{has, number_of}
use Rattle.numbers.specs.Patterns.{pattern, days_of}
use Rattle.history.specs.declared.Search.{Search}
use Rattle.history.specs.declared.Search.TheVariants.{Nights, Days}
use Rattle.history.specs.Slot.{Slot, is_none, unplaced_cost}
use Rattle.fields.specs.Fields.{nurses, days, groups, weight, block, member_sets, needs, need, low, high}
use Rattle.rows.specs.Rows.{fixed_night, fixed_day}
use Rattle.rows.specs.Pairs.{free_on}
use Rattle.penalty.specs.declared.total.Penalty.{Penalty}

-- ---- one duty of one day: `on i` says whether nurse i counts

-- the nurses who count, all of them and those of group g
unfoldable pub on_duty : List ℕ → (ℕ → Bool) → ℕ
on_duty w on = count_to (nurses w) on

unfoldable pub members : List ℕ → (ℕ → Bool) → ℕ → ℕ
members w on g = count_to (nurses w) (λ i. on i && has (get_or (member_sets w) g 0) i)

-- w for each nurse short of the need; for each group u for each member short of low
unfoldable pub short_on : List ℕ → ℕ → (ℕ → Bool) → ℕ → ℕ
short_on w k on d =
    weight w (3 * k) * (need (needs w d) k - on_duty w on)
    + sum_to (groups w) (λ g. weight w (3 * k + 1) * (low (needs w d) k g - members w on g))

-- for each group v for each member above high
unfoldable pub over_on : List ℕ → ℕ → (ℕ → Bool) → ℕ → ℕ
over_on w k on d = sum_to (groups w) (λ g. weight w (3 * k + 2) * (members w on g - high (needs w d) k g))

-- ---- the parts

pub record Parts : Type 0 where
  pub short : ℕ
  pub over : ℕ
  pub unplaced : ℕ

-- the parts that the code's value says
abbrev pub parts_of : Penalty → Parts
parts_of p = record { short = p.short; over = p.over; unplaced = p.unplaced }

abbrev pub total : Parts → ℕ
total x = x.short + x.over + unplaced_cost * x.unplaced

-- without the unplaced
abbrev pub rest : Parts → ℕ
rest x = x.short + x.over

unfoldable pub unplaced_in : List ℕ → (ℕ → Slot) → ℕ
unplaced_in w slots = count_to (nurses w) (λ i. is_none (slots i))

-- ---- the night search: nights count on N days, day counts are of available nurses, and day highs are ignored

-- the pattern that nurse i counts with: hers, or while she is unplaced her marks 3 as starts, with no pair
abbrev pub starts_in : List ℕ → ℕ → Slot → ℕ
starts_in w i (some p) = p
starts_in w i none = pattern (number_of (fixed_night (block w i)) (days w)) 0

abbrev pub at_night : List ℕ → (ℕ → Slot) → ℕ → ℕ → Bool
at_night w slots d i = has (days_of (starts_in w i (slots i))) d

abbrev pub available_in : List ℕ → (ℕ → Slot) → ℕ → ℕ → Bool
available_in w slots d i = free_on w i (starts_in w i (slots i)) (suc d)

unfoldable pub night_parts : List ℕ → (ℕ → Slot) → Parts
night_parts w slots = record {
  short = sum_to (days w) (λ d. short_on w 0 (at_night w slots d) d + short_on w 1 (available_in w slots d) d);
  over = sum_to (days w) (λ d. over_on w 0 (at_night w slots d) d);
  unplaced = unplaced_in w slots;
}

unfoldable pub night_penalty : List ℕ → (ℕ → Slot) → ℕ
night_penalty w slots = total (night_parts w slots)

-- ---- the day search: the night terms are zero

-- the pattern that nurse i counts with: hers, or while she is unplaced her marks 2 as worked days; it has no pair
abbrev pub worked_in : List ℕ → ℕ → Slot → ℕ
worked_in w i (some q) = q
worked_in w i none = pattern (number_of (fixed_day (block w i)) (days w)) 0

abbrev pub at_day : List ℕ → (ℕ → Slot) → ℕ → ℕ → Bool
at_day w slots d i = has (days_of (worked_in w i (slots i))) d

unfoldable pub day_parts : List ℕ → (ℕ → Slot) → Parts
day_parts w slots = record {
  short = sum_to (days w) (λ d. short_on w 1 (at_day w slots d) d);
  over = sum_to (days w) (λ d. over_on w 1 (at_day w slots d) d);
  unplaced = unplaced_in w slots;
}

unfoldable pub day_penalty : List ℕ → (ℕ → Slot) → ℕ
day_penalty w slots = total (day_parts w slots)

-- ---- either search: by night or by day

abbrev pub parts_in : Search → List ℕ → (ℕ → Slot) → Parts
parts_in Nights w slots = night_parts w slots
parts_in Days w slots = day_parts w slots
