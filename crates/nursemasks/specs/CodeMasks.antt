-- A nurse's marks, bounds and last days as sets of days: day d of the month is member d, and day 0 is member 0.
use Rattle.std.specs.Prelude.{◌≡◌, Bool, false, cond, not, List, ℕ, zero, suc, ◌+◌, ◌-◌, ◌/◌, ◌^◌, ◌≤◌, ◌<◌, eqb}
use Rattle.std.specs.Int.Bits.{bit_or}
use Rattle.numbers.specs.Sum.{one_if}
use Rattle.numbers.specs.Digits.{has, number_of}
use Rattle.fields.specs.Fields.{duty, least_nights_of, most_nights_of, mark_on}
use Rattle.rows.specs.Rows.{allow_table, allows, available, available_on, row_state}
use Rattle.fields.specs.declared.rules.Rules.{Rules}
use Rattle.nursemasks.specs.declared.masks.Bars.{Bars}
use Rattle.nursemasks.specs.declared.masks.Masks.{Masks}
use Rattle.nursemasks.specs.declared.masks.Row.{Row}
use Rattle.fields.specs.Rules.{gap}
use Rattle.nights.specs.Hers.{last_run}

-- her mark of day d bars the state, by a table of what each mark allows
abbrev pub barred : List (List ℕ) → List ℕ → ℕ → ℕ → Bool
barred table b state zero = false
barred table b state (suc d) = not (allows table (mark_on b (suc d)) state)

-- her mark of day d lets her work it where it is open
abbrev pub workable : List ℕ → ℕ → Bool
workable b zero = false
workable b (suc d) = available (mark_on b (suc d)) 0

-- the days, from 0, on which a pattern of the common list may not start: its own mark bars N, or the next day's bars n
abbrev pub never : List (List ℕ) → ℕ → List ℕ → ℕ
never table n b = bit_or (number_of (barred table b 1) (suc n) / 2) (number_of (barred table b 2) (suc n) / 4)

-- how many of the month's first days are near to last month's run: a start after them is a new run, and far enough from it
abbrev pub near : Rules → ℕ → ℕ → ℕ
near r prev run = cond (eqb run 0) 0 (prev + gap r run - 5)

abbrev pub bars_of : List (List ℕ) → ℕ → List ℕ → Bars
bars_of table n b = record {
  opened = number_of (barred table b 0) (suc n);
  night = number_of (barred table b 1) (suc n);
  second = number_of (barred table b 2) (suc n);
  rest = number_of (barred table b 3) (suc n);
}

unfoldable pub masks_by : List (List ℕ) → Rules → ℕ → List ℕ → Masks
masks_by table r n b = record {
  bars = bars_of table n b;
  never = never table n b;
  workable = number_of (workable b) (suc n);
  night = one_if (eqb (duty b 6) 2);
  second = one_if (eqb (duty b 6) 3);
  near = 2 ^ near r (last_run b).0 (last_run b).1 - 1;
  last = record { prev = (last_run b).0; run = (last_run b).1 };
  least = least_nights_of b;
  most = most_nights_of b;
}

-- by document 01's table
abbrev pub masks_of : Rules → ℕ → List ℕ → Masks
masks_of r n b = masks_by allow_table r n b

-- what code leans on: digits of 0 or 1, days within the month, and a run of the seven days
pub record Masked (m : Masks) : Type 0 where
  pub night : m.night ≤ 1
  pub second : m.second ≤ 1
  pub workable : m.workable < 2 ^ 32
  pub prev : m.last.prev ≤ 7
  pub run : m.last.run ≤ 7

-- the row's N, n and R days are those of these states
pub record RowOf (b : List ℕ) (p : ℕ) (x : Row) : Type 0 where
  pub night : (d : ℕ) → d < 64 → has x.night d ≡ eqb (row_state b p d) 1
  pub second : (d : ℕ) → d < 64 → has x.second d ≡ eqb (row_state b p d) 2
  pub rest : (d : ℕ) → d < 64 → has x.rest d ≡ eqb (row_state b p d) 3
  pub fits : bit_or (bit_or x.night x.second) x.rest < 2 ^ 64

-- q is the set of the days on which she is available under p
pub record AvailableDays (b : List ℕ) (n p q : ℕ) : Type 0 where
  pub within : q < 2 ^ n
  pub each : (d : ℕ) → d < n → has q d ≡ available_on b p (suc d)
