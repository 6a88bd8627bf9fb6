-- What a trial by a nurse's costs comes to: the penalty counted afresh after the exchange.
use Rattle.std.specs.Prelude.{◌≡◌, cond, List, ℕ, suc, ◌+◌, ◌*◌, ◌^◌, ◌≤◌, ◌<◌, eqb}
use Rattle.numbers.specs.Digits.{has}
use Rattle.numbers.specs.Patterns.{pattern, unpaired}
use Rattle.fields.specs.Fields.{days, block, duty, mark_on}
use Rattle.rows.specs.Rows.{available}
use Rattle.rows.specs.Pairs.{in_pair}
use Rattle.history.specs.declared.Search.{Search}
use Rattle.history.specs.declared.Search.TheVariants.{Nights, Days}
use Rattle.tables.specs.CodeTables.{open_on, none_on, trial_of, trial_without}

-- the starts of the two days before the month, as far as they bear on it: bit 1 where day 0 is N, bit 0 where it is n
abbrev pub before_of : List ℕ → ℕ
before_of b = cond (eqb (duty b 6) 2) 2 (cond (eqb (duty b 6) 3) 1 0)

-- the set by which a trial of the night pattern p goes
abbrev pub start_set : ℕ → ℕ → ℕ
start_set before p = p * 4 + before

-- the days that nurse i's marks let her work where they are open
abbrev pub WorkableDays : List ℕ → ℕ → ℕ → Type 0
WorkableDays w i set = (d : ℕ) → d < days w → has set d ≡ available (mark_on (block w i) (suc d)) 0

-- off is the set of the days of pair k
abbrev pub OffDays : List ℕ → ℕ → ℕ → Type 0
OffDays w k off = (d : ℕ) → d < days w → has off d ≡ in_pair w k (suc d)

-- by night
pub record NightTrials (w : List ℕ) (before : ℕ) (c : List ℕ) (cost : ℕ → ℕ) : Type 0 where
  pub alone : (p : ℕ) → trial_of c (days w) (start_set before p) ≡ cost (unpaired p)
  pub paired : (p k off : ℕ) → k < 2 ^ 32 → OffDays w k off → trial_without c (days w) (start_set before p) off ≡ cost (pattern p k)
  -- a day that she loses never costs less, since day highs are ignored
  pub lost : (d : ℕ) → d < days w → open_on c d ≤ none_on c d

-- by day
pub record DayTrials (w c : List ℕ) (cost : ℕ → ℕ) : Type 0 where
  pub worked : (q : ℕ) → trial_of c (days w) (start_set 0 q) ≡ cost (unpaired q)

abbrev pub CostTrials : Search → List ℕ → ℕ → List ℕ → (ℕ → ℕ) → Type 0
CostTrials Nights w before c cost = NightTrials w before c cost
CostTrials Days w before c cost = DayTrials w c cost
