-- The roster check: what its yes stands for.
use Rattle.std.specs.Prelude.{Bool, true, ◌≡◌, List, ℕ, zero, suc, ◌+◌, ◌*◌, ◌≤◌, ◌<◌, eqb, get_or, take, drop}
use Rattle.fields.specs.Fields.{nurses, days, groups, needs, need, low, high}
use Rattle.numbers.specs.Patterns.{days_of}
use Rattle.nights.specs.Own.{own_pattern}
use Rattle.days.specs.Days.{day_rule_of}
use Rattle.penalty.specs.Penalty.{on_duty, members}
use Rattle.letters.specs.Letters.{letter, row_letters}

-- ---- the rules

-- nurse i's row of a roster
abbrev pub row_of : List ℕ → List ℕ → ℕ → List ℕ
row_of w roster i = take (days w) (drop (i * days w) roster)

-- her row follows from patterns: one of hers, a night pattern and a pair, and a day pattern of hers over it
pub record Follows (w roster : List ℕ) (i : ℕ) : Type 0 where
  pub pattern : ℕ
  pub days : ℕ
  pub pattern_hers : own_pattern w i pattern ≡ true
  pub days_hers : day_rule_of w i pattern days ≡ true
  pub row : row_of w roster i ≡ row_letters w i (days_of pattern) days

-- on N days by night (k 0), on `-` days by day (k 1)
abbrev pub duty_letter : ℕ → ℕ
duty_letter zero = letter 2
duty_letter (suc k) = letter 1

-- nurse i has letter c on the day of index d, in a roster of n days
unfoldable pub lettered : List ℕ → ℕ → ℕ → ℕ → ℕ → Bool
lettered roster n d c i = eqb (get_or roster (i * n + d) 0) c

-- nurse i has that duty on the day of index d
abbrev pub at_duty : List ℕ → List ℕ → ℕ → ℕ → ℕ → Bool
at_duty w roster k d = lettered roster (days w) d (duty_letter k)

-- every row follows from patterns, and every day's needs, lows and highs hold
pub record Holds (w roster : List ℕ) : Type 0 where
  pub rows : (i : ℕ) → i < nurses w → Follows w roster i
  pub needs_met : (k d : ℕ) → k < 2 → d < days w → need (needs w d) k ≤ on_duty w (at_duty w roster k d)
  pub lows_met : (k d g : ℕ) → k < 2 → d < days w → g < groups w → low (needs w d) k g ≤ members w (at_duty w roster k d) g
  pub highs_met : (k d g : ℕ) → k < 2 → d < days w → g < groups w → members w (at_duty w roster k d) g ≤ high (needs w d) k g
