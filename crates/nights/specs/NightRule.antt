-- The night rule in document 01's words, over starts as one ordered list. proofs/RuleLaws shows that `hers_of`, which walks the starts, is the same.
use Rattle.std.specs.Prelude.{true, cond, ◌⊎◌, List, ◌++◌, ◌≡◌, ℕ, zero, suc, ◌+◌, ◌^◌, ◌≤◌, ◌<◌, eqb, length, get_or}
use Rattle.numbers.specs.Patterns.{days_of, pair_of}
use Rattle.fields.specs.Fields.{days, block, most_nights, least_nights_of, most_nights_of, mark_on, pair_count, pair_day}
use Rattle.fields.specs.Rules.{rules_of, gap}
use Rattle.fields.specs.declared.rules.Rules.{Rules}
use Rattle.rows.specs.Rows.{allow_table, allows, row_state}
use Rattle.nights.specs.Nights.{starts}
use Rattle.nights.specs.Hers.{shifted, twos}

-- the length of the run that start j, from 0, ends so far: two starts that differ by exactly 2 are of one run
abbrev pub run_to : List ℕ → ℕ → ℕ
run_to xs zero = 1
run_to xs (suc j) = cond (eqb (get_or xs (suc j) 0) (get_or xs j 0 + 2)) (suc (run_to xs j)) 1

-- The starts keep the rule wherever the later one is not among the first `before`.
pub record KeepsRule (r : Rules) (before : ℕ) (xs : List ℕ) : Type 0 where
  -- two starts next to each other differ by exactly 2, or by at least 2 + g, where g goes by the length of the run that the earlier one ends
  pub apart : (j : ℕ) → suc j < length xs → before ≤ suc j
      → (get_or xs (suc j) 0 ≡ get_or xs j 0 + 2) ⊎ (get_or xs j 0 + (2 + gap r (run_to xs j)) ≤ get_or xs (suc j) 0)
  -- a run has at most L starts
  pub run_most : (j : ℕ) → j < length xs → before ≤ j → run_to xs j ≤ r.longest

-- A pattern of the common list: a set of days of the month, of at most V starts that keep the rule.
pub record InCommonList (w : List ℕ) (p : ℕ) : Type 0 where
  pub month : p < 2 ^ days w
  pub most : length (starts (days w) p) ≤ most_nights w
  pub keeps : KeepsRule (rules_of w) 0 (starts (days w) p)

-- It meets what is nurse i's.
pub record MeetsHers (w : List ℕ) (i p : ℕ) : Type 0 where
  -- its starts, with the 2s of her seven days, keep the rule wherever the later start is in the month
  pub keeps_on : KeepsRule (rules_of w) (length (twos (block w i))) (twos (block w i) ++ shifted 7 (starts (days w) p))
  -- her marks allow it
  pub marks : (d : ℕ) → 1 ≤ d → d ≤ days w → allows allow_table (mark_on (block w i) d) (row_state (block w i) p d) ≡ true
  -- its count is within her bounds
  pub least_nights : least_nights_of (block w i) ≤ length (starts (days w) p)
  pub nights_at_most : length (starts (days w) p) ≤ most_nights_of (block w i)

-- nurse i's night pattern: one of the common list that meets what is hers
pub record NightHers (w : List ℕ) (i p : ℕ) : Type 0 where
  pub common : InCommonList w p
  pub meets : MeetsHers w i p

-- a pair's day, by its mark and its state: O or R, under mark 0, 1, 5 or 6
pub record AtRest (mark state : ℕ) : Type 0 where
  pub open_or_owed : (state ≡ 0) ⊎ (state ≡ 3)
  pub marked : (mark ≡ 0) ⊎ ((mark ≡ 1) ⊎ ((mark ≡ 5) ⊎ (mark ≡ 6)))

abbrev pub RestDay : List ℕ → ℕ → ℕ → Type 0
RestDay b p d = AtRest (mark_on b d) (row_state b p d)

-- pair k is nurse i's under the night pattern p: both its days are such days; 0 in a ward without pairs
pub data PairHers (w : List ℕ) (i p k : ℕ) : Type 0 where
  without_pairs : pair_count w ≡ 0 → k ≡ 0 → PairHers w i p k
  both_days : 1 ≤ k → k ≤ pair_count w → RestDay (block w i) p (pair_day w k) → RestDay (block w i) p (suc (pair_day w k)) → PairHers w i p k

-- nurse i's own pattern: a night pattern of hers with a pair of hers
pub record PatternHers (w : List ℕ) (i c : ℕ) : Type 0 where
  pub nights : NightHers w i (days_of c)
  pub pair : PairHers w i (days_of c) (pair_of c)
