-- The ward's pairs for one nurse as sets of days, day d of the month being member d - 1.
use Rattle.std.specs.Prelude.{◌≡◌, Bool, ◌&&◌, ◌||◌, List, ℕ, suc, ◌≤◌, ◌<◌, eqb, get_or}
use Rattle.std.proofs.Props.{props}
use Rattle.numbers.specs.Digits.{has}
use Rattle.fields.specs.Sizes.{pair_most}
use Rattle.fields.specs.Fields.{block, mark_on, pair_count, pair_day}
use Rattle.rows.specs.Rows.{row_state}
use Rattle.rows.specs.Pairs.{in_pair, rest_mark}
use Rattle.nursemasks.specs.declared.pairs.Pairs.{Pairs}

-- her marks let both days of pair k stand
abbrev pub marks_rest : List ℕ → ℕ → ℕ → Bool
marks_rest w i k = rest_mark (mark_on (block w i) (pair_day w k)) && rest_mark (mark_on (block w i) (suc (pair_day w k)))

-- x is the set of the two days of pair k, or of none where nurse i's marks rule the pair out
unfoldable pub PairDays : List ℕ → ℕ → ℕ → ℕ → Type 0
PairDays w i k x = (d : ℕ) → has x d ≡ (in_pair w k (suc d) && marks_rest w i k)

-- nurse i's pairs, from 1
pub record PairsOf (w : List ℕ) (i : ℕ) (x : Pairs) : Type 0 where
  pub count_is : x.count ≡ pair_count w
  pub count_most : x.count ≤ pair_most
  pub days_are : (k : ℕ) → 1 ≤ k → k ≤ pair_count w → PairDays w i k (get_or x.days k 0)

-- the N and n days of the row of p, as far as a month goes
unfoldable pub BusyDays : List ℕ → ℕ → ℕ → Type 0
BusyDays b p busy = (d : ℕ) → d < 31 → has busy d ≡ (eqb (row_state b p (suc d)) 1 || eqb (row_state b p (suc d)) 2)

-- a fact with one proof at most, so that a struct may carry it
pub pairs_of_prop : (w : List ℕ) (i : ℕ) (x : Pairs) → IsProp (PairsOf w i x)
unfolding PairDays
pairs_of_prop w i x = Prim.hlevel props
