use Rattle.std.specs.Prelude.{◌≡◌, ◌&&◌, List, map, ℕ, ◌+◌, ◌-◌, ◌*◌, ◌≤◌}
use Rattle.std.proofs.Common.{take}
use Rattle.numbers.specs.Patterns.{pattern}
use Rattle.fields.specs.Fields.{block, pair_count}
use Rattle.rows.specs.Pairs.{pair_numbers}
use Rattle.nights.specs.Own.{own_pattern}
use Rattle.nursemasks.specs.CodePairs.{PairsOf, BusyDays}
use Rattle.trials.specs.CodeTrials.{before_of, NightTrials}
use Rattle.best.specs.CodeBest.{over_list}
use Rattle.tries.specs.CodeTries.{allowed_by, PatternNeeds}
use Rattle.tries.proofs.Trials.over_pairs.Given as goal

abbrev pub invariant-loop-number : goal.invariant-loop-number
invariant-loop-number l =
    let x = l.self.tried.now in
    let i = x.nurse.index in
    (w : List ℕ) (cost : ℕ → ℕ) → PatternNeeds w l.self.costs.now.days i l.x l.p → PairsOf w i l.pairs → BusyDays (block w i) l.p l.busy → 1 ≤ pair_count w
    → NightTrials w (before_of (block w i)) l.self.costs.now.costs cost
    → l.best ≡ over_list (λ y. own_pattern w i y && allowed_by x.barred.now y) (λ y. cost y + 10000000 * x.others) i l.initial.best (take (l.number - 1) (map (pattern l.p) (pair_numbers w)))
