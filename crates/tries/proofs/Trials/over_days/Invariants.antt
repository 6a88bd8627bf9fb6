use Rattle.std.specs.Prelude.{◌≡◌, List, map, ℕ, ◌+◌, ◌*◌}
use Rattle.std.proofs.Common.{take}
use Rattle.numbers.specs.Patterns.{unpaired}
use Rattle.best.specs.CodeBest.{over_list}
use Rattle.tries.specs.CodeTries.{allowed_by, DayTable}
use Rattle.tries.proofs.Trials.over_days.Given as goal

abbrev pub invariant-loop-days : goal.invariant-loop-days
invariant-loop-days l =
    let x = l.self.tried.now in
    (w c : List ℕ) (cost : ℕ → ℕ) → DayTable w c l.self.table.now cost
    → l.best ≡ over_list (allowed_by x.barred.now) (λ q. cost q + 10000000 * x.others) x.nurse.index l.initial.best (take l.days-index (map unpaired l.list))
