use Rattle.penalty.proofs.CountLaws.{MonthSums}
use Rattle.penalty.proofs.over_days.Given as goal

abbrev pub invariant-loop-d : goal.invariant-loop-d
invariant-loop-d g l = MonthSums l.search l.w.numbers.now (goal.F-post g l.columns) l.d l.sum.short l.sum.over
