use Rattle.margins.proofs.CostLaws.{NightTo}
use Rattle.margins.proofs.costs.night_costs.Given as goal

abbrev pub invariant-loop-d : goal.invariant-loop-d
invariant-loop-d l = NightTo l.x.sides l.y.sides l.workable l.n l.d l.costs
