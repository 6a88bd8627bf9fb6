use Rattle.tries.specs.CodeTries.{allowed_by, Tells}
use Rattle.tries.proofs.TryLaws.{NightsTo}
use Rattle.tries.proofs.Trials.over_nights.Given as goal

abbrev pub invariant-loop-nights : goal.invariant-loop-nights
invariant-loop-nights g l =
    let x = l.self.tried.now in
    let w = x.nurse.ward.numbers.now in
    NightsTo (Tells (goal.F-post g l.hers) w x.nurse.index l.list) w l.self.costs.now.costs l.self.table.now x.before x.others x.nurse.index (allowed_by x.barred.now) l.initial.best l.list l.nights-index l.best
