use Rattle.fields.specs.Shifts.{place}
use Rattle.margins.proofs.MarginLaws.{DaysTo}
use Rattle.margins.proofs.part.Part.fill.Given as goal

abbrev pub invariant-loop-d : goal.invariant-loop-d
invariant-loop-d l = DaysTo l.w.numbers.now l.weights (place l.shift) l.cols l.self l.d
