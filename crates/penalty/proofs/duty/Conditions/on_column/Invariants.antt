use Rattle.numbers.specs.Digits.{has}
use Rattle.fields.specs.Shifts.{place}
use Rattle.penalty.proofs.DutyLaws.{GroupsSummed}
use Rattle.penalty.proofs.duty.Conditions.on_column.Given as goal

abbrev pub invariant-loop-g : goal.invariant-loop-g
invariant-loop-g l = GroupsSummed l.weights l.self.sets.now l.self.needs.now (place l.self.shift) (has l.column) l.g l.sum.short l.sum.over
