use Rattle.margins.proofs.SideLaws.{SidesTo}
use Rattle.margins.proofs.sides.Sides.of.Given as goal

abbrev pub invariant-loop-d : goal.invariant-loop-d
invariant-loop-d l = SidesTo l.her.ward.numbers.now l.cols l.i l.part l.n l.d l.sides
