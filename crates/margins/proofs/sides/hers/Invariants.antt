use Rattle.margins.proofs.SideLaws.{HersTo}
use Rattle.margins.proofs.sides.hers.Given as goal

abbrev pub invariant-loop-g : goal.invariant-loop-g
invariant-loop-g l = HersTo l.sets l.i l.part l.g l.sums
