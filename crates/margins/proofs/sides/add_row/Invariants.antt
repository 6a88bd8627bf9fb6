use Rattle.margins.proofs.SideLaws.{RowTo}
use Rattle.margins.proofs.sides.add_row.Given as goal

abbrev pub invariant-loop-e : goal.invariant-loop-e
invariant-loop-e l = RowTo l.part l.from l.fn.sums l.sums l.e
