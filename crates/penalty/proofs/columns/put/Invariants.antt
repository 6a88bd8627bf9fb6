use Rattle.std.proofs.Common.{take}
use Rattle.penalty.proofs.ColumnLaws.{PutUpTo}
use Rattle.penalty.proofs.columns.put.Given as goal

abbrev pub invariant-loop-d : goal.invariant-loop-d
invariant-loop-d l = PutUpTo (take l.n l.fn.cols) l.col-items l.i l.set l.d
