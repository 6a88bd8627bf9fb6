use Rattle.recordwords.proofs.PartLaws.{RemovalsTo}
use Rattle.recordwords.proofs.put_removals.Given as goal

abbrev pub invariant-loop-j : goal.invariant-loop-j
invariant-loop-j l = RemovalsTo l.removals l.fn.words l.words l.j
