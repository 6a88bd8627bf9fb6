use Rattle.removals.proofs.GivenLaws.{Bars}
use Rattle.removals.proofs.bars_of.Given as goal

abbrev pub invariant-loop-x : goal.invariant-loop-x
invariant-loop-x l = Bars l.held l.number l.fn.current l.bars l.count l.x-index
