use Rattle.layout.specs.CodePlace.{tree}
use Rattle.ward.proofs.WriteLaws.{Walked}
use Rattle.ward.proofs.questions.Given as goal

abbrev pub invariant-loop-i : goal.invariant-loop-i
invariant-loop-i l = Walked l.ward l.i l.bytes (tree l.c)
