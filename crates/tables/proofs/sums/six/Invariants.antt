use Rattle.tables.proofs.SumLaws.{SixTo}
use Rattle.tables.proofs.sums.six.Given as goal

abbrev pub invariant-loop-j : goal.invariant-loop-j
invariant-loop-j l = SixTo l.c l.b l.initial.t l.t l.j
