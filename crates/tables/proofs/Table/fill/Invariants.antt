use Rattle.tables.proofs.SumLaws.{FilledTo}
use Rattle.tables.proofs.Table.fill.Given as goal

abbrev pub invariant-loop-b : goal.invariant-loop-b
invariant-loop-b l = FilledTo l.c.costs l.c.days l.self-inside.sums l.b
