use Rattle.std.proofs.Common.{get_or, ◌+◌}
use Rattle.tables.proofs.SumLaws.{RaisedTo}
use Rattle.tables.proofs.sums.raise.Given as goal

abbrev pub invariant-loop-y : goal.invariant-loop-y
invariant-loop-y l = RaisedTo l.fn.t l.t l.to (λ k. get_or l.fn.t (l.from + k) 0 + l.x) l.y
