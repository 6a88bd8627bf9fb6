use Rattle.search.proofs.ViewLaws.{unused_both, unused_slots}
use Rattle.search.proofs.Record.unused_zero.Goals as goal

pub returns-then-slots_zero-clause-zero : goal.returns-then-slots_zero-clause-zero
returns-then-slots_zero-clause-zero c = unused_both _ _ _ c.held.ensures c.slots_zero.ensures c.if-slots_zero.true c.removals_zero.ensures

pub returns-else-slots_zero-clause-zero : goal.returns-else-slots_zero-clause-zero
returns-else-slots_zero-clause-zero c = unused_slots _ _ _ c.slots_zero.ensures c.if-slots_zero.false
