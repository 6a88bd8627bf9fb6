use Rattle.penalty.proofs.DutyLaws.{need_is, group_is, sums_start, sums_turn}
use Rattle.penalty.proofs.duty.Conditions.on_column.Goals as goal

pub loop-g-init : goal.loop-g-init
loop-g-init c = sums_start _ _ _ _ _ (need_is _ _ _ _ c.need.ensures.is c.on_duty.ensures.is c.need_term.ensures)

pub loop-g-preserved : goal.loop-g-preserved
loop-g-preserved c =
    rw (c.add_assign.ensures.after.0, c.add_assign.ensures.after.1)
    (sums_turn _ _ _ _ _ c.loop-g.invariant c.loop-g-test.true
    (group_is _ _ _ _ _ _ c.bounds.ensures.is.0 c.bounds.ensures.is.1 c.members.ensures.is c.group_term.ensures))
