use Rattle.std.proofs.Common.{arith}
use Rattle.margins.proofs.SideLaws.{sides_start, day_fits, sides_turn}
use Rattle.margins.proofs.sides.Sides.of.Goals as goal

pub loop-d-init : goal.loop-d-init
loop-d-init c = sides_start _ _ _ _ _

pub both-x-requires : goal.both-x-requires
both-x-requires c =
    rw c.part.view_is
    (day_fits _ _ _ _ c.args.her.now.ward.accepted c.args.her.now.in_ward c.requires _ _ _ _ _ c.member_sets-sets.ensures c.hers-sums.ensures c.conditions-zero.ensures
    (omega (arith, c.loop-d-test.true, c.days-n.ensures.0)) c.has-on.ensures)

pub loop-d-preserved : goal.loop-d-preserved
loop-d-preserved c =
    sides_turn _ _ _ _ c.args.her.now.ward.accepted c.args.her.now.in_ward c.requires _ _ _ _ _ c.member_sets-sets.ensures c.hers-sums.ensures c.conditions-zero.ensures
    (omega (arith, c.loop-d-test.true, c.days-n.ensures.0)) c.has-on.ensures c.loop-d.invariant c.loop-d-test.true (rw c.part.view_is at c.both-x.ensures)
