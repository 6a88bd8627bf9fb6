use Rattle.std.proofs.Common.{arith}
use Rattle.penalty.proofs.CountLaws.{month_start, month_turn, month_parts}
use Rattle.penalty.proofs.over_days.Goals as goal

pub loop-d-init : goal.loop-d-init
loop-d-init g c = rw (c.default-sum.ensures.0, c.default-sum.ensures.1) (month_start _ _ _)

pub loop-d-preserved : goal.loop-d-preserved
loop-d-preserved g c =
    rw (c.add_assign.ensures.after.0, c.add_assign.ensures.after.1)
    (month_turn _ _ _ c.args.w.now.accepted c.loop-d.invariant (omega arith) c.columns-night.ensures c.on_day.ensures)

pub returns : goal.returns
returns g c = month_parts _ _ _ _ c.loop-d.invariant (omega arith)
