use Rattle.std.proofs.Common.{◌≡◌, ◌+◌, cond, get_or}
use Rattle.margins.proofs.CostLaws.{night_start, night_turn}
use Rattle.margins.proofs.costs.night_costs.Goals.{then-has, else-has}
use Rattle.margins.proofs.costs.night_costs.Goals as goal

pub loop-d-init : goal.loop-d-init
loop-d-init c = night_start _ _ _ _

pub loop-d-preserved : goal.loop-d-preserved
loop-d-preserved c =
    let y = c.args.y.now.sides in
    let free : c.if-has.free ≡ cond c.has.result (get_or y c.loop-d.d 0) (get_or y (32 + c.loop-d.d) 0) = elim c.if-has.branch [
      | then-has w ↦ rw w.if-has.true w.free-is
      | else-has w ↦ rw w.if-has.false w.free-is
    ] in
    night_turn _ _ _ _ _ c.args.x.now.small c.args.y.now.small c.has.ensures free c.loop-d.invariant c.loop-d-test.true c.requires
