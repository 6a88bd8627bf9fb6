use Rattle.std.proofs.Common.{◌≡◌, rules, length}
use Rattle.removals.specs.CodeGiven.{bar_places}
use Rattle.removals.proofs.bars_of.Goals as goal
use Rattle.removals.proofs.bars_of.Goals.{in-Some, in_default, then-gave_up, else-gave_up}
use Rattle.removals.proofs.GivenLaws.{bars_same, bars_placed, bars_unplaced, bars_hers, bars_other}

pub loop-x-init : goal.loop-x-init
loop-x-init c =
    let long : length c.args.bars.now ≡ bar_places = search rules in
    elim c.match-current.branch [
      | in-Some w ↦ bars_same (bars_placed c.args.bars.now long w.in-Some.is) w.bars-is w.count-is
      | in_default w ↦ bars_same (bars_unplaced c.args.bars.now long w.in_default.is) w.bars-is w.count-is
    ]

pub loop-x-preserved : goal.loop-x-preserved
loop-x-preserved c = elim c.if-gave_up.branch [
  | then-gave_up w ↦ bars_same (bars_hers c.loop-x.invariant c.requires c.loop-x-test.true c.gave_up.ensures w.if-gave_up.true) w.bars-is w.count-is
  | else-gave_up w ↦ bars_same (bars_other c.loop-x.invariant c.loop-x-test.true c.gave_up.ensures w.if-gave_up.false) w.bars-is w.count-is
]
