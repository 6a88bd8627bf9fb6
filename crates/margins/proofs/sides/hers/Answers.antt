use Rattle.std.proofs.Common.{arith, sym, ◌∙◌}
use Rattle.margins.proofs.SideLaws.{blank_low, hers_start, hers_in, hers_out}
use Rattle.margins.proofs.sides.hers.Goals.{then-has, else-has}
use Rattle.margins.proofs.sides.hers.Goals as goal

pub add_row-requires : goal.add_row-requires
add_row-requires c = (omega arith, blank_low 64 _)

pub loop-g-init : goal.loop-g-init
loop-g-init c = hers_start _ _ _ c.add_row.ensures

pub loop-g-preserved : goal.loop-g-preserved
loop-g-preserved c =
    elim c.if-has.branch [
      | then-has w ↦ hers_in _ _ _ c.loop-g.invariant c.loop-g-test.true c.requires.0 (sym c.has.ensures ∙ w.if-has.true) w.add_row-then-has.ensures w.sums-is
      | else-has w ↦ hers_out _ _ _ c.loop-g.invariant c.loop-g-test.true (sym c.has.ensures ∙ w.if-has.false) w.sums-is
    ]
