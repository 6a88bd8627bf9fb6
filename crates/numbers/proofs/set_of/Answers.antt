use Rattle.std.proofs.Common.{rules, sym, arith, ◌∙◌}
use Rattle.numbers.proofs.DigitLaws.{number_zero, number_suc}
use Rattle.numbers.proofs.SetLaws.{or_next, next_below}
use Rattle.numbers.proofs.set_of.Goals as goal

pub loop-i-init : goal.loop-i-init
loop-i-init g c = (omega arith, λ t e. sym (number_zero t))

pub loop-i-preserved : goal.loop-i-preserved
loop-i-preserved g c =
    let l = c.loop-i in
    let is = or_next 64 c.test.result c.from.result l.set l.i (search rules) (omega arith) l.invariant.0 in (
      rw is (next_below c.test.result l.set l.i l.invariant.0),
      λ t e. is ∙ rw (l.invariant.1 t e, e l.i c.test.result c.loop-i-test.true c.test.ensures) (sym (number_suc t l.i)),
    )
