use Rattle.std.proofs.Common.{◌<◌, arith}
use Rattle.fields.specs.Fields.{nurses as nurses_in}
use Rattle.search.proofs.ChoiceLaws.{nurse_found, best_start, best_turn}
use Rattle.search.proofs.choice.Choice.over_everyone.Goals as goal

pub loop-i-init : goal.loop-i-init
loop-i-init c = λ P s. best_start s c.args.self.now.rec.now

pub loop-i-preserved : goal.loop-i-preserved
loop-i-preserved c =
    let x = c.args.self.now in
    let w = x.offers.now.ward.now in
    let l : c.loop-i.i < nurses_in w.numbers.now = omega (arith, c.loop-i-test.true, c.nurses-i-end.ensures.0) in
    λ P s. best_turn s x.rec.now c.loop-i.i (c.loop-i.invariant P s) (nurse_found c.requires w.accepted P s c.loop-i.i l c.loop-i.best c.over_one-best.ensures)
