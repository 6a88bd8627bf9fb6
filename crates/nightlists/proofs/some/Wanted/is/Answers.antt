use Rattle.std.proofs.Common.{◌∙◌}
use Rattle.nightlists.proofs.SomeLaws.{one_pair, one_nights}
use Rattle.nightlists.proofs.some.Wanted.is.Goals as goal

pub returns-then-passes : goal.returns-then-passes
returns-then-passes c = λ small known.
    let s = c.args.self.now in
    let w = s.masks.nurse.ward in
    one_pair w.numbers.now s.masks.nurse.index c.args.p (c.passes.ensures small known) c.if-passes.true (c.any_fits.ensures w.numbers.now s.masks.nurse.index c.args.p w.accepted s.hers c.busy_days.ensures)

pub returns-else-passes : goal.returns-else-passes
returns-else-passes c = λ small known. c.if-passes.false ∙ one_nights c.args.self.now.masks.nurse.ward.numbers.now c.args.self.now.masks.nurse.index c.args.p (c.passes.ensures small known) c.if-passes.false
