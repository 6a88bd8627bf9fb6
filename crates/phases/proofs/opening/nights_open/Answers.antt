use Rattle.std.proofs.Common.{◌∙◌}
use Rattle.phases.proofs.OpeningLaws.{opens_at_zero, stays_shut}
use Rattle.phases.proofs.opening.nights_open.Goals as goal

pub returns-then-nights_hers : goal.returns-then-nights_hers
returns-then-nights_hers c = opens_at_zero c.args.w.now.numbers.now c.args.nights.now c.nights_hers.ensures c.if-nights_hers.true c.night_penalty.ensures

pub returns-else-nights_hers : goal.returns-else-nights_hers
returns-else-nights_hers c = c.if-nights_hers.false ∙ stays_shut c.args.w.now.numbers.now c.args.nights.now c.nights_hers.ensures c.if-nights_hers.false
