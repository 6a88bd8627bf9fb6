use Rattle.nightadvance.proofs.NightLaws.{common_asked_lem}
use Rattle.std.proofs.Common.{◌∙◌}
use Rattle.nightadvance.proofs.common_asked.Goals as goal

pub returns : goal.returns
returns c = c.unless.ensures ∙ common_asked_lem c.args.w.now.numbers.now c.args.places c.args.w.now.accepted c.saturating_add.ensures c.count-need.ensures
