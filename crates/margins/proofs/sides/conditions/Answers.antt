use Rattle.margins.proofs.SideLaws.{conditions_are}
use Rattle.std.proofs.Common.{rules}
use Rattle.margins.proofs.sides.conditions.Goals as goal

pub returns : goal.returns
returns c = conditions_are c.args.sets.now c.args.i (search rules) c.requires.0
