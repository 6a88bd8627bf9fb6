use Rattle.codec.specs.Groups.{decode}
use Rattle.codec.proofs.number_in.Goals as goal

pub returns-clause-is : goal.returns-clause-is
unfolding decode
returns-clause-is c = c.groups.ensures.is
