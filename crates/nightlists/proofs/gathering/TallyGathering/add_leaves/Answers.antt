use Rattle.std.proofs.Common.{arith}
use Rattle.nightlists.proofs.LastLaws.{length_leaves}
use Rattle.nightlists.proofs.gathering.TallyGathering.add_leaves.Goals as goal

pub returns : goal.returns
returns c = omega (arith, length_leaves c.args._from c.args.shut)
