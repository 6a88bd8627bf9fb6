use Rattle.tries.proofs.TryLaws.{busy_set}
use Rattle.tries.proofs.pairs.busy_days.Goals as goal

pub returns : goal.returns
returns c = λ b p e. busy_set b p _ e
