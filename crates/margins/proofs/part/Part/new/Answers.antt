use Rattle.std.proofs.Common.{refl, arith}
use Rattle.margins.proofs.MarginLaws.{same_slight}
use Rattle.margins.proofs.part.Part.new.Goals as goal

pub invariant_of-result : goal.invariant_of-result
invariant_of-result c = (refl, same_slight 1152 _ (omega arith))
