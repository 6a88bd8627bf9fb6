use Rattle.std.proofs.Common.{refl, arith}
use Rattle.tables.proofs.SumLaws.{same_low}
use Rattle.tables.proofs.Table.new.Goals as goal

pub invariant_of-result : goal.invariant_of-result
invariant_of-result c = (refl, same_low 1536 _ _ (omega arith))
