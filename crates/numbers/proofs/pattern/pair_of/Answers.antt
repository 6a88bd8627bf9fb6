use Rattle.std.proofs.Common.{refl}
use Rattle.numbers.specs.Patterns.{pair_of}
use Rattle.numbers.proofs.pattern.pair_of.Goals as goal

pub returns : goal.returns
unfolding pair_of
returns c = refl
