use Rattle.std.proofs.Common.{refl}
use Rattle.numbers.specs.Patterns.{days_of}
use Rattle.numbers.proofs.pattern.days_of.Goals as goal

pub returns : goal.returns
unfolding days_of
returns c = refl
