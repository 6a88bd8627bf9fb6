use Rattle.std.proofs.Common.{refl}
use Rattle.numbers.specs.Patterns.{pattern}
use Rattle.numbers.proofs.pattern.of.Goals as goal

pub returns : goal.returns
unfolding pattern
returns c = refl
