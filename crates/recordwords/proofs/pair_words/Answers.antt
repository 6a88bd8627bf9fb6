use Rattle.std.proofs.Common.{rules}
use Rattle.numbers.specs.Patterns.{pair_of}
use Rattle.recordwords.proofs.PartLaws.{mapped}
use Rattle.recordwords.proofs.pair_words.Goals as goal

pub returns : goal.returns
returns c = mapped pair_of 0 c.args.patterns.now (λ i x q k e. (search rules, search rules)) c.from_fn.ensures.items (search rules)
