use Rattle.std.proofs.Common.{false, rules}
use Rattle.recordwords.specs.Words.{flag_word}
use Rattle.recordwords.proofs.PartLaws.{mapped}
use Rattle.recordwords.proofs.flag_words.Goals as goal

pub returns : goal.returns
returns c = mapped flag_word false c.args.placed.now (λ i x q k e. (search rules, search rules)) c.from_fn.ensures.items (search rules)
