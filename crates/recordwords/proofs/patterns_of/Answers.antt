use Rattle.std.proofs.Common.{rules}
use Rattle.recordwords.specs.Words.{patterns_of_words}
use Rattle.numbers.proofs.MadeLaws.{made}
use Rattle.recordwords.proofs.WordLaws.{patterns_long, pattern_read}
use Rattle.recordwords.proofs.patterns_of.Goals as goal

pub returns : goal.returns
returns c =
    let words = c.args.words.now in
    made _ (patterns_of_words words) 0 (λ i p q h k. (search rules, pattern_read words i h (search rules))) c.from_fn.ensures.items (patterns_long words)
