use Rattle.std.proofs.Common.{rules, false, map, take, drop}
use Rattle.fields.specs.Sizes.{nurse_places}
use Rattle.recordwords.specs.Words.{flags_at, flag_of}
use Rattle.numbers.proofs.MadeLaws.{made}
use Rattle.recordwords.proofs.WordLaws.{flags_long, flag_read}
use Rattle.recordwords.proofs.flags_of.Goals as goal

pub returns : goal.returns
returns c =
    let words = c.args.words.now in
    made _ (map flag_of (take nurse_places (drop flags_at words))) false (λ i f q h k. (search rules, flag_read words (search rules) i h (search rules))) c.from_fn.ensures.items
    (flags_long words (search rules))
