use Rattle.std.proofs.Common.{◌≡◌, ◌∙◌, get_or, [], rules, map}
use Rattle.fields.specs.Sizes.{removal_places}
use Rattle.numbers.specs.Range.{up_from}
use Rattle.removals.specs.Removals.{no_removal}
use Rattle.recordwords.specs.Words.{removal_at}
use Rattle.recordwords.specs.CodeWords.{removal_from}
use Rattle.numbers.proofs.MadeLaws.{made}
use Rattle.recordwords.proofs.WordLaws.{removal_taken, removals_long, removal_read}
use Rattle.recordwords.proofs.removals_of.Goals as goal

pub returns : goal.returns
returns c =
    let words = c.args.words.now in
    made _ (map (removal_at words) (up_from 0 removal_places)) no_removal
    (λ j x q h k.
    let e : x ≡ removal_from (get_or c.as_chunks.result.0.now j []) = search rules in
    (search rules, removal_read words j h (e ∙ removal_taken words (search rules) c.as_chunks.result.0.now _ c.as_chunks.ensures.front j h)))
    c.from_fn.ensures.items (removals_long words)
