use Rattle.std.proofs.Common.{rules}
use Rattle.search.specs.Stored.{Sized}
use Rattle.recordwords.proofs.PartLaws.{written}
use Rattle.recordwords.proofs.words_of.Goals as goal

pub returns : goal.returns
returns c =
    let z : Sized c.args.rec = record { patterns_long = search rules; placed_long = search rules; removals_long = search rules } in
    written c.args.rec z _ _ _ _ _ _ _ _ (search rules) c.put_part.array_long c.put_part-2.array_long c.put_part-3.array_long c.put_removals.array_long
    c.put_part.ensures c.put_part-2.ensures c.put_part-3.ensures c.put_removals.ensures c.days_words.ensures c.pair_words.ensures c.flag_words.ensures
