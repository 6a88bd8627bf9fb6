use Rattle.std.proofs.Common.{◌≡◌, length, arith, rules}
use Rattle.fields.specs.Sizes.{removal_places}
use Rattle.recordwords.proofs.PartLaws.{removals_none, removals_more, removals_all}
use Rattle.recordwords.proofs.put_removals.Goals as goal

pub loop-j-init : goal.loop-j-init
loop-j-init c = removals_none c.args.removals.now _

pub loop-j-preserved : goal.loop-j-preserved
loop-j-preserved c =
    let l : length c.args.removals.now ≡ removal_places = search rules in
    removals_more c.args.removals.now c.args.words.now _ c.loop-j.invariant (search rules) (omega (arith, l, c.loop-j-test.true)) (omega arith) c.words_of_removal.ensures c.put_part.ensures

pub returns : goal.returns
returns c =
    let l : length c.args.removals.now ≡ removal_places = search rules in
    removals_all c.args.removals.now _ _ {j = c.loop-j.j} c.loop-j.invariant (omega (arith, l, c.loop-j-test.false))
