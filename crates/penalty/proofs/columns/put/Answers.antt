use Rattle.std.proofs.Common.{rules, arith, ◌≡◌, length}
use Rattle.fields.specs.Sizes.{day_places}
use Rattle.penalty.proofs.ColumnLaws.{put_turn, put_end}
use Rattle.penalty.proofs.columns.put.Goals as goal

pub loop-d-preserved : goal.loop-d-preserved
loop-d-preserved c = put_turn _ _ _ _ _ _ c.loop-d.invariant c.loop-d-test.true c.has.ensures c.put_bit.ensures

pub returns-clause-put : goal.returns-clause-put
returns-clause-put c =
    let long : length c.args.cols.now ≡ day_places = search rules in
    put_end _ _ _ _ _ _ c.loop-d.invariant (omega (arith, c.requires.0)) c.loop-d-test.false
