use Rattle.std.proofs.Common.{◌≡◌, ◌+◌, arith}
use Rattle.penalty.specs.CodeColumns.{Shown}
use Rattle.search.specs.Stored.{slot_at}
use Rattle.search.proofs.SlotLaws.{by_index, agree_at}
use Rattle.search.proofs.slots.columns.Goals as goal

pub loop-i-preserved : goal.loop-i-preserved
loop-i-preserved c = λ slots a.
    by_index (λ v j. slots j ≡ slot_at c.args.rec j → Shown c.args.search v slots j c.loop-i.cols → Shown c.args.search v slots (j + 1) c.with_row-cols.result) c.nurse_at.ensures (c.with_row-cols.ensures slots)
    (agree_at c.args.w.now.numbers.now c.args.rec slots c.loop-i.i a (omega (arith, c.nurses-i-end.ensures.0, c.loop-i-test.true))) (c.loop-i.invariant slots a)
