use Rattle.std.proofs.Common.{arith}
use Rattle.rows.proofs.PairLaws.{set_two}
use Rattle.rows.proofs.pairs.pair_days.Goals as goal

pub returns : goal.returns
returns c =
    let day = c.pair_day-second.ensures in
    set_two c.args.w.now.numbers.now c.args.k c.if-k-eq0.false (omega (arith, c.if-pair_count-k.false, c.pair_count.ensures.0)) day.0 day.1 c.bit.ensures c.bit-2.ensures
