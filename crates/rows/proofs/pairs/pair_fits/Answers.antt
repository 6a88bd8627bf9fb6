use Rattle.std.proofs.Common.{◌-◌, ◌<◌, arith}
use Rattle.rows.proofs.PairLaws.{fits_days}
use Rattle.rows.proofs.pairs.pair_fits.Goals as goal

pub returns-then-is_at_rest : goal.returns-then-is_at_rest
returns-then-is_at_rest c =
    let s = c.args in
    let day = c.pair_day-second.ensures in
    let first : c.pair_day-second.result - 1 < c.numbers-b.result.days = omega (arith, c.numbers-b.ensures.1, day.2) in
    let second : c.pair_day-second.result < c.numbers-b.result.days = omega (arith, c.numbers-b.ensures.1, day.2) in
    rw (
      fits_days s.her.now.ward.numbers.now s.her.now.index s.p s.k c.if-k-eq0.false c.if-count-k.false c.pair_count-count.ensures.0 c.numbers-b.ensures.0 day.0 day.1,
      ← c.mark.ensures.is,
      ← c.states-states.ensures _ first,
      ← c.is_at_rest.ensures,
      c.if-is_at_rest.true,
      ← c.mark-then-is_at_rest.ensures.is,
      ← c.states-states.ensures _ second,
    ) c.is_at_rest-then-is_at_rest.ensures

pub returns-else-is_at_rest : goal.returns-else-is_at_rest
returns-else-is_at_rest c =
    let s = c.args in
    let day = c.pair_day-second.ensures in
    let first : c.pair_day-second.result - 1 < c.numbers-b.result.days = omega (arith, c.numbers-b.ensures.1, day.2) in
    rw (
      fits_days s.her.now.ward.numbers.now s.her.now.index s.p s.k c.if-k-eq0.false c.if-count-k.false c.pair_count-count.ensures.0 c.numbers-b.ensures.0 day.0 day.1,
      ← c.mark.ensures.is,
      ← c.states-states.ensures _ first,
      ← c.is_at_rest.ensures,
      c.if-is_at_rest.false,
    )
