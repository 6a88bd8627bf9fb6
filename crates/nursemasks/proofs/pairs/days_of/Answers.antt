use Rattle.nursemasks.proofs.PairMaskLaws.{days_first, days_second, days_both}
use Rattle.nursemasks.proofs.pairs.days_of.Goals as goal

pub returns-then-is_rest_mark-2 : goal.returns-then-is_rest_mark-2
returns-then-is_rest_mark-2 c = days_both _ _ _ c.numbers-b.ensures.0 c.pair_day-second.ensures.0 c.pair_day-second.ensures.1 c.mark.ensures.is c.is_rest_mark.ensures c.if-is_rest_mark.true c.mark-then-is_rest_mark.ensures.is c.is_rest_mark-then-is_rest_mark.ensures _ c.if-is_rest_mark-2.true c.pair_days.ensures

pub returns-else-is_rest_mark-2 : goal.returns-else-is_rest_mark-2
returns-else-is_rest_mark-2 c = days_second _ _ _ c.numbers-b.ensures.0 c.pair_day-second.ensures.0 c.pair_day-second.ensures.1 c.mark.ensures.is c.is_rest_mark.ensures c.if-is_rest_mark.true c.mark-then-is_rest_mark.ensures.is c.is_rest_mark-then-is_rest_mark.ensures c.if-is_rest_mark-2.false

pub returns-else-is_rest_mark : goal.returns-else-is_rest_mark
returns-else-is_rest_mark c = days_first _ _ _ c.numbers-b.ensures.0 c.pair_day-second.ensures.0 c.pair_day-second.ensures.1 c.mark.ensures.is c.is_rest_mark.ensures c.if-is_rest_mark.false
