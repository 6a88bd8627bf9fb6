use Rattle.std.proofs.Common.{rules, tests, arith}
use Rattle.tables.specs.CodeTables.{day_without}
use Rattle.tables.proofs.DayLaws.{without_most, without_is}
use Rattle.tables.proofs.RangeSums.{sum_fits, sum_is}
use Rattle.tables.proofs.costs.Costs.without.Goals as goal

pub sum-requires-clause-fits : goal.sum-requires-clause-fits
sum-requires-clause-fits c =
    let s = c.args in
    let k = s.self.now in
    sum_fits _ (day_without k.costs s.x s.off) k.days c.map.ensures.source c.map.ensures.closure (λ x r q k. search (rules, tests))
    _ (omega (arith, without_most k.costs k.days s.x s.off k.small))

pub returns : goal.returns
returns c =
    let s = c.args in
    let k = s.self.now in
    without_is k.costs k.days s.x s.off k.small
    (sum_is _ (day_without k.costs s.x s.off) k.days c.map.ensures.source c.map.ensures.closure (λ x r q k. search (rules, tests)) c.sum.ensures.ran)
