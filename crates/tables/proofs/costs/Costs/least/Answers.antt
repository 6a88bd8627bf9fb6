use Rattle.std.proofs.Common.{rules, tests, arith}
use Rattle.tables.proofs.DayLaws.{least_on, least_most, least_without, least_trials}
use Rattle.tables.proofs.RangeSums.{sum_fits, sum_is}
use Rattle.tables.proofs.costs.Costs.least.Goals as goal

pub sum-requires-clause-fits : goal.sum-requires-clause-fits
sum-requires-clause-fits c =
    let k = c.args.self.now in
    sum_fits _ (least_on k.costs) k.days c.map.ensures.source c.map.ensures.closure (λ x r q k. search (rules, tests)) _ (omega (arith, least_most k.costs k.days k.small))

pub returns-clause-trials : goal.returns-clause-trials
returns-clause-trials c =
    let k = c.args.self.now in
    least_trials k.costs k.days (sum_is _ (least_on k.costs) k.days c.map.ensures.source c.map.ensures.closure (λ x r q k. search (rules, tests)) c.sum.ensures.ran)

pub returns-clause-without : goal.returns-clause-without
returns-clause-without c =
    let k = c.args.self.now in
    least_without k.costs k.days (sum_is _ (least_on k.costs) k.days c.map.ensures.source c.map.ensures.closure (λ x r q k. search (rules, tests)) c.sum.ensures.ran)
