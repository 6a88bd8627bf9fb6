use Rattle.std.proofs.Common.{rules, tests, arith}
use Rattle.tables.specs.CodeTables.{read_at}
use Rattle.tables.proofs.DayLaws.{reads_most, reads_are}
use Rattle.tables.proofs.RangeSums.{sum_fits, sum_is}
use Rattle.tables.proofs.Table.trial.Goals as goal

pub sum-requires-clause-fits : goal.sum-requires-clause-fits
unfolding read_at
sum-requires-clause-fits c =
    let t = c.self.inside.sums in
    sum_fits _ (read_at t c.args.x) 6 c.map.ensures.source c.map.ensures.closure (λ x r q k. search (rules, tests)) _ (omega (arith, reads_most t c.args.x c.self.invariant.1))

pub returns-clause-is : goal.returns-clause-is
unfolding read_at
returns-clause-is c =
    let t = c.self.inside.sums in
    rw (← c.self.view_is)
    (reads_are t c.args.x (sum_is _ (read_at t c.args.x) 6 c.map.ensures.source c.map.ensures.closure (λ x r q k. search (rules, tests)) c.sum.ensures.ran))

pub returns-clause-most : goal.returns-clause-most
unfolding read_at
returns-clause-most c =
    let t = c.self.inside.sums in
    rw (sum_is _ (read_at t c.args.x) 6 c.map.ensures.source c.map.ensures.closure (λ x r q k. search (rules, tests)) c.sum.ensures.ran) (reads_most t c.args.x c.self.invariant.1)
