use Rattle.std.proofs.Common.{rules, tests, arith, ◌∙◌}
use Rattle.std.proofs.lemmas.Iterator.{YieldsList-from_range}
use Rattle.std.proofs.lemmas.Iterator.Consumers.{YieldsList-from_filter, count_from_yields_List}
use Rattle.days.specs.Days.{is_rest}
use Rattle.days.specs.CodeMonth.{duty_at}
use Rattle.days.proofs.RuleLaws.{rests_are}
use Rattle.days.proofs.month.Sheet.rests_of.Goals as goal

pub returns : goal.returns
returns c =
    let f = duty_at c.args.self.now.row c.args.q in
    let n = c.args.self.now.month.days in
    count_from_yields_List c.filter.result c.count.result c.count.ensures.ran
    (YieldsList-from_filter _ (λ t. is_rest (f t)) (YieldsList-from_range 7 _ n c.filter.ensures.source (omega arith)) c.filter.ensures.closure (λ x r q k. search (rules, tests))) ∙ rests_are f n
