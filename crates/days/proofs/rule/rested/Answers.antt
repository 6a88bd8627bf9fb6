use Rattle.std.proofs.Common.{rules, tests, refl, arith, ◌∙◌}
use Rattle.numbers.proofs.IterLaws.{any_over}
use Rattle.days.specs.Days.{is_rest}
use Rattle.days.specs.CodeMonth.{duty_at}
use Rattle.days.proofs.RuleLaws.{rest_is}
use Rattle.days.proofs.rule.rested.Goals as goal

pub returns : goal.returns
returns c =
    let f = duty_at c.args.row.now c.args.q in
    any_over (λ u. is_rest (f u)) _ _ 7 c.any.ensures.ran refl (omega arith) (λ x b q k. search (rules, tests)) ∙ rest_is f c.args.t
