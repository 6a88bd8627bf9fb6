use Rattle.std.proofs.Common.{rules, tests, refl, ◌∙◌, ◌+◌, ◌-◌, get_or, nat_eq}
use Rattle.numbers.proofs.IterLaws.{all_below}
use Rattle.days.specs.Days.{alternating}
use Rattle.days.specs.CodeMonth.{duty_at}
use Rattle.days.proofs.RuleLaws.{same_is}
use Rattle.days.proofs.rule.is_forbidden.Goals as goal

pub returns : goal.returns
returns c =
    let f = duty_at c.args.row.now c.args.q in
    all_below (λ j. nat_eq (get_or alternating j 0) (f (c.args.t - 4 + j))) _ 5 c.all.ensures.ran refl refl (λ x b q k. search (rules, tests)) ∙ same_is f c.args.t c.requires.le_t
