use Rattle.std.proofs.Common.{rules, tests, refl, arith, suc, ◌∙◌}
use Rattle.numbers.proofs.IterLaws.{all_over}
use Rattle.days.specs.Days.{in_run}
use Rattle.days.specs.CodeMonth.{duty_at}
use Rattle.days.proofs.RuleLaws.{run_is}
use Rattle.days.proofs.rule.long_run.Goals as goal

pub returns : goal.returns
returns c =
    let f = duty_at c.args.row.now c.args.q in
    let longest = c.args.longest in
    all_over (λ u. in_run (f u)) _ _ (suc longest) c.all.ensures.ran refl (omega arith) (λ x b q k. search (rules, tests)) ∙ run_is f longest c.args.t
