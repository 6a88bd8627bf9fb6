use Rattle.std.proofs.Common.{◌^◌, ◌<◌, ap, ◌∙◌, arith}
use Rattle.fields.specs.Fields.{pair_count}
use Rattle.trials.proofs.CostLaws.{cost_trials}
use Rattle.best.specs.CodeBest.{improves}
use Rattle.tries.proofs.NurseLaws.{by_bars, floor_found}
use Rattle.tries.proofs.nurse.InForce.over_nurse.Goals as goal

pub returns-then-not-improves-clause-tried : goal.returns-then-not-improves-clause-tried
returns-then-not-improves-clause-tried c = λ slots may s b.
    let her = c.args.x.now.nurse in
    let need = c.requires in
    let few : pair_count her.ward.numbers.now < 2 ^ 32 = omega (arith, her.ward.accepted.pairs_most) in
    let trials = cost_trials _ _ _ _ _ _ _ _ slots her.ward.accepted her.in_ward s c.nurse_costs-costs.ensures.costs need.workable_are need.before_is in
    floor_found _ _ may _ _ _ _ _ _ (c.improves.ensures ∙ ap (improves c.args.held) c.in_all-least.ensures) c.if-not-improves.true _ _ c.nurse_costs-costs.ensures.month few trials c.least.ensures.trials c.least.ensures.without

pub returns-clause-tried : goal.returns-clause-tried
returns-clause-tried c = λ slots may s b.
    let x = c.args.x.now in
    let need = c.requires in
    let trials = cost_trials _ _ _ _ _ _ _ _ slots x.nurse.ward.accepted x.nurse.in_ward s c.nurse_costs-costs.ensures.costs need.workable_are need.before_is in
    by_bars may _ _ _ _ _ b (c.over_list.ensures _ trials)
