use Rattle.std.proofs.Common.{◌+◌, ◌*◌, refl, sym, ◌∙◌}
use Rattle.best.proofs.BestLaws.{over_nil}
use Rattle.tries.specs.CodeTries.{allowed_by}
use Rattle.tries.proofs.TryLaws.{day_costs, day_considered, day_done}
use Rattle.tries.proofs.Trials.over_days.Goals as goal

pub loop-days-init : goal.loop-days-init
loop-days-init c = λ w c' cost y. sym (over_nil _ _ _ _)

pub loop-days-preserved : goal.loop-days-preserved
loop-days-preserved c = λ w c' cost y.
    let x = c.args.self.now.tried.now in
    day_considered (allowed_by x.barred.now) (λ q. cost q + 10000000 * x.others) x.nurse.index c.args.held c.args.list.now c.loop-days.days-index c.loop-days-test.true
    (c.loop-days.invariant w c' cost y) refl (day_costs y _ x.others c.cost-cost.ensures) c.of.ensures c.consider-best.ensures

pub returns : goal.returns
returns c = λ w c' cost y. c.loop-days.invariant w c' cost y ∙ day_done _ _ _ _ c.args.list.now _ c.loop-days-test.false
