use Rattle.tries.proofs.TryLaws.{nights_start, nights_end, night_not_hers, night_worse, night_better}
use Rattle.tries.proofs.Trials.over_nights.Goals.{then-hers+then-improves, then-hers+else-improves, else-hers}
use Rattle.tries.proofs.Trials.over_nights.Goals as goal

pub loop-nights-init : goal.loop-nights-init
loop-nights-init g c = nights_start _ _ _ _ _ _ _ _ _ _

pub loop-nights-preserved : goal.loop-nights-preserved
loop-nights-preserved g c =
    let so_far = c.loop-nights.invariant in
    let need = c.args.self.now.tried.now.nurse.ward.accepted in
    let taken = c.loop-nights-test.true in
    elim c.if-hers.branch [
      | then-hers+then-improves x ↦ night_better so_far need taken x.cost-cost.ensures c.requires.before x.best-is (λ tells. tells _ _ taken c.hers.ensures) x.if-hers.true x.over_pattern-best.ensures
      | then-hers+else-improves x ↦ night_worse so_far need taken x.cost-cost.ensures x.best-is x.improves.ensures x.if-improves.false
      | else-hers x ↦ night_not_hers so_far need taken x.best-is (λ tells. tells _ _ taken c.hers.ensures) x.if-hers.false
    ]

pub returns : goal.returns
returns g c = nights_end c.loop-nights.invariant c.loop-nights-test.false
