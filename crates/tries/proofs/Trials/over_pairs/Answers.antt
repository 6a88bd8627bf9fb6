use Rattle.std.proofs.Common.{rules, ◌≤◌, ◌≡◌, ◌+◌, ◌-◌, ◌*◌, ◌&&◌, refl, sym, take, arith, ◌∙◌}
use Rattle.fields.specs.Fields.{block}
use Rattle.nights.specs.Own.{own_pattern}
use Rattle.best.specs.CodeBest.{over_list}
use Rattle.best.proofs.BestLaws.{over_nil}
use Rattle.tries.specs.CodeTries.{allowed_by}
use Rattle.tries.proofs.TryLaws.{pair_considered, pair_not_fits, paired, paired_done}
use Rattle.tries.proofs.Trials.over_pairs.Goals.{then-fits, else-fits}
use Rattle.tries.proofs.Trials.over_pairs.Goals as goal

pub loop-number-init : goal.loop-number-init
loop-number-init c = λ w cost need of b some y. sym (over_nil _ _ _ _)

pub loop-number-preserved : goal.loop-number-preserved
loop-number-preserved c = λ w cost need of b some y.
    let x = c.args.self.now.tried.now in
    let m = c.loop-number.number in
    let from : 1 ≤ m = search rules in
    let to : m ≤ c.args.pairs.now.count = search rules in
    let last : m + 1 - 1 ≡ m = omega arith in
    let so_far = c.loop-number.invariant w cost need of b some y in
    elim c.if-fits.branch [
      | then-fits z ↦ pair_considered need of some m from to _ b c.fits.ensures (allowed_by x.barred.now) cost x.others c.args.held last so_far y z.if-fits.true z.without.ensures.is z.in_all-cost.ensures z.of.ensures z.best-is z.consider-best.ensures
      | else-fits z ↦ pair_not_fits need of some m from to _ b c.fits.ensures (allowed_by x.barred.now) cost x.others c.args.held last so_far z.best-is z.if-fits.false
    ]

pub returns-after-fits : goal.returns-after-fits
returns-after-fits c = λ w cost need of some y.
    let x = c.args.self.now.tried.now in
    let m = c.loop-number.number in
    let from : 1 ≤ m = search rules in
    let to : m ≤ c.args.pairs.now.count = search rules in
    let b = c.busy_days-busy.ensures (block w x.nurse.index) c.args.p need.set_is in
    let so_far = c.loop-number.invariant w cost need of b some y in
    let up_to : c.if-fits.best ≡ over_list (λ q. own_pattern w x.nurse.index q && allowed_by x.barred.now q) (λ q. cost q + 10000000 * x.others) x.nurse.index c.args.held (take m (paired w c.args.p)) =
    elim c.if-fits.branch [
      | then-fits z ↦ pair_considered need of some m from to _ b c.fits.ensures (allowed_by x.barred.now) cost x.others c.args.held refl so_far y z.if-fits.true z.without.ensures.is z.in_all-cost.ensures z.of.ensures z.best-is z.consider-best.ensures
      | else-fits z ↦ pair_not_fits need of some m from to _ b c.fits.ensures (allowed_by x.barred.now) cost x.others c.args.held refl so_far z.best-is z.if-fits.false
    ] in
    up_to ∙ paired_done need of some _ _ _ m (search rules)
