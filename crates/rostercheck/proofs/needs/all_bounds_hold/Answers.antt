use Rattle.std.proofs.Common.{rules, tests, refl}
use Rattle.fields.specs.Shifts.{place}
use Rattle.numbers.proofs.IterLaws.{all_below}
use Rattle.rostercheck.specs.CodeBounds.{bounds_hold, all_bounds_hold}
use Rattle.rostercheck.proofs.needs.all_bounds_hold.Goals as goal

pub returns : goal.returns
unfolding all_bounds_hold
returns c =
    let d = c.args.c.now in
    all_below (bounds_hold d.sets.now d.needs.now (place d.shift) c.args.col) _ _ c.all.ensures.ran refl refl (λ x b q k. search (rules, tests))
