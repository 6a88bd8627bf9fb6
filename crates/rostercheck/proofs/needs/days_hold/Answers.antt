use Rattle.std.proofs.Common.{rules, tests, refl}
use Rattle.numbers.proofs.IterLaws.{all_below}
use Rattle.rostercheck.specs.CodeCheck.{day_holds}
use Rattle.rostercheck.proofs.needs.days_hold.Goals as goal

pub returns : goal.returns
returns c =
    let r = c.args.r.now in
    all_below (day_holds r.ward.numbers.now r.letters.now) _ _ c.all.ensures.ran refl c.days.ensures.0 (λ x b q k. search (rules, tests))
