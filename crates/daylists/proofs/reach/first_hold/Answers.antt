use Rattle.std.proofs.Common.{◌≡◌, rules, tests, refl, arith, ◌∙◌, min}
use Rattle.numbers.proofs.IterLaws.{all_below}
use Rattle.daylists.specs.CodeWalk.{may_choose}
use Rattle.daylists.proofs.WalkLaws.{first_windows, first_no_lem}
use Rattle.daylists.proofs.reach.first_hold.Goals as goal

pub returns-then-all : goal.returns-then-all
returns-then-all c =
    let m = c.args.sheet.now.month in
    let s = c.args.s in
    let six : c.min-six.result ≡ min 6 m.days = omega (arith, c.min-six.ensures) in
    let chosen = all_below (may_choose m s) _ _ c.all.ensures.ran refl refl (λ x b q k. search (rules, tests)) in
    first_windows m c.args.sheet.now.row s six chosen c.if-all.true c.all_windows_hold.ensures

pub returns-else-all : goal.returns-else-all
returns-else-all c =
    let m = c.args.sheet.now.month in
    let s = c.args.s in
    let six : c.min-six.result ≡ min 6 m.days = omega (arith, c.min-six.ensures) in
    let chosen = all_below (may_choose m s) _ _ c.all.ensures.ran refl refl (λ x b q k. search (rules, tests)) in
    c.if-all.false ∙ first_no_lem m c.args.sheet.now.row s six chosen c.if-all.false
