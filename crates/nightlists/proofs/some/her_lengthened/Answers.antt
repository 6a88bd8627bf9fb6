use Rattle.std.proofs.Common.{rules, tests, arith, sym, ap, cond, None, ◌∙◌, ◌≡◌, ◌-◌}
use Rattle.numbers.specs.Digits.{has}
use Rattle.nightlists.proofs.OnwardLaws.{Long, long_is}
use Rattle.nightlists.proofs.SomeLaws.{filter_is}
use Rattle.nightlists.proofs.some.her_lengthened.Goals as goal

pub filter-requires : goal.filter-requires
filter-requires c = λ x e p q.
    let s = c.args.part.now in
    let long : Long c.args.k.now.rules s.left s.state x = long_is c.args.k.now.rules s.left s.state x (sym c.lengthened.ensures ∙ e) in
    let first = ap (λ t. t.first) q in
    (λ κs v h a b. omega (arith, long.some), λ κs v h a b d. omega (arith, long.some, long.below, s.ready.few_days))

pub returns : goal.returns
returns c =
    filter_is _ _ _ _ c.filter.ensures (λ x b e post.
    let s = c.args.part.now in
    let long : Long c.args.k.now.rules s.left s.state x = long_is c.args.k.now.rules s.left s.state x (sym c.lengthened.ensures ∙ e) in
    let is : s.state.first - 3 ≡ x.first - 1 = omega (arith, long.day) in
    rw is (search (rules, tests)))
    ∙ ap (λ N. cond (has c.args.never (c.args.part.now.state.first - 3)) None N) c.lengthened.ensures
