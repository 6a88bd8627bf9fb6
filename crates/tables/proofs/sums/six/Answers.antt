use Rattle.std.proofs.Common.{rules, arith, ◌≡◌, ◌+◌, ◌*◌, length}
use Rattle.tables.proofs.SumLaws.{six_start, one_is, one_most, six_turn, six_end}
use Rattle.tables.proofs.sums.six.Goals as goal

pub loop-j-init : goal.loop-j-init
loop-j-init c =
    let long : length c.args.t.now ≡ 1536 = search rules in
    six_start _ _ _ _ long c.requires.2 c.clear.ensures

pub extend-requires : goal.extend-requires
extend-requires c =
    let d = 6 * c.args.b + c.loop-j.j in
    let low = c.requires.1.low in
    let inv = c.loop-j.invariant in
    (omega (arith, one_is c.loop-j.j c.loop-j-test.true, one_most c.loop-j.j c.loop-j-test.true), low d, low (36 + d), low (72 + d), inv.small)

pub loop-j-preserved : goal.loop-j-preserved
loop-j-preserved c = six_turn _ _ _ _ _ _ c.requires.1 c.loop-j.invariant c.loop-j-test.true c.extend.ensures

pub returns : goal.returns
returns c =
    let long : length c.args.t.now ≡ 1536 = search rules in
    six_end _ _ _ _ _ long c.clear.ensures c.loop-j.invariant (omega arith)
