use Rattle.std.proofs.Common.{◌<◌, ◌-◌, arith}
use Rattle.nightlists.proofs.WalkLaws.{with_ready, with_most}
use Rattle.nightlists.proofs.SomeLaws.{with_even}
use Rattle.nightlists.proofs.partial.Partial.with.Goals as goal

pub overflow_add-result : goal.overflow_add-result
overflow_add-result c =
    let below : c.args.t.first - 1 < c.args.self.now.left = omega (arith, c.requires.some, c.requires.below) in
    omega (arith, with_most c.args.self.now.ready below c.bit.ensures)

pub invariant_of-result : goal.invariant_of-result
invariant_of-result c =
    let p = c.args.self.now in
    let below : c.args.t.first - 1 < p.left = omega (arith, c.requires.some, c.requires.below) in
    record { ready = with_ready p.ready below c.bit.ensures; whole = with_even p.left (c.args.t.first - 1) p.from p.whole below c.bit.ensures; next = omega arith }
