use Rattle.std.proofs.Common.{rules, tests, arith, ◌≡◌, ◌∙◌, ◌<◌}
use Rattle.numbers.specs.Sum.{one_if}
use Rattle.daylists.proofs.WalkLaws.{reach_base, reach_none, reach_node}
use Rattle.daylists.proofs.reach.reached.Goals as goal

pub returns-then-first_hold : goal.returns-then-first_hold
returns-then-first_hold c = rw c.if-d-eq0.true (reach_base c.args.sheet.now.month c.args.sheet.now.row c.args.s c.first_hold.ensures c.if-first_hold.true)

pub returns-else-first_hold : goal.returns-else-first_hold
returns-else-first_hold c = rw c.if-d-eq0.true (reach_none c.args.sheet.now.month c.args.sheet.now.row c.args.s c.first_hold.ensures c.if-first_hold.false)

pub returns : goal.returns
returns c =
    let r = c.requires in
    let some : 0 < c.args.d = omega (arith, c.if-d-eq0.false) in
    let by : c.from.result ≡ one_if c.args.rest = search (rules, tests) in
    reach_node c.args.sheet.now.month c.args.sheet.now.row c.args.ways.now c.args.d c.args.s some r.d_le_days r.s_bound r.in_month r.filled (by ∙ r.rest_is some)
