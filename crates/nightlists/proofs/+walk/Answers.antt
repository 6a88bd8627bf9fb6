use Rattle.std.proofs.Common.{arith, refl}
use Rattle.nightlists.proofs.OnwardLaws.{known, days_most, new_more, new_first, never_all, to_all, long_first, start_less}
use Rattle.nightlists.proofs.LastLaws.{begun_by, begun_ready}
use Rattle.nightlists.proofs.GatheringLaws.{only_here, room_here, leaves_room, walk_start, walk_room, walk_to, walk_end}
use Rattle.nightlists.proofs.+walk.Goals as goal

pub add_here-requires : goal.add_here-requires
add_here-requires g t c = room_here g.G.Gathering.laws c.args.k.now.rules c.args.part.now.left c.args.part.now.from c.args.part.now.state c.is_closed-done.ensures c.requires

pub returns-then-k-part : goal.returns-then-k-part
returns-then-k-part g t c = only_here g.G.Gathering.laws c.args.k.now.rules c.args.part.now.left c.args.part.now.from c.args.part.now.state c.is_closed-done.ensures c.if-k-part.true c.add_here.ensures

pub add_leaves-requires : goal.add_leaves-requires
add_leaves-requires g t c =
    let k = known c.is_closed-done.ensures c.args.k.now.apart_is c.if-k-part.false c.new_days-days.ensures in
    let begun = begun_by k c.args.part.now.from c.last_days-begun.ensures c.shut_days-shut.ensures in
    record {
      few = omega (arith, begun.shut_begun, begun.begun_days, begun.days_left, c.args.part.now.ready.few_days);
      fits = begun_ready begun c.args.part.now.ready;
      room = leaves_room g.G.Gathering.laws begun c.is_closed-done.ensures c.requires c.add_here.ensures;
    }

pub loop-day-init : goal.loop-day-init
loop-day-init g t c =
    let k = known c.is_closed-done.ensures c.args.k.now.apart_is c.if-k-part.false c.new_days-days.ensures in
    let begun = begun_by k c.args.part.now.from c.last_days-begun.ensures c.shut_days-shut.ensures in
    record { new = k; first = begun; so_far = walk_start g.G.Gathering.laws begun c.is_closed-done.ensures c.requires c.add_here.ensures c.add_leaves.ensures }

pub new_run-requires-clause-day_lt_day_places : goal.new_run-requires-clause-day_lt_day_places
new_run-requires-clause-day_lt_day_places g t c = omega (arith, days_most c.loop-day.invariant.new, c.args.part.now.ready.few_days)

pub with-requires-clause-below : goal.with-requires-clause-below
with-requires-clause-below g t c = (new_first c.loop-day.invariant.new c.loop-day-test.true c.new_run.ensures).1

pub walk-requires : goal.walk-requires
walk-requires g t c κs within =
    let k = c.loop-day.invariant.new in
    let more = new_more k c.loop-day-test.true c.new_run.ensures c.with.ensures in
    (omega (arith, c.decreases, start_less c.with.ensures (new_first k c.loop-day-test.true c.new_run.ensures)), (within, walk_room g.G.Gathering.laws c.loop-day.invariant.so_far more (omega (arith, days_most k, c.loop-day-test.true))))

pub loop-day-preserved : goal.loop-day-preserved
loop-day-preserved g t c =
    let k = c.loop-day.invariant.new in
    let more = new_more k c.loop-day-test.true c.new_run.ensures c.with.ensures in
    record { new = k; first = c.loop-day.invariant.first; so_far = walk_to g.G.Gathering.laws c.loop-day.invariant.so_far more (omega (arith, days_most k, c.loop-day-test.true)) c.walk.ensures }

pub with-requires-in-Some : goal.with-requires-in-Some
with-requires-in-Some g t c = record {
  some = (long_first c.loop-day.invariant.new c.lengthened.ensures c.in-Some.is).0;
  below = (long_first c.loop-day.invariant.new c.lengthened.ensures c.in-Some.is).1;
}

pub walk-requires-in-Some : goal.walk-requires-in-Some
walk-requires-in-Some g t c κs within =
    let k = c.loop-day.invariant.new in
    let more = to_all k (c.loop-day.auto.day-end c.loop-day.invariant.first.begun_days) c.loop-day-test.false c.args.part.now.from c.lengthened.ensures c.in-Some.is c.with-in-Some.ensures in
    (omega (arith, c.decreases, start_less c.with-in-Some.ensures (long_first k c.lengthened.ensures c.in-Some.is)), (within, walk_room g.G.Gathering.laws c.loop-day.invariant.so_far more (omega arith)))

pub returns-in-Some : goal.returns-in-Some
returns-in-Some g t c =
    let more = to_all c.loop-day.invariant.new (c.loop-day.auto.day-end c.loop-day.invariant.first.begun_days) c.loop-day-test.false c.args.part.now.from c.lengthened.ensures c.in-Some.is c.with-in-Some.ensures in
    let all = walk_to g.G.Gathering.laws c.loop-day.invariant.so_far more (omega arith) c.walk-in-Some.ensures in
    walk_end g.G.Gathering.laws all refl

pub returns-in_default : goal.returns-in_default
returns-in_default g t c =
    walk_end g.G.Gathering.laws c.loop-day.invariant.so_far
    (never_all c.loop-day.invariant.new (c.loop-day.auto.day-end c.loop-day.invariant.first.begun_days) c.loop-day-test.false c.args.part.now.from c.lengthened.ensures c.in_default.is)
