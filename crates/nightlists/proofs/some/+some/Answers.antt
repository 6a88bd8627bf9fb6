use Rattle.std.proofs.Common.{arith, sym, ◌∙◌, ◌<◌}
use Rattle.nightlists.proofs.OnwardLaws.{known, days_most, new_more, new_first, start_less}
use Rattle.nightlists.proofs.SomeLaws.{some_here, none_only, none_start, some_more, turn_yes, turn_no, turn_barred, none_end, her_first, her_all}
use Rattle.nightlists.proofs.some.+some.Goals.{else-not-has-via-then-not-has+else-some, else-not-has-via-else-not-has}
use Rattle.nightlists.proofs.some.+some.Goals as goal

pub returns-then-is_here : goal.returns-then-is_here
returns-then-is_here t c = some_here _ _ _ _ _ _ c.is_closed-done.ensures c.is_here.ensures c.if-is_here.true

pub returns-then-k-part : goal.returns-then-k-part
returns-then-k-part t c = none_only _ _ _ _ _ _ c.is_closed-done.ensures c.is_here.ensures c.if-k-part.true c.if-is_here.false

pub loop-day-init : goal.loop-day-init
loop-day-init t c = (
  known c.is_closed-done.ensures c.args.k.now.apart_is c.if-k-part.false c.new_days-days.ensures,
  none_start _ _ _ _ _ _ c.is_closed-done.ensures c.is_here.ensures c.if-is_here.false,
)

pub new_run-requires-clause-day_lt_day_places : goal.new_run-requires-clause-day_lt_day_places
new_run-requires-clause-day_lt_day_places t c = omega (arith, days_most c.loop-day.invariant.0, c.args.part.now.ready.few_days)

pub with-requires-clause-below : goal.with-requires-clause-below
with-requires-clause-below t c = (new_first c.loop-day.invariant.0 c.loop-day-test.true c.new_run.ensures).1

pub some-requires : goal.some-requires
some-requires t c = (omega (arith, c.decreases, start_less c.with.ensures (new_first c.loop-day.invariant.0 c.loop-day-test.true c.new_run.ensures)), tt)

pub returns-then-some : goal.returns-then-some
returns-then-some t c =
    let more = new_more c.loop-day.invariant.0 c.loop-day-test.true c.new_run.ensures c.with.ensures in
    turn_yes c.loop-day.invariant.1 more c.some.ensures (omega (arith, days_most c.loop-day.invariant.0, c.loop-day-test.true)) c.if-some.true

pub loop-day-preserved : goal.loop-day-preserved
loop-day-preserved t c =
    let k = c.loop-day.invariant.0 in
    let her = c.args.wanted.now.masks in
    let below : c.loop-day.day < c.args.part.now.left = omega (arith, days_most k, c.loop-day-test.true) in
    elim c.else-not-has.branch [
      | else-not-has-via-then-not-has+else-some w ↦ (k, turn_no c.loop-day.invariant.1 (new_more k c.loop-day-test.true w.new_run.ensures w.with.ensures) w.some.ensures (omega arith) w.if-some.false)
      | else-not-has-via-else-not-has w ↦ (k, turn_barred c.loop-day.invariant.1 her.hers her.nurse.ward.accepted c.args.part.now.whole below (sym c.has.ensures ∙ w.if-not-has.false))
    ]

pub with-requires-in-Some : goal.with-requires-in-Some
with-requires-in-Some t c =
    let first = her_first c.loop-day.invariant.0 _ c.her_lengthened.ensures c.in-Some.is in
    record { some = first.0; below = first.1 }

pub some-requires-in-Some : goal.some-requires-in-Some
some-requires-in-Some t c = (omega (arith, c.decreases, start_less c.with-in-Some.ensures (her_first c.loop-day.invariant.0 _ c.her_lengthened.ensures c.in-Some.is)), tt)

pub returns-in-Some : goal.returns-in-Some
returns-in-Some t c = some_more c.loop-day.invariant.1 (her_all c.loop-day.invariant.0 _ c.her_lengthened.ensures c.in-Some.is c.args.part.now.from c.loop-day.auto.day-end c.loop-day-test.false c.with-in-Some.ensures) c.some-in-Some.ensures

pub returns-in-None : goal.returns-in-None
returns-in-None t c = none_end c.loop-day.invariant.1 c.loop-day.invariant.0 c.loop-day.auto.day-end c.loop-day-test.false c.args.wanted.now.masks.hers c.args.wanted.now.masks.nurse.ward.accepted c.args.part.now.whole c.her_lengthened.ensures c.in-None.is
