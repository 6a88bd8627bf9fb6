use Rattle.std.proofs.Common.{arith, ◌≤◌, refl}
use Rattle.fields.specs.Fields.{nurses}
use Rattle.daylists.proofs.StartLaws.{day_list_short, day_list_of}
use Rattle.daylists.proofs.ListsLaws.{in_all, count_start, count_capped, count_turn, counted_over, counted_all}
use Rattle.daylists.proofs.lists.lists_count.Goals as goal

pub loop-i-init : goal.loop-i-init
loop-i-init c = count_start _ _ _ _ refl refl

pub returns-then-room-found : goal.returns-then-room-found
returns-then-room-found c =
    counted_over _ _ _ _ _ _ c.loop-i.invariant (in_all c.nurses-m.ensures.0 c.loop-i-test.true) (count_capped (day_list_of _ c.nurse_at.ensures.0 c.nurse_at.ensures.1) c.day_list-found.ensures.value c.saturating_add.ensures (omega arith) (day_list_short _ _ _ c.nurse_at.result.ward.accepted)) c.if-room-found.true

pub loop-i-preserved : goal.loop-i-preserved
loop-i-preserved c =
    count_turn _ _ _ _ _ _ c.loop-i.invariant c.args.w.now.accepted.nurses_most (in_all c.nurses-m.ensures.0 c.loop-i-test.true) (count_capped (day_list_of _ c.nurse_at.ensures.0 c.nurse_at.ensures.1) c.day_list-found.ensures.value c.saturating_add.ensures (omega arith) (day_list_short _ _ _ c.nurse_at.result.ward.accepted)) c.if-room-found.false

pub returns : goal.returns
returns c =
    let past : nurses c.args.w.now.numbers.now ≤ c.loop-i.i = omega (arith, c.nurses-m.ensures.0) in
    counted_all _ _ _ _ _ _ c.loop-i.invariant past
