use Rattle.std.proofs.Common.{arith, refl, length, ◌+◌, ◌-◌, ◌≡◌, ◌≤◌}
use Rattle.std.proofs.lemmas.Slice.{take-put_mid, drop-put_mid}
use Rattle.nightlists.proofs.LastLaws.{length_leaves, leaf_fits}
use Rattle.nightlists.proofs.GatheringLaws.{leaves_none, leaf_more, leaves_done}
use Rattle.nightlists.proofs.gathering.BufferGathering.add_leaves.Goals as goal

pub slice_bounds-place-items-end : goal.slice_bounds-place-items-end
slice_bounds-place-items-end c = omega (arith, c.requires.room, length_leaves c.args.from c.args.shut)

pub loop-day-init : goal.loop-day-init
loop-day-init c = leaves_none _

pub overflow_add-place : goal.overflow_add-place
overflow_add-place c = omega (arith, leaf_fits c.args.from c.loop-day.day c.args.shut c.requires.fits (omega (arith, c.loop-day-test.true, c.loop-day.auto)) c.bit.ensures)

pub loop-day-preserved : goal.loop-day-preserved
loop-day-preserved c = leaf_more c.args.from c.loop-day.day _ c.loop-day.invariant (omega (arith, c.loop-day-test.true, c.loop-day.auto)) c.bit.ensures

pub returns : goal.returns
returns c =
    let s = c.args.self.now in
    let room : s.found + c.args.shut ≤ length s.buf.now = omega (arith, c.requires.room, length_leaves c.args.from c.args.shut) in
    let part : length c.loop-day.place-items ≡ c.args.shut = omega (arith, c.loop-day.auto) in
    let past : c.args.shut ≤ c.loop-day.day = omega (arith, c.loop-day-test.false, c.loop-day.auto) in
    record {
      there = leaves_done _ _ _ _ c.loop-day.invariant part past (omega (arith, c.loop-day.auto)) room
          (take-put_mid s.found (s.found + c.args.shut - s.found) s.buf.now c.loop-day.place-items (s.found + c.args.shut) (omega arith) (omega arith))
          (drop-put_mid s.found (s.found + c.args.shut - s.found) s.buf.now c.loop-day.place-items (s.found + c.args.shut) (omega arith) (omega arith) (omega arith));
      same = refl;
    }
