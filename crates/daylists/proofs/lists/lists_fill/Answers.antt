use Rattle.daylists.proofs.StartLaws.{day_list_of}
use Rattle.daylists.proofs.ListsLaws.{in_all, fill_start, next_room, fill_turn}
use Rattle.daylists.proofs.lists.lists_fill.Goals as goal

pub loop-i-init : goal.loop-i-init
loop-i-init c = fill_start _ _ _

pub day_fill-used-requires : goal.day_fill-used-requires
day_fill-used-requires c =
    record { c_in_bounds = next_room c.loop-i.invariant (day_list_of _ c.nurse_at.ensures.0 c.nurse_at.ensures.1) (in_all c.nurses-m.ensures.0 c.loop-i-test.true) c.requires.w_in_bounds }

pub loop-i-preserved : goal.loop-i-preserved
loop-i-preserved c =
    fill_turn c.loop-i.invariant (day_list_of _ c.nurse_at.ensures.0 c.nurse_at.ensures.1) (in_all c.nurses-m.ensures.0 c.loop-i-test.true) c.requires.w_in_bounds
    c.day_fill-used.ensures.value c.day_fill-used.ensures.buf_after
