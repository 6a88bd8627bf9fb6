use Rattle.std.proofs.Common.{◌<◌, ◌-◌, ap, ◌∙◌, arith, refl, length}
use borrow.Rule.Slice.PartMut.{put_mid}
use Rattle.fields.specs.Fields.{nurses}
use Rattle.ownlists.proofs.OwnListLaws.{filled_as, Back, nurse_kept, nurse_over}
use Rattle.ownlists.proofs.own_lists.Goals.{then-count-room, else-count-room}
use Rattle.ownlists.proofs.own_lists.Goals as goal

pub loop-i-preserved : goal.loop-i-preserved
loop-i-preserved c =
    let w = c.args.w.now in
    let below : c.loop-i.i < nurses w.numbers.now = omega (arith, c.nurses-i-end.ensures.0, c.loop-i-test.true) in
    let hers = c.masks_of-her in
    let filled = filled_as (ap (λ b. b.ward.numbers.now) hers.ensures ∙ ap (λ b. b.numbers.now) c.nurse_at.ensures.0) (ap (λ b. b.index) hers.ensures ∙ c.nurse_at.ensures.1) (record { hers = hers.result.hers; counted = c.own_fill-count.ensures.counted; written = c.own_fill-count.ensures.written }) in
    let own = c.loop-i.own in
    let at = c.loop-i.at in
    let back : Back at own c.own_fill-count.new.own (put_mid at (length own - at) own c.own_fill-count.new.own) = record { back_is = refl; same = omega arith } in
    elim c.if-count-room.branch [
      | then-count-room x ↦ nurse_kept c.loop-i.invariant back filled below w.accepted.nurses_most x.place-is x.at-is x.if-count-room.true
      | else-count-room x ↦ nurse_over c.loop-i.invariant back filled below w.accepted.nurses_most (x.place-is ∙ c.unkept-place.ensures) x.at-is
    ]
