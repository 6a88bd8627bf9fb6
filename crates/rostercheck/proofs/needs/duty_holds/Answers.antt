use Rattle.std.proofs.Common.{◌∙◌}
use Rattle.std.proofs.lemmas.Bool.{lt-leb}
use Rattle.fields.specs.Shifts.{place}
use Rattle.rostercheck.proofs.NeedLaws.{column_as, need_short, need_enough}
use Rattle.rostercheck.proofs.needs.duty_holds.Goals as goal

pub returns-else-need-on_duty : goal.returns-else-need-on_duty
returns-else-need-on_duty c =
    let r = c.args.r.now in
    let w = r.ward.numbers.now in
    lt-leb _ _ c.if-need-on_duty.false
    ∙ need_short w r.letters.now (place c.args.shift) c.args.d _ r.ward.accepted (column_as w r.letters.now (place c.args.shift) c.args.d _ c.column-col.ensures c.duty_letter.ensures)
    c.of-c.ensures.numbers.1 c.on_duty.ensures (rw c.of-c.ensures.duty at c.need.ensures.is) c.if-need-on_duty.false

pub returns-then-need-on_duty : goal.returns-then-need-on_duty
returns-then-need-on_duty c =
    let r = c.args.r.now in
    let w = r.ward.numbers.now in
    need_enough w r.letters.now (place c.args.shift) c.args.d _ r.ward.accepted (column_as w r.letters.now (place c.args.shift) c.args.d _ c.column-col.ensures c.duty_letter.ensures)
    c.of-c.ensures.numbers.1 c.of-c.ensures.numbers.0 c.on_duty.ensures (rw c.of-c.ensures.duty at c.need.ensures.is) c.if-need-on_duty.true (rw c.of-c.ensures.duty at c.all_bounds_hold.ensures)
