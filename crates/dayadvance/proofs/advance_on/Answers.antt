use Rattle.std.proofs.Common.{length, sym, ap, ◌∙◌}
use Rattle.std.proofs.lemmas.Result.{IfOk-at_ok}
use Rattle.refusals.specs.Refusals.{refusal_in}
use Rattle.fields.specs.Fields.{nurses}
use Rattle.daylists.specs.Lists.{up_to}
use Rattle.phases.specs.Phases.{day_phase, day_list_over, night_of}
use Rattle.outcomes.proofs.OutcomeLaws.{asked_yes, told_exit, told_advanced}
use Rattle.dayadvance.proofs.DayLaws.{ready, stored_zero}
use Rattle.dayadvance.proofs.advance_on.Goals as goal

pub returns-in_err-ends : goal.returns-in_err-ends
returns-in_err-ends c =
    let s = c.args in
    let w = s.w.now.numbers.now in
    let over = night_of s.nights.now in
    let told = told_exit (day_phase w over) s.rec s.k s.past (up_to (day_list_over w over) (nurses w)) s.buffer.now _ (c.first_no-asked.ensures.asked s.past) c.handed_back.ensures c.in_err-ends.was
    c.from_residual.ensures.1 in
    record { says = told.0; leaves = told.1 }

pub advance-x-requires : goal.advance-x-requires
advance-x-requires c =
    let s = c.args in
    let yes = asked_yes _ _ c.handed_back.ensures c.in_ok-ends.was in
    let w = s.w.now.numbers.now in
    let go = ready w s.nights.now s.rec s.k (length s.buffer.now) s.past _ (c.first_no-asked.ensures.asked s.past) yes (IfOk-at_ok _ yes c.first_no-asked.ensures.ends) c.lists_fill-len.ensures.value c.lists_fill-len.ensures.buf_after in
    record { lists = (go.lists_are, go.steps_fit); served_sound = (day_phase w (night_of s.nights.now), go.seeks, go.sound) }

pub roster_given-roster-requires : goal.roster_given-roster-requires
roster_given-roster-requires c =
    let s = c.args in
    let yes = asked_yes _ _ c.handed_back.ensures c.in_ok-ends.was in
    let w = s.w.now in
    let go = ready w.numbers.now s.nights.now s.rec s.k (length s.buffer.now) s.past _ (c.first_no-asked.ensures.asked s.past) yes (IfOk-at_ok _ yes c.first_no-asked.ensures.ends) c.lists_fill-len.ensures.value c.lists_fill-len.ensures.buf_after in
    let phase = day_phase w.numbers.now (night_of s.nights.now) in
    stored_zero w.numbers.now phase s.past s.k s.rec w.accepted (c.advance-x.ensures phase go.seeks go.sound)

pub returns : goal.returns
returns c =
    let s = c.args in
    let yes = asked_yes _ _ c.handed_back.ensures c.in_ok-ends.was in
    let w = s.w.now.numbers.now in
    let over = night_of s.nights.now in
    let phase = day_phase w over in
    let go = ready w s.nights.now s.rec s.k (length s.buffer.now) s.past _ (c.first_no-asked.ensures.asked s.past) yes (IfOk-at_ok _ yes c.first_no-asked.ensures.ends) c.lists_fill-len.ensures.value c.lists_fill-len.ensures.buf_after in
    let told = told_advanced phase s.rec s.k s.past (up_to (day_list_over w over) (nurses w)) s.buffer.now c.advance-x.result (sym (c.first_no-asked.ensures.asked s.past) ∙ ap refusal_in yes)
    (c.advance-x.ensures phase go.seeks go.sound) (c.finished.ensures phase c.roster_given-roster.ensures) c.lists_fill-len.ensures.buf_after in
    record { says = told.0; leaves = told.1 }
