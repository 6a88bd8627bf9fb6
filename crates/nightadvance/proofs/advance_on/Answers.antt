use Rattle.std.proofs.Common.{length, sym, ap, ◌∙◌, []}
use Rattle.numbers.proofs.MadeLaws.{made_zero}
use Rattle.refusals.specs.Refusals.{refusal_in}
use Rattle.nights.specs.Nights.{common_of}
use Rattle.phases.specs.Phases.{night_phase}
use Rattle.outcomes.specs.Outcomes.{roster_of}
use Rattle.outcomes.proofs.OutcomeLaws.{roster_none, asked_yes, told_exit, told_advanced}
use Rattle.nightadvance.proofs.NightLaws.{clear, ready, night_letters}
use Rattle.nightadvance.proofs.advance_on.Goals as goal

pub returns-in_err-handed_back : goal.returns-in_err-handed_back
returns-in_err-handed_back c =
    let s = c.args in
    let w = s.w.now.numbers.now in
    let told = told_exit (night_phase w) s.rec s.k s.past (common_of w) s.buffer.now _ (c.first_no-asked.ensures s.past) c.handed_back.ensures c.in_err-handed_back.was c.from_residual.ensures.1 in
    record { says = told.0; leaves = told.1 }

pub fill-len-requires : goal.fill-len-requires
fill-len-requires c =
    let s = c.args in
    let yes = asked_yes _ _ c.handed_back.ensures c.in_ok-handed_back.was in
    record { w_in_bounds = (clear s.w.now.numbers.now s.rec s.k (length s.buffer.now) s.past (c.first_no-asked.ensures s.past) yes).room }

pub advance-x-requires : goal.advance-x-requires
advance-x-requires c =
    let s = c.args in
    let w = s.w.now.numbers.now in
    let yes = asked_yes _ _ c.handed_back.ensures c.in_ok-handed_back.was in
    let go = ready w s.rec s.k (length s.buffer.now) s.past _ _ s.w.now.accepted (c.first_no-asked.ensures s.past) yes c.fill-len.ensures.value c.fill-len.ensures.buf_after in
    record { lists = (go.lists_are, go.steps_fit); served_sound = (night_phase w, go.seeks, go.sound) }

pub returns : goal.returns
returns c =
    let s = c.args in
    let w = s.w.now.numbers.now in
    let phase = night_phase w in
    let yes = asked_yes _ _ c.handed_back.ensures c.in_ok-handed_back.was in
    let go = ready w s.rec s.k (length s.buffer.now) s.past [] _ s.w.now.accepted (c.first_no-asked.ensures s.past) yes c.fill-len.ensures.value c.fill-len.ensures.buf_after in
    let given = roster_none (made_zero _ c.default.ensures.0) c.default.ensures.1 ∙ ap roster_of (night_letters w c.advance-x.result) in
    let told = told_advanced phase s.rec s.k s.past (common_of w) s.buffer.now c.advance-x.result (sym (c.first_no-asked.ensures s.past) ∙ ap refusal_in yes)
    (c.advance-x.ensures phase go.seeks go.sound) (c.finished.ensures phase given) c.fill-len.ensures.buf_after in
    record { says = told.0; leaves = told.1 }
