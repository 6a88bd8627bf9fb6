use Rattle.std.proofs.Common.{refl, sym, ◌∙◌}
use Rattle.ward.proofs.ReadLaws.{lent_reading, lent_bad}
use Rattle.outcomes.proofs.OutcomeLaws.{asked_yes, exit_handed}
use Rattle.planner.proofs.AnswerLaws.{reading_good}
use Rattle.planner.proofs.FileLaws.{file_refused, file_advanced}
use Rattle.nights.specs.Nights.{common_of}
use Rattle.phases.specs.Phases.{night_phase}
use Rattle.planner.specs.Left.{list_of, night_left}
use Rattle.planner.proofs.advance_nights.Goals as goal

pub returns-in_err-count : goal.returns-in_err-count
unfolding night_left
returns-in_err-count c =
    let s = c.args in
    let back = exit_handed _ _ c.handed_back.ensures c.in_err-count.was c.from_residual.ensures.1 in
    let told = file_refused night_phase list_of s.file.now s.rec s.k s.past s.buffer.now (lent_bad s.file.now (sym back.0 ∙ c.read_into-asked.ensures.says)) in
    record { says = back.1 ∙ told.0; leaves = told.1 }

pub returns : goal.returns
unfolding night_left
returns c =
    let s = c.args in
    let reading = lent_reading s.file.now _ (sym (asked_yes _ _ c.handed_back.ensures c.in_ok-count.was) ∙ c.read_into-asked.ensures.says, c.read_into-asked.ensures.leaves) in
    let told = file_advanced night_phase list_of s.file.now s.rec s.k s.past s.buffer.now common_of (λ ws. refl) (reading_good s.file.now _ reading) c.of.ensures (c.advance_on.ensures.says, c.advance_on.ensures.leaves) in
    record { says = told.0; leaves = told.1 }
