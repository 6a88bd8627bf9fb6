use Rattle.std.proofs.Common.{refl, sym, ◌∙◌, List, ℕ}
use Rattle.fields.specs.Fields.{nurses}
use Rattle.ward.proofs.ReadLaws.{lent_reading, lent_bad}
use Rattle.outcomes.proofs.OutcomeLaws.{asked_yes, exit_handed}
use Rattle.planner.proofs.AnswerLaws.{reading_good}
use Rattle.planner.proofs.FileLaws.{file_refused, file_advanced}
use Rattle.daylists.specs.Lists.{up_to, day_lists}
use Rattle.layout.specs.Grammar.{Read}
use Rattle.phases.specs.Phases.{day_phase, night_of}
use Rattle.planner.specs.Left.{lists_of, day_left}
use Rattle.planner.proofs.advance_days.Goals as goal

pub returns-in_err-count : goal.returns-in_err-count
unfolding day_left
returns-in_err-count c =
    let s = c.args in
    let back = exit_handed _ _ c.handed_back.ensures c.in_err-count.was c.from_residual.ensures.1 in
    let told = file_refused (λ (w : List ℕ). day_phase w (night_of s.nights.now)) (λ (x : Read). lists_of x s.nights.now) s.file.now s.rec s.k s.past s.buffer.now
    (lent_bad s.file.now (sym back.0 ∙ c.read_into-read.ensures.says)) in
    record { says = back.1 ∙ told.0; leaves = told.1 }

pub returns : goal.returns
unfolding day_left
returns c =
    let s = c.args in
    let reading = lent_reading s.file.now _ (sym (asked_yes _ _ c.handed_back.ensures c.in_ok-count.was) ∙ c.read_into-read.ensures.says, c.read_into-read.ensures.leaves) in
    let told = file_advanced (λ (w : List ℕ). day_phase w (night_of s.nights.now)) (λ (x : Read). lists_of x s.nights.now) s.file.now s.rec s.k s.past s.buffer.now
    (λ w. up_to (day_lists w s.nights.now) (nurses w)) (λ ws. refl) (reading_good s.file.now _ reading) c.of.ensures (c.advance_on.ensures.says, c.advance_on.ensures.leaves) in
    record { says = told.0; leaves = told.1 }
