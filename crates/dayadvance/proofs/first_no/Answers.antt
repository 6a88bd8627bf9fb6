use Rattle.std.proofs.Common.{◌∙◌, ap, sym}
use Rattle.refusals.specs.Refusals.{refusal_in}
use Rattle.refusals.proofs.OrderLaws.{first_yes, first_last}
use Rattle.phases.proofs.ExitLaws.{exit_no}
use Rattle.dayadvance.proofs.DayLaws.{in_order, after_nights, after_room, lists_asked, record_of_days}
use Rattle.dayadvance.proofs.first_no.Goals as goal

pub returns-in_err-steps_asked-clause-asked : goal.returns-in_err-steps_asked-clause-asked
returns-in_err-steps_asked-clause-asked c = λ past_zero.
    let s = c.args in
    exit_no _ _ c.steps_asked.ensures c.in_err-steps_asked.was c.from_residual.ensures.1 ∙ in_order s.w.now.numbers.now s.nights.now s.rec s.k s.places past_zero

pub returns-in_err-nights_asked-clause-asked : goal.returns-in_err-nights_asked-clause-asked
returns-in_err-nights_asked-clause-asked c = λ past_zero.
    let s = c.args in
    exit_no _ _ c.nights_asked.ensures c.in_err-nights_asked.was c.from_residual-in_err-nights_asked.ensures.1
    ∙ first_yes _ c.steps_asked.ensures c.in_ok-steps_asked.was ∙ in_order s.w.now.numbers.now s.nights.now s.rec s.k s.places past_zero

pub returns-in_err-ends-clause-asked : goal.returns-in_err-ends-clause-asked
returns-in_err-ends-clause-asked c = λ past_zero.
    let s = c.args in
    exit_no _ _ c.lists_asked.ensures.asked c.in_err-ends.was c.from_residual-in_err-ends.ensures.1
    ∙ after_nights s.w.now.numbers.now s.nights.now s.rec s.k s.places past_zero c.steps_asked.ensures c.in_ok-steps_asked.was c.nights_asked.ensures c.in_ok-nights_asked.was

pub returns-in_err-days_lacking-clause-asked : goal.returns-in_err-days_lacking-clause-asked
returns-in_err-days_lacking-clause-asked c = λ past_zero.
    let s = c.args in
    let w = s.w.now.numbers.now in
    exit_no _ _ (lists_asked w s.nights.now s.rec s.k s.places c.nurses.ensures.0 c.in_ok-ends.ensures.ends c.days_lacking.ensures) c.in_err-days_lacking.was c.from_residual-in_err-days_lacking.ensures.1
    ∙ after_room w s.nights.now s.rec s.k s.places past_zero c.steps_asked.ensures c.in_ok-steps_asked.was c.nights_asked.ensures c.in_ok-nights_asked.was c.lists_asked.ensures.asked c.in_ok-ends.was

pub returns-in_err-record_asked-clause-asked : goal.returns-in_err-record_asked-clause-asked
returns-in_err-record_asked-clause-asked c = λ past_zero.
    let s = c.args in
    let w = s.w.now.numbers.now in
    exit_no _ _ (record_of_days w _ s.rec c.record_asked.ensures) c.in_err-record_asked.was c.from_residual-in_err-record_asked.ensures.1 ∙ first_last _
    ∙ first_yes _ (lists_asked w s.nights.now s.rec s.k s.places c.nurses.ensures.0 c.in_ok-ends.ensures.ends c.days_lacking.ensures) c.in_ok-days_lacking.was
    ∙ after_room w s.nights.now s.rec s.k s.places past_zero c.steps_asked.ensures c.in_ok-steps_asked.was c.nights_asked.ensures c.in_ok-nights_asked.was c.lists_asked.ensures.asked c.in_ok-ends.was

pub returns-clause-asked : goal.returns-clause-asked
returns-clause-asked c = λ past_zero.
    let s = c.args in
    let w = s.w.now.numbers.now in
    sym (ap refusal_in c.in_ok-record_asked.was) ∙ record_of_days w _ s.rec c.record_asked.ensures
    ∙ first_yes _ (lists_asked w s.nights.now s.rec s.k s.places c.nurses.ensures.0 c.in_ok-ends.ensures.ends c.days_lacking.ensures) c.in_ok-days_lacking.was
    ∙ after_room w s.nights.now s.rec s.k s.places past_zero c.steps_asked.ensures c.in_ok-steps_asked.was c.nights_asked.ensures c.in_ok-nights_asked.was c.lists_asked.ensures.asked c.in_ok-ends.was
