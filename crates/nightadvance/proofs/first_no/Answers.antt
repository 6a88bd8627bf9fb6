use Rattle.std.proofs.Common.{◌∙◌}
use Rattle.refusals.proofs.OrderLaws.{first_yes}
use Rattle.phases.proofs.ExitLaws.{exit_no}
use Rattle.nightadvance.proofs.NightLaws.{in_order}
use Rattle.nightadvance.proofs.first_no.Goals as goal

pub returns-in_err-steps_asked : goal.returns-in_err-steps_asked
returns-in_err-steps_asked c = λ past_zero.
    exit_no _ _ c.steps_asked.ensures c.in_err-steps_asked.was c.from_residual.ensures.1
    ∙ in_order c.args.w.now.numbers.now c.args.rec c.args.k c.args.places past_zero

pub returns-in_err-common_asked : goal.returns-in_err-common_asked
returns-in_err-common_asked c = λ past_zero.
    exit_no _ _ c.common_asked.ensures c.in_err-common_asked.was c.from_residual-in_err-common_asked.ensures.1
    ∙ first_yes _ c.steps_asked.ensures c.in_ok-steps_asked.was
    ∙ in_order c.args.w.now.numbers.now c.args.rec c.args.k c.args.places past_zero

pub returns-in_err-nights_lacking : goal.returns-in_err-nights_lacking
returns-in_err-nights_lacking c = λ past_zero.
    exit_no _ _ c.nights_lacking.ensures c.in_err-nights_lacking.was c.from_residual-in_err-nights_lacking.ensures.1
    ∙ first_yes _ c.common_asked.ensures c.in_ok-common_asked.was
    ∙ first_yes _ c.steps_asked.ensures c.in_ok-steps_asked.was
    ∙ in_order c.args.w.now.numbers.now c.args.rec c.args.k c.args.places past_zero

pub returns : goal.returns
returns c = λ past_zero. c.record_asked.ensures
    ∙ first_yes _ c.nights_lacking.ensures c.in_ok-nights_lacking.was
    ∙ first_yes _ c.common_asked.ensures c.in_ok-common_asked.was
    ∙ first_yes _ c.steps_asked.ensures c.in_ok-steps_asked.was
    ∙ in_order c.args.w.now.numbers.now c.args.rec c.args.k c.args.places past_zero
