use Rattle.std.proofs.Common.{sym, ◌∙◌}
use Rattle.ward.proofs.ReadLaws.{lent_reading, lent_bad}
use Rattle.phases.proofs.ExitLaws.{exit_err}
use Rattle.planner.proofs.AnswerLaws.{check_refused, check_says_lem}
use Rattle.planner.proofs.check.Goals as goal

pub returns-in_err-count : goal.returns-in_err-count
returns-in_err-count c =
    exit_err c.from_residual.ensures.1 ∙ check_refused c.args.file.now c.args.roster.now (lent_bad c.args.file.now (sym c.in_err-count.was ∙ c.read_into.ensures.says))

pub returns : goal.returns
returns c =
    let reading = lent_reading c.args.file.now _ (sym c.in_ok-count.was ∙ c.read_into.ensures.says, c.read_into.ensures.leaves) in
    check_says_lem c.args.file.now c.args.roster.now _ reading c.of.ensures c.check_letters.ensures
