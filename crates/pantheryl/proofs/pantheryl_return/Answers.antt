use Rattle.std.proofs.Common.{◌∙◌}
use Rattle.pantheryl.proofs.AnswerLaws.{returned_yes, returned_no}
use Rattle.pantheryl.proofs.pantheryl_return.Goals as goal

pub returns-in-Ok-clause-keeps : goal.returns-in-Ok-clause-keeps
returns-in-Ok-clause-keeps c = c.words_of.ensures ∙ returned_yes c.args.storage.now c.args.number _ c.args.words.now c.bring_back.ensures c.in-Ok.is

pub returns-in-Err-clause-keeps : goal.returns-in-Err-clause-keeps
returns-in-Err-clause-keeps c = (returned_no c.args.storage.now c.args.number _ c.args.words.now c.bring_back.ensures c.in-Err.is).1
