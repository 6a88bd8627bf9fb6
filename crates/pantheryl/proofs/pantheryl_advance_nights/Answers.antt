use Rattle.std.proofs.Common.{rules, ◌∙◌}
use Rattle.pantheryl.proofs.AnswerLaws.{told_words, left_words}
use Rattle.pantheryl.proofs.pantheryl_advance_nights.Goals as goal

pub returns-clause-says : goal.returns-clause-says
returns-clause-says c =
    rw (← c.record_of-rec.ensures, ← c.flag_of-beyond.ensures) (search rules ∙ told_words _ c.advance_nights-done.ensures.says (search rules) c.advance_words.ensures)

pub returns-clause-keeps : goal.returns-clause-keeps
returns-clause-keeps c =
    rw (← c.record_of-rec.ensures, ← c.flag_of-beyond.ensures) (left_words _ c.advance_nights-done.ensures.says (search rules) c.args.words.now c.put_record.ensures)
