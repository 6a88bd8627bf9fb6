use Rattle.std.proofs.Common.{rules}
use Rattle.pantheryl.proofs.AnswerLaws.{told_words, left_words, left_roster, roster_fits}
use Rattle.pantheryl.proofs.pantheryl_advance_days.Goals as goal

pub returns-clause-says : goal.returns-clause-says
returns-clause-says c =
    rw (← c.record_of-rec.ensures, ← c.patterns_of-over.ensures, ← c.flag_of-beyond.ensures) (told_words _ c.advance_days-advanced.ensures.says (search rules) c.advance_words.ensures)

pub returns-clause-keeps : goal.returns-clause-keeps
returns-clause-keeps c =
    rw (← c.record_of-rec.ensures, ← c.patterns_of-over.ensures, ← c.flag_of-beyond.ensures) (left_words _ c.advance_days-advanced.ensures.says (search rules) c.args.words.now c.put_record.ensures)

pub put_roster-requires : goal.put_roster-requires
put_roster-requires c = roster_fits _ c.advance_days-advanced.ensures.says (search rules)

pub returns-clause-gives : goal.returns-clause-gives
returns-clause-gives c =
    rw (← c.record_of-rec.ensures, ← c.patterns_of-over.ensures, ← c.flag_of-beyond.ensures) (left_roster _ c.advance_days-advanced.ensures.says (search rules) c.args.roster.now c.put_roster.ensures)
