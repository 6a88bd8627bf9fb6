use Rattle.phases.proofs.QuestionLaws.{own_night, own_day}
use Rattle.phases.proofs.questions.is_hers.Goals as goal

pub returns-in-Nights : goal.returns-in-Nights
returns-in-Nights c = own_night _ _ _ c.args.her.now.ward.accepted c.in-Nights.is c.is_own.ensures

pub returns-in-Days : goal.returns-in-Days
returns-in-Days c = own_day _ _ _ c.in-Days.is c.is_days_own.ensures
