use Rattle.pantheryl.proofs.AnswerLaws.{count_fits}
use Rattle.pantheryl.proofs.put_roster.Goals as goal

pub put_given-requires : goal.put_given-requires
put_given-requires c = count_fits c.requires c.in-Ok.is
