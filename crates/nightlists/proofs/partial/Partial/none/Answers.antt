use Rattle.nightlists.proofs.CommonLaws.{walk_from}
use Rattle.nightlists.proofs.partial.Partial.none.Goals as goal

pub returns : goal.returns
returns c = λ r l. walk_from r c.args.n l c.default.result c.default.ensures
