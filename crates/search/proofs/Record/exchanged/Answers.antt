use Rattle.search.proofs.ViewLaws.{exchanged_is}
use Rattle.search.proofs.Record.exchanged.Goals as goal

pub returns : goal.returns
returns c = exchanged_is _ _ _ _ c.removal_by-removal.ensures c.push-pushed.ensures
