use Rattle.layout.proofs.PlaceLaws.{pairs_left}
use Rattle.layout.proofs.at_pairs.Goals as goal

pub returns : goal.returns
returns c = pairs_left _ _ _ c.at_inner.ensures c.moved.ensures
