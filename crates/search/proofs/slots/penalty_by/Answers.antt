use Rattle.search.proofs.SlotLaws.{penalty_is}
use Rattle.search.proofs.slots.penalty_by.Goals as goal

pub returns : goal.returns
returns c = λ slots a s. penalty_is _ _ _ slots _ c.unplaced-unplaced.ensures a s c.total.ensures c.parts-parts.ensures
