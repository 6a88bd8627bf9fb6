use Rattle.search.proofs.SlotLaws.{row_more}
use Rattle.search.proofs.slots.with_row.Goals as goal

pub returns : goal.returns
returns c = λ slots same s. row_more _ c.args.rec _ _ slots _ c.days.ensures.0 c.pattern_in-p.ensures c.sets_of-sets.ensures c.with_nurse.ensures same s
