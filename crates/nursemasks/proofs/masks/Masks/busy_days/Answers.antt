use Rattle.nursemasks.proofs.MaskLaws.{masks_row}
use Rattle.nursemasks.proofs.PairMaskLaws.{busy_row}
use Rattle.nursemasks.proofs.masks.Masks.busy_days.Goals as goal

pub returns : goal.returns
returns c = λ r n b small is. busy_row b _ c.row_of-row.result (masks_row r n _ b _ is c.row_of-row.result (c.row_of-row.ensures b))
