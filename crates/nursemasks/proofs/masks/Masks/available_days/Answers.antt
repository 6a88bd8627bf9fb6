use Rattle.nursemasks.proofs.MaskLaws.{masks_row, masks_available}
use Rattle.nursemasks.proofs.masks.Masks.available_days.Goals as goal

pub returns : goal.returns
returns c = λ r n b small is. masks_available r n _ b _ is small c.row_of-row.result (masks_row r n _ b _ is c.row_of-row.result (c.row_of-row.ensures b))
