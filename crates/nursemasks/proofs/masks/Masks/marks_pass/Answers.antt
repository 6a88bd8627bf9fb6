use Rattle.nursemasks.proofs.MaskLaws.{masks_row, masks_allow}
use Rattle.nursemasks.proofs.masks.Masks.marks_pass.Goals as goal

pub returns : goal.returns
returns c = λ r n b small is. masks_allow r n _ b _ is small c.row_of-row.result (masks_row r n _ b _ is c.row_of-row.result (c.row_of-row.ensures b))
