use Rattle.nursemasks.proofs.PairMaskLaws.{fits_where, fits_never}
use Rattle.nursemasks.proofs.pairs.fits.Goals as goal

pub returns-then-days-ne0 : goal.returns-then-days-ne0
returns-then-days-ne0 c = λ w i p k ok l h b each. fits_where w i p k _ _ ok l h c.ranges.days.fits b each c.if-days-ne0.true

pub returns-else-days-ne0 : goal.returns-else-days-ne0
returns-else-days-ne0 c = λ w i p k ok l h b each. fits_never w i p k _ _ ok l h c.ranges.days.fits b each c.if-days-ne0.false
