use Rattle.std.proofs.Common.{subst, arith}
use Rattle.fields.specs.Fields.{days, block}
use Rattle.nursemasks.specs.CodeMasks.{AvailableDays}
use Rattle.search.proofs.SlotLaws.{free_under}
use Rattle.search.proofs.slots.free_days.Goals as goal

pub returns : goal.returns
returns c =
    let w = c.args.her.now.ward in
    let free = subst (λ h. AvailableDays (block h.ward.numbers.now h.index) (days h.ward.numbers.now) c.days_of.result c.available_days.result) c.masks_of-hers.ensures c.available_days.ensures in
    free_under _ _ _ w.accepted c.days_of.ensures c.pair_of.ensures free (omega (arith, c.pair_days-off.type_inv)) c.pair_days-off.ensures
