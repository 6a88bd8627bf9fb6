use Rattle.nursemasks.proofs.masks.NurseMasks.available_days.Goals as goal

pub returns : goal.returns
returns c = c.available_days.ensures _ _ _ c.args.self.now.nurse.ward.accepted.days_most c.args.self.now.hers
