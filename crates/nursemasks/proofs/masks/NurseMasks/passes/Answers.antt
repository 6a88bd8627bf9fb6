use Rattle.nursemasks.proofs.masks.NurseMasks.passes.Goals as goal

pub returns : goal.returns
returns c = c.passes.ensures _ c.args.self.now.hers
