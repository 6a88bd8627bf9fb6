use Rattle.std.proofs.Common.{◌∙◌}
use Rattle.phases.proofs.QuestionLaws.{sound_unused, sound_removals, sound_slots}
use Rattle.phases.proofs.questions.AskedPhase.record_sound.Goals as goal

pub returns-then-removals_name : goal.returns-then-removals_name
returns-then-removals_name c =
    sound_unused _ _ _ c.args.self.now.ward.now.accepted c.unused_zero-zero.ensures.sized c.slots_hers.ensures c.if-slots_hers.true
    c.removals_name.ensures c.if-removals_name.true c.nurses.ensures.0 c.tabu.ensures.0 c.unused_zero-zero.ensures.zero

pub returns-else-removals_name : goal.returns-else-removals_name
returns-else-removals_name c =
    c.if-removals_name.false
    ∙ sound_removals _ _ _ c.args.self.now.ward.now.accepted c.unused_zero-zero.ensures.sized c.slots_hers.ensures c.if-slots_hers.true c.removals_name.ensures c.if-removals_name.false

pub returns-else-slots_hers : goal.returns-else-slots_hers
returns-else-slots_hers c =
    c.if-slots_hers.false ∙ sound_slots _ _ _ c.args.self.now.ward.now.accepted c.unused_zero-zero.ensures.sized c.slots_hers.ensures c.if-slots_hers.false
