use Rattle.std.proofs.Common.{rules, tests, refl, sym, ◌∙◌}
use Rattle.numbers.proofs.IterLaws.{all_below}
use Rattle.history.specs.Record.{hers}
use Rattle.search.specs.Stored.{slot_at}
use Rattle.phases.specs.CodeQuestions.{phase_of}
use Rattle.phases.proofs.QuestionLaws.{phase_nurses}
use Rattle.phases.proofs.questions.AskedPhase.slots_hers.Goals as goal

pub returns : goal.returns
returns c =
    let nurses = phase_nurses c.args.self.now.ward.now.numbers.now c.args.self.now.which in
    all_below (λ i. hers (phase_of c.args.self.now.which c.args.self.now.ward.now.numbers.now) i (slot_at c.args.rec i)) _ _ c.all.ensures.ran refl (c.nurses.ensures.0 ∙ sym nurses)
    (λ x b q k. search (rules, tests))
