use Rattle.std.proofs.Common.{ap, sym, ◌∙◌}
use Rattle.std.proofs.Math.Option.{some}
use Rattle.phases.proofs.QuestionLaws.{lacking_more, lacking_stop, lacking_end}
use Rattle.phases.proofs.questions.patterns_asked.Goals as goal

pub loop-i-preserved : goal.loop-i-preserved
loop-i-preserved g c = λ lists e. lacking_more lists _ (c.loop-i.invariant lists e) c.loop-i-test.true (sym (e _ _ c.loop-i-test.true c.has.ensures) ∙ c.if-not-has.false)

pub returns-then-not-has : goal.returns-then-not-has
returns-then-not-has g c = λ lists e.
    ap some c.at.ensures
    ∙ lacking_stop lists _ (c.loop-i.invariant lists e) c.loop-i-test.true (sym (e _ _ c.loop-i-test.true c.has.ensures) ∙ c.if-not-has.true)

pub returns : goal.returns
returns g c = λ lists e. lacking_end lists _ (c.loop-i.invariant lists e) c.loop-i-test.false
