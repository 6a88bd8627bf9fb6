use Rattle.std.proofs.Common.{sym, ◌∙◌, ne_eqb}
use Rattle.phases.proofs.QuestionLaws.{days_own, days_paired}
use Rattle.phases.proofs.questions.is_days_own.Goals as goal

pub returns-then-pair_of-eq0 : goal.returns-then-pair_of-eq0
returns-then-pair_of-eq0 c = days_own _ _ _ _ (sym c.pair_of.ensures ∙ c.if-pair_of-eq0.true) c.days_of.ensures c.is_day_pattern.ensures

pub returns-else-pair_of-eq0 : goal.returns-else-pair_of-eq0
returns-else-pair_of-eq0 c = ne_eqb _ 0 c.if-pair_of-eq0.false ∙ days_paired _ _ _ _ (λ z. c.if-pair_of-eq0.false (c.pair_of.ensures ∙ z))
