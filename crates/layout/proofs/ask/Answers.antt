use Rattle.std.proofs.Common.{true, false, arith, sym, ◌∙◌, eq-eqb, ne_eqb}
use Rattle.std.proofs.lemmas.Grind.{common_steps}
use Rattle.layout.proofs.AskLaws.{outside, in_range, duty_by}
use Rattle.layout.proofs.ask.Goals as goal

pub returns-then-not-contains : goal.returns-then-not-contains
returns-then-not-contains c = outside _ _ (λ lo. grind (arith, common_steps))

pub returns-then-v-eq3 : goal.returns-then-v-eq3
returns-then-v-eq3 c = duty_by _ _ (grind (arith, common_steps)) (grind (arith, common_steps)) _ true true c.in-Some-eq2.is (eq-eqb _ 2 (sym c.in-Some-eq2.field-0-is ∙ c.in-Some-eq2.field-0-test)) (eq-eqb _ 3 c.if-v-eq3.true)

pub returns-else-v-eq3 : goal.returns-else-v-eq3
returns-else-v-eq3 c = duty_by _ _ (grind (arith, common_steps)) (grind (arith, common_steps)) _ true false c.in-Some-eq2.is (eq-eqb _ 2 (sym c.in-Some-eq2.field-0-is ∙ c.in-Some-eq2.field-0-test)) (ne_eqb _ 3 c.if-v-eq3.false)

pub returns-then-v-eq3-2 : goal.returns-then-v-eq3-2
returns-then-v-eq3-2 c = duty_by _ _ (grind (arith, common_steps)) (grind (arith, common_steps)) _ false true c.in-Some.is (ne_eqb _ 2 (λ q. c.in-Some.field-0-test.1 (c.in-Some.field-0-is ∙ q))) (eq-eqb _ 3 c.if-v-eq3-2.true)

pub returns-else-v-eq3-2 : goal.returns-else-v-eq3-2
returns-else-v-eq3-2 c = duty_by _ _ (grind (arith, common_steps)) (grind (arith, common_steps)) _ false false c.in-Some.is (ne_eqb _ 2 (λ q. c.in-Some.field-0-test.1 (c.in-Some.field-0-is ∙ q))) (ne_eqb _ 3 c.if-v-eq3-2.false)

pub returns-in-None : goal.returns-in-None
returns-in-None c = in_range _ _ (grind (arith, common_steps)) (grind (arith, common_steps)) c.in-None.is
