use Rattle.std.proofs.Common.{◌≡◌, suc, ap, ◌∙◌, arith, le-ltb}
use Rattle.phases.proofs.QuestionLaws.{names_within, names_past, hers_at}
use Rattle.phases.proofs.questions.AskedPhase.removal_names.Goals as goal

pub returns-then-i-nurses : goal.returns-then-i-nurses
returns-then-i-nurses c =
    let named : c.args.x.nurse ≡ suc c.in-Some.i = omega (arith, c.in-Some.ensures.0, c.in-Some.ensures.1) in
    names_within _ _ _ named c.nurses.ensures.0 c.if-i-nurses.true
    (c.slot_hers.ensures ∙ hers_at _ c.args.x.has c.args.x.pattern (ap (λ b. b.numbers.now) c.nurse_at.ensures.0) c.nurse_at.ensures.1 c.slot.ensures)

pub returns-else-i-nurses : goal.returns-else-i-nurses
returns-else-i-nurses c =
    let named : c.args.x.nurse ≡ suc c.in-Some.i = omega (arith, c.in-Some.ensures.0, c.in-Some.ensures.1) in
    le-ltb c.in-Some.i _ c.if-i-nurses.false ∙ names_past _ _ _ named c.nurses.ensures.0 c.if-i-nurses.false
