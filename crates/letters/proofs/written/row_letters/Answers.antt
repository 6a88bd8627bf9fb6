use Rattle.std.proofs.Common.{suc, ap, ◌∙◌, length-set, arith}
use Rattle.rows.proofs.RowLaws.{duty_is}
use Rattle.numbers.proofs.BufferLaws.{place_turn}
use Rattle.rows.specs.Rows.{duty_on}
use Rattle.letters.specs.Letters.{letter}
use Rattle.letters.proofs.written.row_letters.Goals as goal

pub loop-d-preserved : goal.loop-d-preserved
loop-d-preserved c =
    let s = c.args in
    let l = c.loop-d in
    let duty = duty_is s.b.now.numbers.now s.p s.q l.d c.mark.ensures.is (c.states-states.ensures l.d c.loop-d-test.true) c.has.ensures c.duty-duty.ensures.is in (
      length-set l.row l.d _ ∙ l.invariant.0,
      place_turn (λ e. letter (duty_on s.b.now.numbers.now s.p s.q (suc e))) l.row l.d _ (omega (arith, l.invariant.0)) l.invariant.1 (c.letter_of.ensures ∙ ap letter duty),
    )
