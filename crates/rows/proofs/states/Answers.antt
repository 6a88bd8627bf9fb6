use Rattle.std.proofs.Common.{◌≡◌, ◌+◌, suc, ap, ap₂, sym, ◌∙◌, add-one, length-set, arith}
use Rattle.numbers.proofs.BufferLaws.{seen_turn}
use Rattle.rows.specs.States.{code}
use Rattle.rows.specs.Rows.{row_state, state_after}
use Rattle.rows.specs.declared.State.TheVariants.{Open}
use Rattle.rows.proofs.RowLaws.{row_turn}
use Rattle.rows.proofs.states.Goals as goal

pub loop-d-preserved : goal.loop-d-preserved
loop-d-preserved c =
    let b = c.args.numbers.now in
    let p = c.args.p in
    let l = c.loop-d in
    let next = c.state_after-state.result in
    let there : code next ≡ row_state b p (l.d + 1) = c.state_after-state.ensures ∙ ap₂ state_after l.invariant.1 c.has.ensures ∙ sym (row_turn b p l.d) in (
      length-set l.states l.d next ∙ l.invariant.0,
      there,
      seen_turn code Open (λ e. row_state b p (suc e)) l.states l.d next (omega (arith, l.invariant.0)) l.invariant.2 (there ∙ ap (row_state b p) (add-one l.d)),
    )
