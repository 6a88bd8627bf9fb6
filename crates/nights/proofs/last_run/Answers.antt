use Rattle.std.proofs.Common.{ℕ, sym, ap, ◌∙◌, arith}
use Rattle.nights.proofs.HersLaws.{lately_all, through_yes, through_no, through_done}
use Rattle.nights.proofs.last_run.Goals as goal
use Rattle.nights.proofs.last_run.Goals.{then-duty-eq2, else-duty-eq2}

pub loop-i-init : goal.loop-i-init
loop-i-init c = rw (c.default-last.ensures.0, c.default-last.ensures.1) (omega arith, omega arith, lately_all _)

pub loop-i-preserved : goal.loop-i-preserved
loop-i-preserved c =
    let b = c.args.numbers.now in
    let l = c.loop-i in
    elim c.if-duty-eq2.branch [
      | then-duty-eq2 w ↦
          rw (w.last-is, w.with-last.ensures.value.0, w.with-last.ensures.value.1) (
            omega arith,
            omega (arith, w.with-last.ensures.value.1, w.with-last.ensures.upper_bound),
            l.invariant.2 ∙ through_yes b l.last.prev l.last.run l.i c.loop-i-test.true (sym c.duty.ensures ∙ w.if-duty-eq2.true),
          )
      | else-duty-eq2 w ↦
          rw w.last-is (omega arith, omega arith, l.invariant.2 ∙ through_no b l.last.prev l.last.run l.i c.loop-i-test.true (λ e. w.if-duty-eq2.false (c.duty.ensures ∙ e)))
    ]

pub returns-clause-prev_value : goal.returns-clause-prev_value
returns-clause-prev_value c =
    let l = c.loop-i in
    let e = l.invariant.2 ∙ through_done c.args.numbers.now l.last.prev l.last.run l.i c.loop-i-test.false in
    (sym (ap (λ (x : ℕ × ℕ). x.0) e), sym (ap (λ (x : ℕ × ℕ). x.1) e))
