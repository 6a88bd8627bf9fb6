use Rattle.std.proofs.Common.{ℕ, List, sym, ap, ◌∙◌, arith}
use Rattle.nights.specs.Nights.{follow}
use Rattle.nights.specs.Hers.{shifted}
use Rattle.nights.proofs.HersLaws.{left_all, follow_yes, follow_no, follow_done}
use Rattle.nights.proofs.keeps.Goals as goal
use Rattle.nights.proofs.keeps.Goals.{then-has+else-not-allows, else-has}

pub loop-day-init : goal.loop-day-init
loop-day-init c =
    let s = c.args in
    let r = s.r in
    let n = s.n in
    (omega arith, omega arith, ap (λ (l : List ℕ). follow r s.from.prev s.from.run (shifted s.off l)) (sym (left_all s.p n)))

pub returns-then-not-allows : goal.returns-then-not-allows
returns-then-not-allows c =
    let s = c.args in
    let r = s.r in
    let n = s.n in
    let l = c.loop-day in
    sym (l.invariant.2
    ∙ follow_yes r l.last.prev l.last.run s.off s.p n l.day (omega (arith, c.loop-day-test.true)) (sym c.has.ensures ∙ c.if-has.true)
    ∙ rw (sym c.allows.ensures ∙ c.if-not-allows.true))

pub loop-day-preserved : goal.loop-day-preserved
loop-day-preserved c =
    let s = c.args in
    let r = s.r in
    let n = s.n in
    let l = c.loop-day in
    elim c.if-has.branch [
      | then-has+else-not-allows w ↦
          rw (w.last-is, w.with-last.ensures.value.0, w.with-last.ensures.value.1) (
            omega arith,
            omega (arith, w.with-last.ensures.value.1, w.with-last.ensures.upper_bound),
            l.invariant.2
                ∙ follow_yes r l.last.prev l.last.run s.off s.p n l.day (omega (arith, c.loop-day-test.true)) (sym c.has.ensures ∙ w.if-has.true)
                ∙ rw (sym w.allows.ensures ∙ w.if-not-allows.false),
          )
      | else-has w ↦
          rw w.last-is (omega arith, omega arith, l.invariant.2 ∙ follow_no r l.last.prev l.last.run s.off s.p n l.day (omega (arith, c.loop-day-test.true)) (sym c.has.ensures ∙ w.if-has.false))
    ]

pub returns : goal.returns
returns c =
    let s = c.args in
    let r = s.r in
    let n = s.n in
    let l = c.loop-day in
    sym (l.invariant.2 ∙ follow_done r l.last.prev l.last.run s.off s.p n l.day (omega (arith, c.loop-day-test.false)))
