use Rattle.std.proofs.Common.{arith, inl, inr, ◌+◌}
use Rattle.margins.proofs.MarginLaws.{IfLess, step}
use Rattle.margins.proofs.part.more.Goals.{then-bounds-count, else-bounds-count, then-count-bounds, else-count-bounds}
use Rattle.margins.proofs.part.more.Goals as goal

pub returns : goal.returns
returns c =
    let a = c.args in
    let short : IfLess a.count a.bounds.low c.wt.inside.u c.if-count-bounds.short = elim c.if-count-bounds.branch [
      | then-count-bounds w ↦ inl (omega (arith, w.if-count-bounds.true), w.short-is)
      | else-count-bounds w ↦ inr (omega (arith, w.if-count-bounds.false), w.short-is)
    ] in
    let over : IfLess a.bounds.high (a.count + 1) c.wt.inside.v c.if-bounds-count.over = elim c.if-bounds-count.branch [
      | then-bounds-count w ↦ inl (omega (arith, w.if-bounds-count.true), w.over-is)
      | else-bounds-count w ↦ inr (omega (arith, w.if-bounds-count.false), w.over-is)
    ] in
    let stepped = step _ a.bounds.low a.bounds.high a.count c.wt.invariant short over in
    rw (← c.wt.view_is) (omega (arith, stepped), omega (arith, stepped))
