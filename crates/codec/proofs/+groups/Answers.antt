use Rattle.std.proofs.Common.{◌-◌, ◌∙◌, arith}
use Rattle.codec.proofs.+groups.Goals as goal
use Rattle.codec.specs.Groups.{under}
use Rattle.codec.proofs.CodecLaws.{at_end, first_byte, last_low, last_good, too_long, further, below_first, below_further, pow_most, passed_on}

pub returns-in_default-clause-is : goal.returns-in_default-clause-is
returns-in_default-clause-is t c = at_end c.args.more c.args.least _ c.in_default.ensures.cases

pub returns-then-b-least-clause-is : goal.returns-then-b-least-clause-is
returns-then-b-least-clause-is t c = last_low c.args.more c.args.least c.in-Some.ensures.cases.0 c.if-b-lt128.true c.if-b-least.true

pub returns-then-b-lt128-clause-is : goal.returns-then-b-lt128-clause-is
returns-then-b-lt128-clause-is t c = rw c.from.ensures (last_good c.args.more c.args.least c.in-Some.ensures.cases.0 c.if-b-lt128.true c.if-b-least.false)

pub returns-then-b-lt128-clause-below : goal.returns-then-b-lt128-clause-below
returns-then-b-lt128-clause-below t c = rw c.from.ensures (below_first c.args.more c.if-b-lt128.true)

pub returns-then-more-eq0-clause-is : goal.returns-then-more-eq0-clause-is
returns-then-more-eq0-clause-is t c = too_long c.args.more c.args.least c.in-Some.ensures.cases.0 c.if-b-lt128.false c.if-more-eq0.true

pub returns-in_err-next-clause-is : goal.returns-in_err-next-clause-is
unfolding under
returns-in_err-next-clause-is t c =
    passed_on _ c.from_residual.ensures.1 ∙ further c.args.more c.args.least c.in-Some.ensures.cases.0 (c.args.more - 1) _ c.if-b-lt128.false (omega arith) c.in_err-next.ensures.is

pub overflow_mul-result : goal.overflow_mul-result
overflow_mul-result t c =
    omega (arith, c.in_ok-next.ensures.below.0, pow_most (c.args.more - 1) (omega arith))

pub overflow_add-result : goal.overflow_add-result
overflow_add-result t c =
    omega (arith, c.in_ok-next.ensures.below.0, pow_most (c.args.more - 1) (omega arith), c.from-2.ensures, c.in-Some.b-is, first_byte c.in-Some.ensures.cases.0 (c.type_inv.file 0).fits)

pub returns-clause-is : goal.returns-clause-is
unfolding under
returns-clause-is t c =
    rw c.from-2.ensures (further c.args.more c.args.least c.in-Some.ensures.cases.0 (c.args.more - 1) _ c.if-b-lt128.false (omega arith) c.in_ok-next.ensures.is)

pub returns-clause-below : goal.returns-clause-below
returns-clause-below t c =
    let b = first_byte c.in-Some.ensures.cases.0 (c.type_inv.file 0).fits in
    rw c.from-2.ensures (below_further _ _ c.args.more (c.args.more - 1) b (omega arith) c.in_ok-next.ensures.below.0, omega (arith, c.in_ok-next.ensures.below.1))
