use Rattle.std.proofs.Math.Path.{fun_ext}
use Rattle.numbers.proofs.put_bit.Goals as goal
use Rattle.numbers.proofs.DigitLaws.{has_set, has_clear}

pub returns-then-on : goal.returns-then-on
returns-then-on c = rw c.if-on.true (fun_ext (has_set 64 c.args.column c.args.i c.requires))

pub returns-else-on : goal.returns-else-on
returns-else-on c = rw c.if-on.false (fun_ext (has_clear 64 c.args.column c.args.i c.ranges.column.fits c.requires))
