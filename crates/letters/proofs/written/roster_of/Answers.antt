use Rattle.letters.proofs.WriteLaws.{written_start, written_turn}
use Rattle.std.proofs.Common.{arith}
use Rattle.numbers.proofs.MadeLaws.{made_zero}
use Rattle.letters.proofs.written.roster_of.Goals as goal

pub loop-i-init : goal.loop-i-init
loop-i-init c = written_start _ _ _ _ (made_zero _ c.default-roster.ensures.0) c.default-roster.ensures.1

pub loop-i-preserved : goal.loop-i-preserved
loop-i-preserved c = written_turn _ _ _ _ c.loop-i.invariant _ _ _ _ _ c.args.w.now.accepted (omega arith) c.nurse.ensures.0 c.nurse.ensures.1 c.days_of-p.ensures c.days_of-q.ensures c.add_row.ensures.0 c.add_row.ensures.1
