use Rattle.ward.proofs.BufLaws.{Wrote}
use Rattle.ward.proofs.write.Given as goal

abbrev pub invariant-loop-v : goal.invariant-loop-v
invariant-loop-v l = Wrote l.fn.buf l.v-items l.buf l.v-index l.at
