use Rattle.codec.proofs.PutLaws.{Put}
use Rattle.codec.proofs.put.Given as goal

abbrev pub invariant-loop-byte : goal.invariant-loop-byte
invariant-loop-byte l = Put l.fn.v l.byte-items l.byte-index l.w
