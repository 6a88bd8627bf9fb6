use Rattle.std.proofs.Common.{◌≡◌, take}
use Rattle.nightlists.specs.CodeWalk.{leaves}
use Rattle.nightlists.proofs.gathering.BufferGathering.add_leaves.Given as goal

abbrev pub invariant-loop-day : goal.invariant-loop-day
invariant-loop-day l = take l.day l.place-items ≡ leaves l.fn.from l.day
