use Rattle.std.proofs.Common.{length, ◌-◌}
use Rattle.layout.specs.CodePlace.{tree}
use Rattle.ward.proofs.ReadLaws.{So}
use Rattle.ward.proofs.read_into.Given as goal

abbrev pub invariant-loop-field : goal.invariant-loop-field
invariant-loop-field l = So l.file l.numbers l.count l.at (tree l.c)

abbrev pub decreases-loop-field : goal.decreases-loop-field
decreases-loop-field l = length l.file - l.at
