use Rattle.fields.specs.Shifts.{place}
use Rattle.margins.proofs.MarginLaws.{GroupsTo}
use Rattle.margins.proofs.part.Part.put_groups.Given as goal

abbrev pub invariant-loop-g : goal.invariant-loop-g
invariant-loop-g l = GroupsTo l.weights l.c.sets.now l.c.needs.now (place l.c.shift) l.column l.d l.fn.self l.self l.g
