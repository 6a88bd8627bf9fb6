use Rattle.std.proofs.Common.{◌*◌}
use Rattle.daylists.specs.CodeWalk.{Filled}
use Rattle.daylists.proofs.reach.write_table.Given as goal

abbrev pub invariant-loop-d : goal.invariant-loop-d
invariant-loop-d l = Filled l.sheet.month l.sheet.row l.ways (64 * l.d)
