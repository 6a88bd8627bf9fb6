use Rattle.std.proofs.Common.{◌≡◌, ◌+◌, ◌*◌, length}
use Rattle.daylists.specs.CodeWalk.{Filled}
use Rattle.daylists.proofs.reach.write_day.Given as goal

abbrev pub invariant-loop-s : goal.invariant-loop-s
invariant-loop-s l = (length l.ways ≡ 4096) × Filled l.sheet.month l.sheet.row l.ways (64 * l.d + l.s)
