use Rattle.std.proofs.Common.{◌≤◌, ◌≡◌, ◌+◌}
use Rattle.nights.specs.Nights.{follow, starts}
use Rattle.nights.specs.Hers.{shifted}
use Rattle.nights.proofs.HersLaws.{left}
use Rattle.nights.proofs.keeps.Given as goal

abbrev pub invariant-loop-day : goal.invariant-loop-day
invariant-loop-day l =
    (l.last.prev ≤ l.day + 7) × (l.last.run ≤ l.day + 7)
    × (follow l.r l.fn.from.prev l.fn.from.run (shifted l.off (starts l.n l.p)) ≡ follow l.r l.last.prev l.last.run (shifted l.off (left l.p l.n l.day)))
