use Rattle.std.proofs.Common.{◌≤◌, ◌≡◌}
use Rattle.nights.specs.Hers.{through, last_run}
use Rattle.nights.proofs.HersLaws.{lately}
use Rattle.nights.proofs.last_run.Given as goal

abbrev pub invariant-loop-i : goal.invariant-loop-i
invariant-loop-i l = (l.last.prev ≤ l.i) × (l.last.run ≤ l.i) × (last_run l.numbers ≡ through l.last.prev l.last.run (lately l.numbers l.i))
