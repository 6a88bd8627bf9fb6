use Rattle.std.proofs.Common.{get_or}
use Rattle.numbers.specs.Patterns.{days_of}
use Rattle.letters.proofs.WriteLaws.{WrittenTo}
use Rattle.letters.proofs.written.roster_of.Given as goal

abbrev pub invariant-loop-i : goal.invariant-loop-i
invariant-loop-i l = WrittenTo l.w.numbers.now (λ j. days_of (get_or l.nights j 0)) (λ j. days_of (get_or l.worked j 0)) l.i l.roster
