use Rattle.std.proofs.Common.{ℕ}
use Rattle.history.specs.Slot.{Slot}
use Rattle.penalty.specs.CodeColumns.{Shown}
use Rattle.search.specs.CodeSeek.{Agree}
use Rattle.search.proofs.slots.columns.Given as goal

abbrev pub invariant-loop-i : goal.invariant-loop-i
invariant-loop-i l = (slots : ℕ → Slot) → Agree l.w.numbers.now l.rec slots → Shown l.search l.w.numbers.now slots l.i l.cols
