use Rattle.std.proofs.Common.{◌≡◌, ℕ, ◌<◌, ◌+◌, length, get_or}
use Rattle.fields.specs.Sizes.{row_places}
use Rattle.days.specs.Days.{row_duty}
use Rattle.days.proofs.month.sheet_of.Given as goal

abbrev pub invariant-loop-d : goal.invariant-loop-d
invariant-loop-d l = (length l.row ≡ row_places) × ((t : ℕ) → t < l.d + 7 → get_or l.row t 0 ≡ row_duty l.b.numbers.now l.p 0 t)
