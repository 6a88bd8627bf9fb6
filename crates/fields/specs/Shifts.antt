-- The two shifts, by which a day's numbers are placed: 0 for night and 1 for day.
use Rattle.std.specs.Prelude.{ℕ}
use Rattle.fields.specs.declared.day.Shift.{Shift}
use Rattle.fields.specs.declared.day.Shift.TheVariants.{Night, Day}

abbrev pub place : Shift → ℕ
place Night = 0
place Day = 1
