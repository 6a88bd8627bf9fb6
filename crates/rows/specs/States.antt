-- The states of a day by their numbers: open (O) is 0, the night's first day (N) 1, its second day (n) 2, owed rest (R) 3.
use Rattle.std.specs.Prelude.{ℕ}
use Rattle.rows.specs.declared.State.{State}
use Rattle.rows.specs.declared.State.TheVariants.{Open, Night, Second, Rest}

abbrev pub code : State → ℕ
code Open = 0
code Night = 1
code Second = 2
code Rest = 3
