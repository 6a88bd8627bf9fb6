-- What is barred for a nurse, as the code gathers it.
use Rattle.std.specs.Prelude.{Bool, false, List, map, ℕ, eqb, Option, Some, None}
use Rattle.history.specs.Record.{barred}
use Rattle.removals.specs.Removals.{removal_of}
use Rattle.removals.specs.declared.Removal.{Removal as StoredRemoval}

-- the pattern in use by her, and every removal's
abbrev pub bar_places : ℕ
bar_places = 65

-- the pattern in use by her is p
abbrev pub is_current : Option ℕ → ℕ → Bool
is_current None p = false
is_current (Some q) p = eqb q p

-- the nurse of this number gave up the pattern p in one of these removals: as the record bars it
abbrev pub given_up_by : List StoredRemoval → ℕ → ℕ → Bool
given_up_by held number p = barred (map removal_of held) number p
