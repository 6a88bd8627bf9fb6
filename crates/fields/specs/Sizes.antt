-- How many a ward's arrays hold, each said once here and once in src/sizes.rt.
use Rattle.std.specs.Prelude.{ℕ, ◌+◌}

-- the nurses of a ward at most
abbrev pub nurse_places : ℕ
nurse_places = 48

-- the days of a month at most
abbrev pub day_places : ℕ
day_places = 31

-- the days of a nurse's row: the seven before the month, and the month's
abbrev pub row_places : ℕ
row_places = 7 + day_places

-- TL at most
abbrev pub tabu_most : ℕ
tabu_most = 64

-- the removals that a record keeps
abbrev pub removal_places : ℕ
removal_places = 64

-- the pairs of days off at most
abbrev pub pair_most : ℕ
pair_most = 10

-- the numbers of a ward: as many as the editions to come will want at most, so that no array grows with them; edition two wants 4,107
abbrev pub number_places : ℕ
number_places = 4441

-- the letters of a roster at most: those of 48 nurses and 31 days
abbrev pub letter_places : ℕ
letter_places = 1488
