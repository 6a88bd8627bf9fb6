-- What the advances leave in the buffer, from the bytes of a ward file.
use Rattle.std.specs.Prelude.{ℕ, Bool, List, [], length}
use Rattle.fields.specs.Fields.{body_of, nurses}
use Rattle.layout.specs.Grammar.{Read, good, bad}
use Rattle.ward.specs.Answers.{read_ward}
use Rattle.nights.specs.Nights.{common_of}
use Rattle.daylists.specs.Lists.{up_to, day_lists}
use Rattle.search.specs.declared.Record.{Record as Stored}
use Rattle.outcomes.specs.Outcomes.{left_by, call_of}
use Rattle.planner.specs.Advances.{advance_nights, advance_days}

-- ---- what the night advance leaves

-- the common list of the file's ward
abbrev pub list_of : Read → List ℕ
list_of (bad n) = []
list_of (good ws) = common_of (body_of ws)

unfoldable pub night_left : List ℕ → Stored → ℕ → Bool → List ℕ → List ℕ
night_left file r k past_zero buffer = left_by (advance_nights file (call_of k past_zero (length buffer)) r).0 (list_of (read_ward file)) buffer

-- ---- what the day advance leaves: all nurses' day lists over these nights, each where the one before it ends

abbrev pub lists_of : Read → List ℕ → List ℕ
lists_of (bad n) nights = []
lists_of (good ws) nights = let w = body_of ws in up_to (day_lists w nights) (nurses w)

unfoldable pub day_left : List ℕ → List ℕ → Stored → ℕ → Bool → List ℕ → List ℕ
day_left file nights r k past_zero buffer = left_by (advance_days file nights (call_of k past_zero (length buffer)) r).0 (lists_of (read_ward file) nights) buffer
