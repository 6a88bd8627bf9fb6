-- What an advance answers and the record that it hands back, from the bytes of a ward file: questions 1 to 5 first, then the search.
use Rattle.std.specs.Prelude.{ℕ, List}
use Rattle.fields.specs.Fields.{body_of}
use Rattle.layout.specs.Grammar.{Read, good, bad}
use Rattle.ward.specs.Answers.{read_ward}
use Rattle.history.specs.Phase.{Phase, Call, Answer, refused}
use Rattle.search.specs.Stored.{advance_stored}
use Rattle.search.specs.declared.Record.{Record as Stored}
use Rattle.phases.specs.Phases.{night_phase, day_phase, night_of}

-- over what the reader says of the file
unfoldable pub advance_over : (List ℕ → Phase) → Read → Call → Stored → Answer × Stored
advance_over phase (bad n) c r = (refused n, r)
advance_over phase (good ws) c r = advance_stored (phase (body_of ws)) c r

abbrev pub advance_nights : List ℕ → Call → Stored → Answer × Stored
advance_nights file c r = advance_over night_phase (read_ward file) c r

abbrev pub advance_days : List ℕ → List ℕ → Call → Stored → Answer × Stored
advance_days file nights c r = advance_over (λ w. day_phase w (night_of nights)) (read_ward file) c r
