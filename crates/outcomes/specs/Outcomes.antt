-- What an advance hands back, by its answer: its refusal with the record in hand, or what it comes to; and what stands in the buffer.
use Rattle.std.specs.Prelude.{ℕ, ◌-◌, Bool, List, [], ◌++◌, length, drop, replicate}
use Rattle.fields.specs.Sizes.{letter_places}
use Rattle.history.specs.Phase.{Call, Answer, refused, ended, End, end_zero, end_asked, end_none}
use Rattle.search.specs.declared.Record.{Record as Stored}
use Rattle.std.specs.declared.result.Result.{Result}
use Rattle.std.specs.declared.result.Result.TheVariants.{Ok, Err}
use Rattle.refusals.specs.declared.Refusal.{Refusal}
use Rattle.search.specs.declared.Ending.{Ending}
use Rattle.search.specs.declared.Ending.TheVariants.{Zero, Asked, None}
use Rattle.letters.specs.declared.written.Roster.{Roster}
use Rattle.outcomes.specs.declared.Advance.{Advance}
use Rattle.outcomes.specs.declared.Refused.{Refused}

-- the end of an advance as the code says it
abbrev pub ending_of : End → Ending
ending_of end_zero = Zero
ending_of end_asked = Asked
ending_of end_none = None

-- a roster's letters from the start, 0 after them, and their count
unfoldable pub roster_of : List ℕ → Roster
roster_of l = record { letters = l ++ replicate (letter_places - length l) 0; count = length l }

-- a refusal, with the record in hand
abbrev pub refused_with : Refusal → Stored → Refused
refused_with n r = record { refusal = n; in_hand = r }

-- an answer, with the record in hand where it is a no
abbrev pub handed_back : {T : Type 0} → Result T Refusal → Stored → Result T Refused
handed_back (Ok x) r = Ok x
handed_back (Err n) r = Err (refused_with n r)

-- The answer and the record as the call gives them. A no gives the refusal; the record comes back as it was.
unfoldable pub advance_of : Answer × Stored → Result Advance Refused
advance_of (refused n, r) = Err (refused_with n r)
advance_of (ended e made pen letters, r) = Ok (record { after = r; penalty = pen; steps = made; ending = ending_of e; roster = roster_of letters })

-- the letters that are given out: by day at penalty zero, else none
abbrev pub letters_of : Answer → List ℕ
letters_of (refused n) = []
letters_of (ended e made pen letters) = letters

-- a list written from the buffer's start, the rest untouched; a refused call writes nothing
unfoldable pub left_by : Answer → List ℕ → List ℕ → List ℕ
left_by (refused n) list buffer = buffer
left_by (ended e made pen roster) list buffer = list ++ drop (length list) buffer

-- k, past zero or not, and the places of the buffer
abbrev pub call_of : ℕ → Bool → ℕ → Call
call_of k past_zero places = record { steps = k; places = places; past_zero = past_zero }
