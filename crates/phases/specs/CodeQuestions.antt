-- The phase that an advance searches, and what its questions are answered by.
use Rattle.std.specs.Borrow.{Bor}
use Rattle.std.specs.Prelude.{ℕ, ◌≤◌, ◌<◌, ◌≡◌, false, List, length, get_or, Option, Some, None}
use Rattle.std.proofs.Math.Option.{none, some}
use Rattle.fields.specs.Fields.{nurses}
use Rattle.daylists.specs.Lists.{up_to}
use Rattle.history.specs.Phase.{Phase}
use Rattle.history.specs.Slot.{Slot}
use Rattle.search.specs.declared.Record.{Record as Stored}
use Rattle.search.specs.declared.Searched.{Searched}
use Rattle.search.specs.declared.Searched.TheVariants.{Nights, Days}
use Rattle.phases.specs.Phases.{night_phase, day_phase, night_of}

-- which search a record is asked of: by day over these nights
abbrev pub Which : Type 0
Which = Searched (Bor (List ℕ))

-- by night the nights; by day the days over these night patterns, one for each nurse
unfoldable pub phase_of : Which → List ℕ → Phase
phase_of Nights w = night_phase w
phase_of (Days nights) w = day_phase w (night_of nights.now)

-- a slot as the code hands it on
abbrev pub slot_in : Option ℕ → Slot
slot_in None = none
slot_in (Some p) = some p

-- list i of m stands from place i of these ends to the next
unfoldable pub EndsOf : (ℕ → List ℕ) → ℕ → List ℕ → Type 0
EndsOf lists m ends = (k : ℕ) → k ≤ m → get_or ends k 0 ≡ length (up_to lists k)

-- an unplaced nurse's pattern is 0
unfoldable pub UnplacedZero : List ℕ → Stored → Type 0
UnplacedZero w r = (i : ℕ) → i < nurses w → get_or r.placed i false ≡ false → get_or r.patterns i 0 ≡ 0
