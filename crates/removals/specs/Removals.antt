-- The removals as they are stored, and which fields of a stored record are not in use.
use Rattle.std.specs.Prelude.{ℕ, Bool, true, false, cond, not, ◌&&◌, ◌||◌, List, ltb, eqb, get_or}
use Rattle.std.proofs.Math.Option.{none, some}
use Rattle.history.specs.Slot.{Slot}
use Rattle.history.specs.Record.{Removal}
use Rattle.removals.specs.declared.Removal.{Removal as StoredRemoval}

-- ---- what is stored

-- a flag and a pattern
abbrev pub slot : Bool → ℕ → Slot
slot true p = some p
slot false p = none

abbrev pub removal_of : StoredRemoval → Removal
removal_of x = record { nurse = x.nurse; pattern = slot x.has x.pattern }

-- a slot's pattern, 0 where there is none, and its flag
abbrev pub pattern_of : Slot → ℕ
pattern_of none = 0
pattern_of (some p) = p

abbrev pub flag_of : Slot → Bool
flag_of none = false
flag_of (some p) = true

abbrev pub stored_removal : Removal → StoredRemoval
stored_removal x = record { nurse = x.nurse; has = flag_of x.pattern; pattern = pattern_of x.pattern }

-- an unused place
abbrev pub no_removal : StoredRemoval
no_removal = record { nurse = 0; has = false; pattern = 0 }

-- ---- unused fields

-- an unplaced nurse's pattern; past nurse m the pattern and the flag
abbrev pub slot_zero : ℕ → List Bool → List ℕ → ℕ → Bool
slot_zero m placed patterns i =
    cond (ltb i m) (get_or placed i false || eqb (get_or patterns i 0) 0) (not (get_or placed i false) && eqb (get_or patterns i 0) 0)

-- the pattern of a removal with none; past the n removals held, all
abbrev pub removal_zero : ℕ → List StoredRemoval → ℕ → Bool
removal_zero n rs j =
    let x = get_or rs j no_removal in
    cond (ltb j n) (x.has || eqb x.pattern 0) (eqb x.nurse 0 && (not x.has && eqb x.pattern 0))
