-- How a record is stored, what a stored record of any content stands for, and the advances over stored records.
use Rattle.std.specs.Prelude.{ℕ, ◌-◌, min, ◌≡◌, Bool, false, cond, ◌&&◌, List, ◌++◌, map, ltb, length, get_or, take, replicate}
use Rattle.std.proofs.Math.Option.{Option, none, some}
use Rattle.fields.specs.Sizes.{nurse_places, removal_places}
use Rattle.numbers.specs.Range.{up_from, all}
use Rattle.history.specs.Slot.{Slot}
use Rattle.history.specs.Phase.{Phase, Call, Answer, refused, refusal}
use Rattle.refusals.specs.declared.Refusal.{Refusal}
use Rattle.refusals.specs.Refusals.{first, unless}
use Rattle.refusals.specs.Questions as question
use Rattle.history.specs.Record.{Record, lacking, names, sound, proceed, reply_of}
use Rattle.removals.specs.Removals.{slot, removal_of, pattern_of, flag_of, stored_removal, no_removal, slot_zero, removal_zero}
use Rattle.search.specs.declared.Record.{Record as Stored}
use Rattle.removals.specs.declared.Removal.{Removal as StoredRemoval}

-- ---- what is stored

-- nurse i's
abbrev pub slot_at : Stored → ℕ → Slot
slot_at r i = slot (get_or r.placed i false) (get_or r.patterns i 0)

-- the removals held: as many as steps so far, but not above TL
abbrev pub held : ℕ → Stored → ℕ
held tl r = min r.steps tl

-- the record of m nurses that r stands for
unfoldable pub view : ℕ → ℕ → Stored → Record
view m tl r =
    record {
      slots = λ i. cond (ltb i m) (slot_at r i) none;
      removals = map removal_of (take (held tl r) r.removals);
      steps = r.steps;
    }

-- n places: those of a list, and d in the rest
abbrev pub padded : {A : Type 0} → ℕ → A → List A → List A
padded n d xs = xs ++ replicate (n - length xs) d

-- how a record is stored: every unused field is 0
unfoldable pub store : Record → Stored
store r =
    record {
      patterns = map (λ i. pattern_of (r.slots i)) (up_from 0 nurse_places);
      placed = map (λ i. flag_of (r.slots i)) (up_from 0 nurse_places);
      removals = padded removal_places no_removal (map stored_removal r.removals);
      steps = r.steps;
    }

-- fresh
abbrev pub all_zero : Stored
all_zero = record { patterns = replicate nurse_places 0; placed = replicate nurse_places false; removals = replicate removal_places no_removal; steps = 0 }

-- ---- unused fields

-- is every unused field 0?
unfoldable pub unused_zero : ℕ → ℕ → Stored → Bool
unused_zero m tl r = all (slot_zero m r.placed r.patterns) (up_from 0 nurse_places) && all (removal_zero (held tl r) r.removals) (up_from 0 removal_places)

-- ---- advances

abbrev pub view_of : Phase → Stored → Record
view_of P r = view P.nurses P.tabu r

-- whether a stored removal names a nurse, with one of hers or with none
abbrev pub names_at : Phase → List StoredRemoval → ℕ → Bool
names_at P rs j = let x = get_or rs j no_removal in names P x.nurse (slot x.has x.pattern)

-- question 11
unfoldable pub sound_stored : Phase → Stored → Bool
sound_stored P r = sound P (view_of P r) && unused_zero P.nurses P.tabu r

-- questions 7 to 11
unfoldable pub refusal_stored : Phase → Call → Stored → Option Refusal
refusal_stored P c r =
    first (refusal P c r.steps) (first (lacking P.patterns (up_from 0 P.nurses)) (unless (sound_stored P r) question.record_sound 0))

-- the answers of an advance of k steps, past zero or not, that is not refused, and the record that it hands back
unfoldable pub reply_stored : Phase → Bool → ℕ → Stored → Answer × Stored
reply_stored P past_zero k r = let a = reply_of P (view_of P r) (proceed P past_zero k (view_of P r)) in (a.0, store a.1)

-- what an advance answers, and the record that it hands back. A refused one hands back the record as it was
unfoldable pub advance_stored : Phase → Call → Stored → Answer × Stored
advance_stored P c r = elim (refusal_stored P c r) [ some n ↦ (refused n, r) | none ↦ reply_stored P c.past_zero c.steps r ]

-- ---- sizes

-- a record's arrays, as long as they are declared
pub record Sized (r : Stored) : Type 0 where
  pub patterns_long : length r.patterns ≡ nurse_places
  pub placed_long : length r.placed ≡ nurse_places
  pub removals_long : length r.removals ≡ removal_places
