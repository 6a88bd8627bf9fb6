-- The record, and the advances that know nothing else of the past, on a record of any content.
use Rattle.std.specs.Prelude.{ℕ, zero, suc, ◌-◌, min, Bool, true, false, not, ◌&&◌, ◌||◌, List, [], ◌∷◌, ltb, eqb, length, take}
use Rattle.std.proofs.Math.Option.{Option, none, some}
use Rattle.numbers.specs.Range.{up_from, all}
use Rattle.refusals.specs.Refusals.{numbered}
use Rattle.refusals.specs.Questions as question
use Rattle.history.specs.Slot.{Slot, exchanged}
use Rattle.history.specs.Phase.{Step, Phase, Answer, ended, End, holds, exchanges, least, run, stops, given}
use Rattle.refusals.specs.declared.Refusal.{Refusal}
use Rattle.history.specs.History.{History, in_use}

-- one of the TL places: a nurse's number, from 1, with the pattern that she gave up, or with none where the step placed her
pub record Removal : Type 0 where
  pub nurse : ℕ
  pub pattern : Slot

-- everyone's pattern or none; the last TL removals, the last one first; all steps so far
pub record Record : Type 0 where
  pub slots : ℕ → Slot
  pub removals : List Removal
  pub steps : ℕ

-- ---- the record of a history

-- what each step took away, the last one first
abbrev pub removals : History → List Removal
removals [] = []
removals (s ∷ h) = record { nurse = suc s.nurse; pattern = in_use h s.nurse } ∷ removals h

-- the record holds the history's patterns in use, removals and length
unfoldable pub record_of : Phase → History → Record
record_of P h = record { slots = in_use h; removals = take P.tabu (removals h); steps = length h }

-- ---- a step

-- fresh: everyone unplaced, no steps made
abbrev pub fresh : Record
fresh = record { slots = λ i. none; removals = []; steps = 0 }

-- is p one that these removals bar for the nurse of this number? One that she gave up, herself
abbrev pub barred : List Removal → ℕ → ℕ → Bool
barred [] number p = false
barred (r ∷ rs) number p = (eqb number r.nurse && holds r.pattern p) || barred rs number p

-- neither in use by her nor given up by her in the last TL steps
unfoldable pub may_take : Record → ℕ → ℕ → Bool
may_take r i p = not (holds (r.slots i) p) && not (barred r.removals (suc i) p)

unfoldable pub total : Phase → Record → ℕ
total P r = P.cost r.slots

-- the penalty that an exchange results in
abbrev pub cost_after : Phase → Record → Step → ℕ
cost_after P r s = P.cost (exchanged r.slots s.nurse s.pattern)

-- the exchange that a step takes
unfoldable pub best : Phase → Record → Option Step
best P r = least (cost_after P r) (exchanges P (may_take r))

-- the record after a step: a step that places a nurse uses one of the TL places, with no pattern
unfoldable pub stepped : ℕ → Step → Record → Record
stepped tl s r =
    record {
      slots = exchanged r.slots s.nurse s.pattern;
      removals = take tl (record { nurse = suc s.nurse; pattern = r.slots s.nurse } ∷ r.removals);
      steps = suc r.steps;
    }

-- ---- questions 10 and 11

-- question 10: has every nurse a pattern? The place is the lowest nurse without
abbrev pub lacking : (ℕ → List ℕ) → List ℕ → Option Refusal
lacking patterns [] = none
lacking patterns (i ∷ is) = elim (patterns i) [ [] ↦ some (numbered question.patterns (suc i)) | p ∷ ps ↦ lacking patterns is ]

-- is p in the list?
abbrev pub among : List ℕ → ℕ → Bool
among [] p = false
among (q ∷ l) p = eqb q p || among l p

-- one of nurse i's own, or none
abbrev pub hers : Phase → ℕ → Slot → Bool
hers P i none = true
hers P i (some p) = among (P.patterns i) p

-- a removal names a nurse, with one of hers or with none
abbrev pub names : Phase → ℕ → Slot → Bool
names P zero s = false
names P (suc i) s = ltb i P.nurses && hers P i s

abbrev pub all_name : Phase → List Removal → Bool
all_name P [] = true
all_name P (r ∷ rs) = names P r.nurse r.pattern && all_name P rs

-- question 11, but for unused fields: each placed nurse holds one of her own, each removal names a nurse, with one of hers or with none,
-- and there are as many removals as steps so far but not above TL
unfoldable pub sound : Phase → Record → Bool
sound P r =
    all (λ i. hers P i (r.slots i)) (up_from 0 P.nurses)
    && (all_name P r.removals && eqb (length r.removals) (min r.steps P.tabu))

-- ---- advances

unfoldable pub proceed : Phase → Bool → ℕ → Record → Record × End
proceed P past_zero k r = run (λ x. stops past_zero (total P x)) (best P) (stepped P.tabu) k r

-- the answers of an advance that took the record r to where it ended
unfoldable pub reply_of : Phase → Record → Record × End → Answer × Record
reply_of P r q = (ended q.1 (q.0.steps - r.steps) (total P q.0) (given P q.0.slots), q.0)
