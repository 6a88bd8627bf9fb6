-- A phase of the search, and what the history and the record share of it. Nights are one phase; days over one choice of nights another.
-- A nurse is her index, from 0; her number, in a removal or as a place, is one more.
use Rattle.std.specs.Prelude.{ℕ, zero, suc, ◌+◌, Bool, true, false, cond, not, ◌&&◌, ◌||◌, List, [], ◌∷◌, ◌++◌, leb, ltb, eqb}
use Rattle.std.proofs.Math.Option.{Option, none, some}
use Rattle.numbers.specs.Range.{up_from}
use Rattle.numbers.specs.Sum.{count_to}
use Rattle.refusals.specs.declared.Refusal.{Refusal}
use Rattle.refusals.specs.Refusals.{first, unless}
use Rattle.refusals.specs.Questions as question
use Rattle.history.specs.Slot.{Slot, is_none}

-- an exchange: one nurse is given one pattern
pub record Step : Type 0 where
  pub nurse : ℕ
  pub pattern : ℕ

pub record Phase : Type 0 where
  pub nurses : ℕ
  -- TL
  pub tabu : ℕ
  -- each nurse's own patterns
  pub patterns : ℕ → List ℕ
  -- the penalty of everyone's slots
  pub cost : (ℕ → Slot) → ℕ
  -- by day, the letters of the roster that slots at penalty zero make; by night, no letter
  pub letters : (ℕ → Slot) → List ℕ
  -- the first no of questions 8 and 9, asked of a buffer of so many places
  pub room : ℕ → Option Refusal

-- how many nurses are unplaced
abbrev pub unplaced : Phase → (ℕ → Slot) → ℕ
unplaced P slots = count_to P.nurses (λ i. is_none (slots i))

-- what an advance is handed: k, the number of its buffer's places, and whether it is to go on past zero
pub record Call : Type 0 where
  pub steps : ℕ
  pub places : ℕ
  pub past_zero : Bool

pub data End : Type 0 where
  end_zero end_asked end_none : End

-- a refusal; or the end, the steps made by this advance, the penalty after them, and the roster's letters, none where no roster is given out
pub data Answer : Type 0 where
  refused : Refusal → Answer
  ended : End → ℕ → ℕ → List ℕ → Answer

-- ---- exchanges

-- does the slot hold this pattern?
abbrev pub holds : Slot → ℕ → Bool
holds none p = false
holds (some q) p = eqb q p

-- the exchanges that give nurse i one of these patterns, if she may take it
abbrev pub offers_to : (ℕ → ℕ → Bool) → ℕ → List ℕ → List Step
offers_to may i [] = []
offers_to may i (p ∷ ps) = cond (may i p) (record { nurse = i; pattern = p } ∷ offers_to may i ps) (offers_to may i ps)

-- those of these nurses, each with her own patterns
abbrev pub offers : (ℕ → List ℕ) → (ℕ → ℕ → Bool) → List ℕ → List Step
offers patterns may [] = []
offers patterns may (i ∷ is) = offers_to may i (patterns i) ++ offers patterns may is

-- over all nurses and all patterns of hers that she may take
abbrev pub exchanges : Phase → (ℕ → ℕ → Bool) → List Step
exchanges P may = offers P.patterns may (up_from 0 P.nurses)

-- is s, which leaves penalty c, to be taken before t, which leaves d? The least penalty; then the lowest nurse; then the lowest number
abbrev pub before : ℕ → ℕ → Step → Step → Bool
before c d s t =
    ltb c d || (eqb c d && (ltb s.nurse t.nurse || (eqb s.nurse t.nurse && ltb s.pattern t.pattern)))

abbrev pub lesser : (Step → ℕ) → Step → Option Step → Step
lesser cost s none = s
lesser cost s (some t) = cond (before (cost t) (cost s) t s) t s

-- the exchange to take, where there is one
abbrev pub least : (Step → ℕ) → List Step → Option Step
least cost [] = none
least cost (s ∷ l) = some (lesser cost s (least cost l))

-- ---- advances

-- Up to k steps. Before each: where it is to stop it ends with "zero"; else k made, with "asked"; else no exchange, with "none"
module _ {S : Type 0} (stop : S → Bool) (best : S → Option Step) (make : Step → S → S) where
  unfoldable pub run : ℕ → S → S × End
  run zero s = elim (stop s) [ true ↦ (s, end_zero) | false ↦ (s, end_asked) ]
  run (suc k) s =
      elim (stop s) [
        | true ↦ (s, end_zero)
        | false ↦ elim (best s) [ none ↦ (s, end_none) | some e ↦ run k (make e s) ]
      ]

-- an advance stops at penalty 0, unless it is to go on past zero
abbrev pub stops : Bool → ℕ → Bool
stops past_zero penalty = not past_zero && eqb penalty 0

-- question 7: is k allowed (0 to 10,000), and is steps so far plus k at most 1,000,000? Then 8 and 9
unfoldable pub refusal : Phase → Call → ℕ → Option Refusal
refusal P c steps = first (unless (leb c.steps 10000 && leb (steps + c.steps) 1000000) question.steps 0) (P.room c.places)

-- the roster's letters, given out at penalty zero only
unfoldable pub given : Phase → (ℕ → Slot) → List ℕ
given P slots = cond (eqb (P.cost slots) 0) (P.letters slots) []

-- a list of operations, each handed what the last one left: their answers, in order, and what is left after them
module _ {O A S : Type 0} (act : O → S → A × S) where
  abbrev pub in_turn : List O → S → List A × S
  in_turn [] s = ([], s)
  in_turn (o ∷ os) s =
      let r = act o s in
      let rs = in_turn os r.1 in
      (r.0 ∷ rs.0, rs.1)
