-- What a list of operations makes of a search, from what each is handed alone: advances, and searches that are kept under a number and brought back.
use Rattle.std.specs.Prelude.{ℕ, Bool, cond, ◌&&◌, List, [], leb, eqb}
use Rattle.std.proofs.Math.Option.{Option, none, some, map}
use Rattle.refusals.specs.declared.Refusal.{Refusal}
use Rattle.refusals.specs.Refusals.{numbered}
use Rattle.refusals.specs.Questions as question
use Rattle.history.specs.Phase.{Phase, Call, Answer, in_turn}
use Rattle.history.specs.History.{History, advance}

-- an advance; a keeping of the search in hand under a number; a return to the search that is kept under a number
pub data Operation : Type 0 where
  operation_advance : Call → Operation
  operation_keep : ℕ → Operation
  operation_return : ℕ → Operation

-- what it answers: an advance its answer; a keeping or a return its refusal, or none where it is done
pub data Answered : Type 0 where
  advanced : Answer → Answered
  stored : Option Refusal → Answered

-- the search in hand, and the searches kept under numbers. T is what a search is known by: its history, or its record
pub record Session (T : Type 0) : Type 0 where
  pub in_hand : T
  pub kept : ℕ → Option T

-- a search of its own, nothing kept
abbrev pub begun : {T : Type 0} → T → Session T
begun search = record { in_hand = search; kept = λ n. none }

-- the same session, its searches known by something else
abbrev pub known : {T U : Type 0} → (T → U) → Session T → Session U
known f s = record { in_hand = f s.in_hand; kept = λ n. map f (s.kept n) }

-- what is kept once this search is kept under n, in place of what was
abbrev pub kept_with : {T : Type 0} → (ℕ → Option T) → ℕ → T → ℕ → Option T
kept_with kept n search m = cond (eqb m n) (some search) (kept m)

-- a search is kept under a number from 1 to 8
abbrev pub keep_number : ℕ → Bool
keep_number n = leb 1 n && leb n 8

-- question 13, at place 0, the only question that a keeping and a return ask
abbrev pub no13 : Option Refusal
no13 = some (numbered question.storage 0)

-- ---- one operation

-- `advance` says what an advance answers, and the search after it; `room`, whether the storage has room for eight records. A refused operation changes nothing
module _ {T : Type 0} (advance : Call → T → Answer × T) (room : Bool) where
  unfoldable pub act : Operation → Session T → Answered × Session T
  act (operation_advance c) s = let a = advance c s.in_hand in (advanced a.0, record { in_hand = a.1; kept = s.kept })
  act (operation_keep n) s =
      cond (room && keep_number n)
      (stored none, record { in_hand = s.in_hand; kept = kept_with s.kept n s.in_hand })
      (stored no13, s)
  act (operation_return n) s =
      elim (s.kept n) [
        | none ↦ (stored no13, s)
        | some search ↦ cond (room && keep_number n) (stored none, record { in_hand = search; kept = s.kept }) (stored no13, s)
      ]

-- ---- a list of operations, from fresh

unfoldable pub answers : Phase → Bool → List Operation → List Answered
answers P room ops = (in_turn (act (advance P) room) ops (begun [])).0

unfoldable pub session : Phase → Bool → List Operation → Session History
session P room ops = (in_turn (act (advance P) room) ops (begun [])).1
