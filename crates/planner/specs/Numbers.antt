-- The number in a refusal: of every published call and any input it is that of one of the thirteen questions.
use Rattle.std.specs.Prelude.{ℕ, ◌≤◌, ◌≡◌, Bool, List, length}
use Rattle.std.proofs.Math.Option.{Option, some}
use Rattle.ward.specs.Answers.{reading_of, read_ward, counted, check_ward, writing_of}
use Rattle.ward.specs.declared.Ward.{Ward}
use Rattle.refusals.specs.declared.Refusal.{Refusal}
use Rattle.refusals.specs.Refusals.{answer_by}
use Rattle.history.specs.Phase.{Call}
use Rattle.search.specs.Stored.{advance_stored}
use Rattle.search.specs.declared.Record.{Record as Stored}
use Rattle.phases.specs.Phases.{night_phase, day_phase}
use Rattle.outcomes.specs.Outcomes.{advance_of, call_of}
use Rattle.keeping.specs.Storage.{keep_no, returned_of}
use Rattle.planner.specs.Advances.{advance_nights, advance_days}
use Rattle.planner.specs.Answers.{check_says}
use Rattle.planner.specs.Demand1.{Bytes, no_in_result, no_in_handed}

abbrev pub OneOfThirteen : ℕ → Type 0
OneOfThirteen q = (1 ≤ q) × (q ≤ 13)

-- the refusal in a result, if there is one, has such a number
abbrev pub RefusedByOne : {R : Type 0} → R → (R → Option Refusal) → Type 0
RefusedByOne result no_in = (x : Refusal) → no_in result ≡ some x → OneOfThirteen x.question

-- proofs/NumberLaws shows it
pub record RefusalNumbers : Type 0 where
  pub read : (file : List ℕ) → Bytes file → RefusedByOne (reading_of (read_ward file)) no_in_result
  pub write : (w : Ward) (buffer : List ℕ) → RefusedByOne (writing_of (length buffer) (check_ward (counted w))) no_in_result
  pub nights : (file : List ℕ) → Bytes file → (r : Stored) (k : ℕ) (past_zero : Bool) (buffer : List ℕ)
      → RefusedByOne (advance_of (advance_nights file (call_of k past_zero (length buffer)) r)) no_in_handed
  pub days : (file : List ℕ) → Bytes file → (nights : List ℕ) (r : Stored) (k : ℕ) (past_zero : Bool) (buffer : List ℕ)
      → RefusedByOne (advance_of (advance_days file nights (call_of k past_zero (length buffer)) r)) no_in_handed
  pub check : (file : List ℕ) → Bytes file → (roster : List ℕ) → RefusedByOne (check_says file roster) no_in_result
  pub keep : (number : ℕ) (storage : List ℕ) → RefusedByOne (answer_by (keep_no storage number)) no_in_result
  pub bring_back : (r : Stored) (number : ℕ) (storage : List ℕ) → RefusedByOne (returned_of storage number r) no_in_handed
  -- and of an advance over numbers that were read
  pub nights_on : (w : List ℕ) (c : Call) (r : Stored) → RefusedByOne (advance_of (advance_stored (night_phase w) c r)) no_in_handed
  pub days_on : (w : List ℕ) (nights : ℕ → ℕ) (c : Call) (r : Stored) → RefusedByOne (advance_of (advance_stored (day_phase w nights) c r)) no_in_handed
