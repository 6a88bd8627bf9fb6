-- Demand 1 in one record: for every published call and any input, a refusal comes exactly for the fault that it names, at its place, no earlier question
-- being a no, and then the result is that refusal, with the record that was handed in where the call hands one back, and all that was lent or handed in is what
-- it was. That a call otherwise answers is its contract's equation.
use Rattle.refusals.specs.Refusals.{numbered, answer_by}
use Rattle.std.specs.declared.result.Result.{Result}
use Rattle.std.specs.declared.result.Result.TheVariants.{Ok, Err}
use Rattle.std.specs.Prelude.{ℕ, ◌≤◌, ◌<◌, ◌≡◌, Bool, List, length, get_or}
use Rattle.std.proofs.Math.Option.{Option, none, some}
use Rattle.layout.specs.Layout.{ward}
use Rattle.layout.specs.Faults.{FileFault, FileGood}
use Rattle.ward.specs.Answers.{read_ward, reading_of, counted, check_ward, writing_of, left_of}
use Rattle.ward.specs.declared.Ward.{Ward}
use Rattle.refusals.specs.declared.Refusal.{Refusal}
use Rattle.search.specs.Stored.{Sized}
use Rattle.search.specs.declared.Record.{Record as Stored}
use Rattle.phases.specs.Phases.{night_of}
use Rattle.outcomes.specs.declared.Refused.{Refused}
use Rattle.outcomes.specs.Outcomes.{refused_with, advance_of, call_of}
use Rattle.planner.specs.Advances.{advance_nights, advance_days}
use Rattle.planner.specs.Answers.{check_says}
use Rattle.planner.specs.Left.{night_left, day_left}
use Rattle.history.specs.Questions.{FirstNo}
use Rattle.keeping.specs.Storage.{keep_no, kept_in, returned_to, returned_of}
use Rattle.planner.specs.Faults.{night_questions, day_questions, check_questions, keep_questions, return_questions, FileNo, WriterNo}

-- A call that gives `result`: `no_in` reads the refusal off it, `refused_by` is the result of a refusal, and Left says that what was lent or handed in
-- is what it was.
pub record Refuses {R : Type 0} (Fault : ℕ → ℕ → Type 0) (result : R) (no_in : R → Option Refusal) (refused_by : ℕ → ℕ → R) (Left : Type 0) : Type 0 where
  -- only for the fault that it names
  pub only : (q p : ℕ) → no_in result ≡ some (numbered q p) → Fault q p
  -- and wherever it is
  pub always : (q p : ℕ) → Fault q p → (result ≡ refused_by q p) × Left

-- ---- the refusal in a result

abbrev pub no_in_result : {T : Type 0} → Result T Refusal → Option Refusal
no_in_result (Ok x) = none
no_in_result (Err n) = some n

-- of a call that hands a record back
abbrev pub no_in_handed : {T : Type 0} → Result T Refused → Option Refusal
no_in_handed (Ok x) = none
no_in_handed (Err x) = some x.refusal

-- the result of a refusal; and with the record as it was handed in
abbrev pub refused_by : {T : Type 0} → ℕ → ℕ → Result T Refusal
refused_by q p = Err (numbered q p)

abbrev pub handed_by : {T : Type 0} → Stored → ℕ → ℕ → Result T Refused
handed_by r q p = Err (refused_with (numbered q p) r)

-- ---- the calls

-- the file is one of bytes
abbrev pub Bytes : List ℕ → Type 0
Bytes file = (i : ℕ) → get_or file i 0 < 256

abbrev pub ReadRefuses : List ℕ → Type 0
ReadRefuses file = Refuses (FileFault ward file) (reading_of (read_ward file)) no_in_result refused_by Unit

abbrev pub WriteRefuses : Ward → List ℕ → Type 0
WriteRefuses w buffer =
    Refuses (WriterNo (counted w) (length buffer)) (writing_of (length buffer) (check_ward (counted w))) no_in_result refused_by
    (left_of buffer (check_ward (counted w)) ≡ buffer)

-- a refused advance hands the record back as it was handed in
abbrev pub NightsRefuse : List ℕ → Stored → ℕ → Bool → List ℕ → Type 0
NightsRefuse file r k past_zero buffer =
    let c = call_of k past_zero (length buffer) in
    let a = advance_nights file c r in
    Refuses (FileNo file (night_questions c r)) (advance_of a) no_in_handed (handed_by r) ((a.1 ≡ r) × (night_left file r k past_zero buffer ≡ buffer))

abbrev pub DaysRefuse : List ℕ → List ℕ → Stored → ℕ → Bool → List ℕ → Type 0
DaysRefuse file nights r k past_zero buffer =
    let c = call_of k past_zero (length buffer) in
    let a = advance_days file nights c r in
    Refuses (FileNo file (day_questions (night_of nights) c r)) (advance_of a) no_in_handed (handed_by r) ((a.1 ≡ r) × (day_left file nights r k past_zero buffer ≡ buffer))

abbrev pub CheckRefuses : List ℕ → List ℕ → Type 0
CheckRefuses file roster = Refuses (FileNo file (check_questions roster)) (check_says file roster) no_in_result refused_by Unit

abbrev pub KeepRefuses : Stored → ℕ → List ℕ → Type 0
KeepRefuses r number storage =
    Refuses (FirstNo (keep_questions storage number)) (answer_by (keep_no storage number)) no_in_result refused_by (kept_in storage number r ≡ storage)

-- a refused return hands back the record in hand
abbrev pub ReturnRefuses : Stored → ℕ → List ℕ → Type 0
ReturnRefuses r number storage =
    Refuses (FirstNo (return_questions storage number)) (returned_of storage number r) no_in_handed (handed_by r) (returned_to storage number r ≡ r)

-- proofs/Demand1Laws shows it
pub record Demand1 : Type 0 where
  pub read : (file : List ℕ) → Bytes file → ReadRefuses file
  pub write : (w : Ward) (buffer : List ℕ) → WriteRefuses w buffer
  pub nights : (file : List ℕ) → Bytes file → (r : Stored) → Sized r → (k : ℕ) (past_zero : Bool) (buffer : List ℕ) → NightsRefuse file r k past_zero buffer
  pub days : (file : List ℕ) → Bytes file → (nights : List ℕ) (r : Stored) → Sized r → (k : ℕ) (past_zero : Bool) (buffer : List ℕ)
      → DaysRefuse file nights r k past_zero buffer
  pub check : (file : List ℕ) → Bytes file → (roster : List ℕ) → CheckRefuses file roster
  pub keep : (r : Stored) (number : ℕ) (storage : List ℕ) → KeepRefuses r number storage
  pub bring_back : (r : Stored) (number : ℕ) (storage : List ℕ) → ReturnRefuses r number storage
  -- the longest file has 4,203 bytes: 4,190 of edition one's numbers, 2 that lead to edition two, and 11 of its count and ten pairs
  pub longest : (file ws : List ℕ) → FileGood ward file ws → length file ≤ 4203
  pub longest_there : (file ws : List ℕ) × FileGood ward file ws × (length file ≡ 4203)
