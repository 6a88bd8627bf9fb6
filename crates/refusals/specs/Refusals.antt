-- A refusal: the question's number, and a place.
use Rattle.std.specs.Prelude.{ℕ, Bool, true, false}
use Rattle.std.proofs.Math.Option.{Option, none, some}
use Rattle.std.specs.declared.result.Result.{Result}
use Rattle.std.specs.declared.result.Result.TheVariants.{Ok, Err}
use Rattle.refusals.specs.declared.Refusal.{Refusal}

abbrev pub numbered : ℕ → ℕ → Refusal
numbered question place = record { question = question; place = place }

-- the refusal in an answer
abbrev pub refusal_in : {A : Type 0} → Result A Refusal → Option Refusal
refusal_in (Ok _) = none
refusal_in (Err refusal) = some refusal

-- the answer with this refusal, or with none
abbrev pub answer_by : Option Refusal → Result (Unit {0}) Refusal
answer_by none = Ok tt
answer_by (some refusal) = Err refusal

-- ---- questions in order

-- a question that is answered yes, or a no with its number and place
abbrev pub unless : Bool → ℕ → ℕ → Option Refusal
unless true question place = none
unless false question place = some (numbered question place)

-- the first no of two
abbrev pub first : Option Refusal → Option Refusal → Option Refusal
first none b = b
first (some a) b = some a
