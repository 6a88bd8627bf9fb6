-- Demand 3 for nights and for days: one claim about a whole list of operations over the same ward file, advances, keepings and returns, each handed the record
-- and the storage that the last one left, from the fresh record and storage of zeros. `advance_nights`, `advance_days` and `check_says` are what the published
-- calls promise to answer, and keepings and returns are those of `perform`.
use Rattle.std.specs.Prelude.{ℕ, ◌<◌, ◌≡◌, Bool, true, ◌≢◌, List, [], ◌∷◌, get_or, replicate}
use Rattle.std.proofs.Math.Option.{some}
use Rattle.fields.specs.Fields.{body_of, nurses}
use Rattle.layout.specs.Grammar.{good, bad}
use Rattle.ward.specs.Answers.{read_ward}
use Rattle.nights.specs.Own.{own_pattern, pattern_list}
use Rattle.penalty.specs.Penalty.{night_penalty}
use Rattle.history.specs.Phase.{Answer, refused, ended, in_turn}
use Rattle.refusals.specs.declared.Refusal.{Refusal}
use Rattle.history.specs.Record.{Record}
use Rattle.history.specs.Session.{Operation, Answered, advanced, stored, Session, known}
use Rattle.history.specs.Claim.{Demand3, AllRefused, Refusing}
use Rattle.search.specs.Stored.{all_zero, store}
use Rattle.search.specs.declared.Record.{Record as Stored}
use Rattle.keeping.specs.Storage.{has_room}
use Rattle.keeping.specs.Operations.{perform, held}
use Rattle.phases.specs.Phases.{night_phase, day_phase, day_list_over, night_of}
use Rattle.planner.specs.Advances.{advance_nights, advance_days}
use Rattle.planner.specs.Answers.{check_says}
use Rattle.std.specs.declared.result.Result.TheVariants.{Ok}
use Rattle.outcomes.specs.declared.Verdict.TheVariants.{Passed}

-- by night, every nurse has a pattern
abbrev pub NightPatterns : List ℕ → Type 0
NightPatterns w = (i : ℕ) → i < nurses w → pattern_list w i ≢ []

-- by day, every nurse has a day pattern over those nights
abbrev pub DayPatterns : List ℕ → (ℕ → ℕ) → Type 0
DayPatterns w nights = (i : ℕ) → i < nurses w → day_list_over w nights i ≢ []

-- an advance gives out a roster exactly where it leaves penalty zero, whatever its end, and the check says yes to it
abbrev pub Rightly : List ℕ → Answer → Type 0
Rightly file (refused n) = Unit
Rightly file (ended e steps penalty roster) = (penalty ≡ 0 → check_says file roster ≡ Ok Passed) × (penalty ≢ 0 → roster ≡ [])

-- nights are settled before days: each night pattern with its pair is hers, at night penalty 0
pub record Settled (w : List ℕ) (nights : ℕ → ℕ) : Type 0 where
  pub hers : (i : ℕ) → i < nurses w → own_pattern w i (nights i) ≡ true
  pub at_zero : night_penalty w (λ i. some (nights i)) ≡ 0

abbrev pub UnlessRefused : Type 0 → Answer → Type 0
UnlessRefused Q (refused n) = Unit
UnlessRefused Q (ended e steps penalty roster) = Q

-- each advance of a list of answers
abbrev pub Each : (Answer → Type 0) → List Answered → Type 0
Each Q [] = Unit
Each Q (advanced a ∷ l) = Q a × Each Q l
Each Q (stored n ∷ l) = Each Q l

-- Below, a search keeps its record and what is lent as storage in memory of type M, with or without room for eight records: `start` is the fresh record and
-- storage of zeros, `by_night` and `by_day` are its operations over the file, by day over a choice of nights, and `image` says how it holds the records of a
-- session: the planner's own calls as `search::Record` and words of storage, C all as words.

-- a list of day operations over the file of the ward whose body is w and one choice of nights
pub record DayDemand (file w nights : List ℕ) (room : Bool) {M : Type 0} (start : M) (perform : Operation → M → Answered × M) (image : Session Record → M)
    (ops : List Operation) : Type 0 where
  pub claim : Demand3 (day_phase w (night_of nights)) room start perform image ops
  pub rosters : Each (Rightly file) (in_turn perform ops start).0
  pub settled : Each (UnlessRefused (Settled w (night_of nights))) (in_turn perform ops start).0

-- both searches over the file of the ward whose body is w: where every nurse has a pattern, and where some nurse has none
pub record Demand (file w : List ℕ) (room : Bool) {M : Type 0} (start : M) (by_night : Operation → M → Answered × M) (by_day : List ℕ → Operation → M → Answered × M)
    (image : Session Record → M) : Type 0 where
  pub nights : NightPatterns w → (ops : List Operation) → Demand3 (night_phase w) room start by_night image ops
  pub no_nights : Refusing (night_phase w) room start by_night image
  pub days : (nights : List ℕ) → DayPatterns w (night_of nights) → (ops : List Operation) → DayDemand file w nights room start (by_day nights) image ops
  pub no_days : (nights : List ℕ) → Refusing (day_phase w (night_of nights)) room start (by_day nights) image

-- a file that the reader refuses: so is every advance over it, with the same question and place
pub record Unread (room : Bool) {M : Type 0} (start : M) (by_night : Operation → M → Answered × M) (by_day : List ℕ → Operation → M → Answered × M)
    (image : Session Record → M) (n : Refusal) : Type 0 where
  pub nights : (ops : List Operation) → AllRefused room start by_night image (λ c. n) ops
  pub days : (nights : List ℕ) (ops : List Operation) → AllRefused room start (by_day nights) image (λ c. n) ops

-- For every file of bytes, whether the reader accepts it or not, and storage of any number of words.
pub record DemandedOf {M : Type 0} (start : ℕ → M) (by_night : List ℕ → Operation → M → Answered × M) (by_day : List ℕ → List ℕ → Operation → M → Answered × M)
    (image : ℕ → Session Record → M) : Type 0 where
  pub accepted : (file ws : List ℕ) → ((i : ℕ) → get_or file i 0 < 256) → read_ward file ≡ good ws → (words : ℕ)
      → Demand file (body_of ws) (has_room words) (start words) (by_night file) (by_day file) (image words)
  pub unread : (file : List ℕ) (n : Refusal) → read_ward file ≡ bad n → (words : ℕ)
      → Unread (has_room words) (start words) (by_night file) (by_day file) (image words) n

-- memory at the start of a search: the fresh record, and so many words of storage, all zeros
abbrev pub start_of : ℕ → Stored × List ℕ
start_of words = (all_zero, replicate words 0)

-- how memory holds the records of a session
abbrev pub image_of : ℕ → Session Record → Stored × List ℕ
image_of words s = held words (known store s)

-- of the published calls; proofs/DemandLaws shows it
abbrev pub Demanded : Type 0
Demanded = DemandedOf start_of (λ file. perform (advance_nights file)) (λ file nights. perform (advance_days file nights)) image_of
