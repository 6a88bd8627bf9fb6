-- What the code's own questions come to.
use Rattle.std.specs.Prelude.{ℕ, zero, suc, length}
use Rattle.std.specs.declared.result.Result.{Result}
use Rattle.std.specs.declared.result.Result.TheVariants.{Ok, Err}
use Rattle.refusals.specs.declared.Refusal.{Refusal}
use Rattle.refusals.specs.declared.question.Question.{Question}
use Rattle.refusals.specs.declared.question.Question.TheVariants as named
use Rattle.refusals.specs.Numbers.{number}
use Rattle.refusals.specs.Refusals.{numbered}
use Rattle.codec.specs.declared.Number.{Number}
use Rattle.codec.specs.declared.Fault.{Fault}
use Rattle.codec.specs.declared.Fault.TheVariants.{Ended, Long}
use Rattle.layout.specs.declared.Field.{Field}
use Rattle.layout.specs.Grammar.{Read, good, bad, failed_by, bytes_of}

-- the question that bytes without a number fail
abbrev pub fault_question : Fault → Question
fault_question Ended = named.Whole
fault_question Long = named.Shortest

-- an answer by a question's number, 0 for none
abbrev pub said : ℕ → ℕ → Result (Unit {0}) Refusal
said zero place = Ok tt
said (suc q) place = Err (numbered (suc q) place)

-- a number that is answered so
abbrev pub with_number : Number → Result (Unit {0}) Refusal → Result Number Refusal
with_number n (Ok _) = Ok n
with_number n (Err refusal) = Err refusal

-- questions 1 to 4 of a number that was decoded at the offset `at`
abbrev pub number_asked : Field → ℕ → Result Number Fault → Result Number Refusal
number_asked f at (Ok n) = with_number n (said (failed_by f n.value) at)
number_asked f at (Err fault) = Err (numbered (number (fault_question fault)) at)

-- the answer to 1, 3, 4 and 5, and how many bytes the numbers take
unfoldable pub checked_of : Read → Result ℕ Refusal
unfolding bytes_of
checked_of (good ws) = Ok (length (bytes_of ws))
checked_of (bad n) = Err n
