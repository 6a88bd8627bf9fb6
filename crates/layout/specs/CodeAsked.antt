-- The number of the question that a field's number fails, as the code answers it.
use Rattle.std.specs.Prelude.{ℕ}
use Rattle.std.specs.declared.result.Result.{Result}
use Rattle.std.specs.declared.result.Result.TheVariants.{Ok, Err}
use Rattle.refusals.specs.declared.question.Question.{Question}
use Rattle.refusals.specs.Numbers.{number}

-- 0 where it fails none
abbrev pub asked : Result (Unit {0}) Question → ℕ
asked (Ok _) = 0
asked (Err q) = number q
