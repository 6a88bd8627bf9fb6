-- The six words of an answer: question, place, outcome, steps made, penalty, count.
use Rattle.std.specs.Prelude.{ℕ, List, [], ◌∷◌, length}
use Rattle.refusals.specs.declared.Refusal.{Refusal}
use Rattle.std.specs.declared.result.Result.{Result}
use Rattle.std.specs.declared.result.Result.TheVariants.{Ok, Err}
use Rattle.history.specs.Phase.{Answer, refused, ended, End, end_zero, end_asked, end_none}
use Rattle.outcomes.specs.declared.Verdict.{Verdict}
use Rattle.outcomes.specs.declared.Verdict.TheVariants.{Passed, Broken}

-- a refusal: the question's number and its place, and all else 0
abbrev pub refusal_words : Refusal → List ℕ
refusal_words n = n.question ∷ n.place ∷ 0 ∷ 0 ∷ 0 ∷ 0 ∷ []

-- not refused
abbrev pub done_words : ℕ → ℕ → ℕ → ℕ → List ℕ
done_words outcome steps penalty count = 0 ∷ 0 ∷ outcome ∷ steps ∷ penalty ∷ count ∷ []

-- of the reader and the writer: a count of numbers read or of bytes written
abbrev pub counted_words : Result ℕ Refusal → List ℕ
counted_words (Err n) = refusal_words n
counted_words (Ok count) = done_words 0 0 0 count

-- the same of what is refused or done, beside the count
abbrev pub count_words : Result (Unit {0}) Refusal → ℕ → List ℕ
count_words (Err n) count = refusal_words n
count_words (Ok _) count = done_words 0 0 0 count

-- of an advance; the count is that of the roster's letters, 0 where none is given out
abbrev pub end_word : End → ℕ
end_word end_zero = 1
end_word end_asked = 2
end_word end_none = 3

unfoldable pub advance_words : Answer → List ℕ
advance_words (refused n) = refusal_words n
advance_words (ended e made penalty letters) = done_words (end_word e) made penalty (length letters)

-- of the check: 1 for a yes, 2 for a no
abbrev pub check_words : Result Verdict Refusal → List ℕ
check_words (Err n) = refusal_words n
check_words (Ok Passed) = done_words 1 0 0 0
check_words (Ok Broken) = done_words 2 0 0 0
