-- The number of each question.
use Rattle.std.specs.Prelude.{ℕ, List, [], ◌∷◌, ◌-◌, get_or, ◌≡◌, refl}
use Rattle.refusals.specs.declared.question.Question.{Question}
use Rattle.refusals.specs.declared.question.Question.TheVariants as question
use Rattle.refusals.specs.Questions as numbers

abbrev pub number : Question → ℕ
number question.Whole = numbers.whole
number question.Shortest = numbers.shortest
number question.Range = numbers.range
number question.Duty = numbers.duty
number question.End = numbers.end
number question.Bytes = numbers.bytes
number question.Steps = numbers.steps
number question.Nights = numbers.nights
number question.Lists = numbers.lists
number question.Patterns = numbers.patterns
number question.Record = numbers.record_sound
number question.Letters = numbers.letters
number question.Storage = numbers.storage

-- the questions in their order
abbrev pub questions : List Question
questions =
    question.Whole ∷ question.Shortest ∷ question.Range ∷ question.Duty ∷ question.End ∷ question.Bytes ∷ question.Steps ∷ question.Nights ∷ question.Lists ∷ question.Patterns ∷ question.Record ∷ question.Letters ∷ question.Storage ∷ []

-- the question of a number, and the first for a number that none has
abbrev pub question_of : ℕ → Question
question_of n = get_or questions (n - 1) question.Whole

pub question_back : (q : Question) → question_of (number q) ≡ q
question_back question.Whole = refl
question_back question.Shortest = refl
question_back question.Range = refl
question_back question.Duty = refl
question_back question.End = refl
question_back question.Bytes = refl
question_back question.Steps = refl
question_back question.Nights = refl
question_back question.Lists = refl
question_back question.Patterns = refl
question_back question.Record = refl
question_back question.Letters = refl
question_back question.Storage = refl
