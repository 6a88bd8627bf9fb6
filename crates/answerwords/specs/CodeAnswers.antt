-- The words that the code gives of what an advance hands back.
use Rattle.std.specs.Prelude.{ℕ, List}
use Rattle.std.specs.declared.result.Result.{Result}
use Rattle.std.specs.declared.result.Result.TheVariants.{Ok, Err}
use Rattle.refusals.specs.declared.Refusal.{Refusal}
use Rattle.search.specs.CodeSeek.{end_by}
use Rattle.outcomes.specs.declared.Advance.{Advance}
use Rattle.answerwords.specs.AnswerWords.{refusal_words, done_words, end_word}

abbrev pub result_words : Result Advance Refusal → List ℕ
result_words (Err n) = refusal_words n
result_words (Ok x) = done_words (end_word (end_by x.ending)) x.steps x.penalty x.roster.count
