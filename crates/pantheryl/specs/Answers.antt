-- What each call answers, in the six words of answerwords, and what it leaves in its caller's memory.
use Rattle.std.specs.Prelude.{ℕ, cond, List, ◌++◌, length, drop}
use Rattle.std.specs.declared.result.Result.{Result}
use Rattle.std.specs.declared.result.Result.TheVariants.{Ok, Err}
use Rattle.refusals.specs.declared.Refusal.{Refusal}
use Rattle.ward.specs.declared.Ward.{Ward}
use Rattle.ward.specs.Answers.{count_of}
use Rattle.search.specs.declared.Record.{Record as Stored}
use Rattle.history.specs.Phase.{Answer, refused, ended}
use Rattle.planner.specs.Advances.{advance_nights, advance_days}
use Rattle.outcomes.specs.Outcomes.{letters_of, call_of}
use Rattle.recordwords.specs.Words.{patterns_of_words, flag_of, record_of_words, words_of_record}
use Rattle.keeping.specs.Storage.{may_return, record_at}
use Rattle.answerwords.specs.AnswerWords.{counted_words}

-- ---- the ward

abbrev pub read_words : Result Ward Refusal → List ℕ
read_words r = counted_words (count_of r)

-- what the reader leaves in the numbers; a refused call leaves them as they were
abbrev pub numbers_left : Result Ward Refusal → List ℕ → List ℕ
numbers_left (Err n) before = before
numbers_left (Ok w) before = w.numbers

abbrev pub ward_of : List ℕ → ℕ → Ward
ward_of numbers count = record { numbers = numbers; count = count }

abbrev pub write_words : Result ℕ Refusal → List ℕ
write_words r = counted_words r

-- ---- the advances

-- the record's words after an advance; a refused one leaves them as they were
unfoldable pub words_left : Answer × Stored → List ℕ → List ℕ
words_left (refused n, r) before = before
words_left (ended e made penalty letters, r) before = words_of_record r

-- the roster's places after a day advance: the letters from the start, the rest untouched
unfoldable pub roster_left : Answer → List ℕ → List ℕ
roster_left a before = letters_of a ++ drop (length (letters_of a)) before

-- what a night advance answers, and the record that it hands back, where the record is handed in as words; any word but 0 sends it past zero
abbrev pub nights_from : List ℕ → List ℕ → ℕ → ℕ → List ℕ → Answer × Stored
nights_from file words k past buffer = advance_nights file (call_of k (flag_of past) (length buffer)) (record_of_words words)

-- and a day advance, whose nights are handed in as words too
abbrev pub days_from : List ℕ → List ℕ → List ℕ → ℕ → ℕ → List ℕ → Answer × Stored
days_from file nights words k past buffer = advance_days file (patterns_of_words nights) (call_of k (flag_of past) (length buffer)) (record_of_words words)

-- ---- returns

-- the record's words after a return; a refused one leaves them as they were
unfoldable pub returned_words : List ℕ → ℕ → List ℕ → List ℕ
returned_words storage n words = cond (may_return storage n) (words_of_record (record_at storage n)) words
