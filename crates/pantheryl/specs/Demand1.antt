-- Demand 1 through the C interface: what the contracts say of the answer's words and of all memory that a call is lent, where it refuses.
use Rattle.refusals.specs.Refusals.{numbered, answer_by}
use Rattle.std.specs.Prelude.{ℕ, ◌≡◌, cond, List, eqb, length, get_or}
use Rattle.std.proofs.Math.Option.{Option, none, some}
use Rattle.layout.specs.Layout.{ward}
use Rattle.layout.specs.Faults.{FileFault}
use Rattle.ward.specs.Answers.{read_ward, reading_of, counted, check_ward, writing_of, left_of}
use Rattle.refusals.specs.declared.Refusal.{Refusal}
use Rattle.phases.specs.Phases.{night_of}
use Rattle.outcomes.specs.Outcomes.{call_of}
use Rattle.planner.specs.Answers.{check_says}
use Rattle.planner.specs.Left.{night_left, day_left}
use Rattle.planner.specs.Faults.{night_questions, day_questions, check_questions, keep_questions, return_questions, FileNo, WriterNo}
use Rattle.history.specs.Questions.{FirstNo}
use Rattle.keeping.specs.Storage.{keep_no, kept_in, return_no}
use Rattle.planner.specs.Demand1.{Refuses, Bytes}
use Rattle.recordwords.specs.Words.{record_words, patterns_of_words, flag_of, record_of_words}
use Rattle.answerwords.specs.AnswerWords.{refusal_words, count_words, advance_words, check_words}
use Rattle.pantheryl.specs.Answers.{read_words, numbers_left, ward_of, write_words, words_left, nights_from, days_from, roster_left, returned_words}

-- an answer's words are a refusal's where the first is not 0: question and place
abbrev pub no_in_words : List ℕ → Option Refusal
no_in_words answer = cond (eqb (get_or answer 0 0) 0) none (some (numbered (get_or answer 0 0) (get_or answer 1 0)))

abbrev pub WordsRefuse : (ℕ → ℕ → Type 0) → List ℕ → Type 0 → Type 0
WordsRefuse Fault answer Left = Refuses Fault answer no_in_words (λ q p. refusal_words (numbered q p)) Left

-- proofs/Demand1Laws shows it
pub record WordsDemand1 : Type 0 where
  pub read : (file : List ℕ) → Bytes file → (numbers : List ℕ)
      → WordsRefuse (FileFault ward file) (read_words (reading_of (read_ward file))) (numbers_left (reading_of (read_ward file)) numbers ≡ numbers)
  pub write : (numbers : List ℕ) (count : ℕ) (buffer : List ℕ)
      → let ws = counted (ward_of numbers count) in
      WordsRefuse (WriterNo ws (length buffer)) (write_words (writing_of (length buffer) (check_ward ws))) (left_of buffer (check_ward ws) ≡ buffer)
  pub nights : (file : List ℕ) → Bytes file → (words : List ℕ) → length words ≡ record_words → (k past : ℕ) (buffer : List ℕ)
      → let a = nights_from file words k past buffer in
      let r = record_of_words words in
      WordsRefuse (FileNo file (night_questions (call_of k (flag_of past) (length buffer)) r)) (advance_words a.0)
      ((words_left a words ≡ words) × (night_left file r k (flag_of past) buffer ≡ buffer))
  pub days : (file : List ℕ) → Bytes file → (nights words : List ℕ) → length words ≡ record_words → (k past : ℕ) (buffer roster : List ℕ)
      → let a = days_from file nights words k past buffer in
      let r = record_of_words words in
      WordsRefuse (FileNo file (day_questions (night_of (patterns_of_words nights)) (call_of k (flag_of past) (length buffer)) r)) (advance_words a.0)
      ((words_left a words ≡ words) × (day_left file (patterns_of_words nights) r k (flag_of past) buffer ≡ buffer) × (roster_left a.0 roster ≡ roster))
  pub check : (file : List ℕ) → Bytes file → (roster : List ℕ)
      → WordsRefuse (FileNo file (check_questions roster)) (check_words (check_says file roster)) Unit
  pub keep : (words : List ℕ) (number : ℕ) (storage : List ℕ)
      → WordsRefuse (FirstNo (keep_questions storage number)) (count_words (answer_by (keep_no storage number)) 0) (kept_in storage number (record_of_words words) ≡ storage)
  pub return_kept : (words : List ℕ) (number : ℕ) (storage : List ℕ)
      → WordsRefuse (FirstNo (return_questions storage number)) (count_words (answer_by (return_no storage number)) 0) (returned_words storage number words ≡ words)
