-- Demand 3 through the C interface: the claim about a whole list of operations where the record is kept as words between calls, from 401 zeros and storage of zeros.
use Rattle.std.specs.Prelude.{ℕ, List, replicate}
use Rattle.history.specs.Phase.{Call, Answer}
use Rattle.history.specs.Session.{Operation, operation_advance, operation_keep, operation_return, Answered, advanced, stored}
use Rattle.search.specs.declared.Record.{Record as Stored}
use Rattle.keeping.specs.Storage.{keep_no, kept_in, return_no}
use Rattle.planner.specs.Advances.{advance_nights, advance_days}
use Rattle.planner.specs.Demand3.{image_of, DemandedOf}
use Rattle.recordwords.specs.Words.{record_words, record_of_words, words_of_record}
use Rattle.pantheryl.specs.Answers.{words_left, returned_words}

-- what an advance answers where the record is handed in as words, and the words that it leaves: `nights_from` and `words_left` of the contracts, and by day
abbrev pub by_words : (Call → Stored → Answer × Stored) → Call → List ℕ → Answer × List ℕ
by_words advance c words = let a = advance c (record_of_words words) in (a.0, words_left a words)

-- what an operation answers, and the record's words and the storage that it leaves
module _ (advance : Call → Stored → Answer × Stored) where
  unfoldable pub perform_words : Operation → List ℕ × List ℕ → Answered × (List ℕ × List ℕ)
  perform_words (operation_advance c) (words, storage) = let a = by_words advance c words in (advanced a.0, (a.1, storage))
  perform_words (operation_keep n) (words, storage) = (stored (keep_no storage n), (words, kept_in storage n (record_of_words words)))
  perform_words (operation_return n) (words, storage) = (stored (return_no storage n), (returned_words storage n words, storage))

-- the record in hand as words, beside the storage
abbrev pub as_words : Stored × List ℕ → List ℕ × List ℕ
as_words (r, storage) = (words_of_record r, storage)

-- For every file of bytes, whether the reader accepts it or not; proofs/DemandLaws shows it.
abbrev pub WordsDemanded : Type 0
WordsDemanded =
    DemandedOf (λ size. (replicate record_words 0, replicate size 0)) (λ file. perform_words (advance_nights file)) (λ file nights. perform_words (advance_days file nights))
    (λ size s. as_words (image_of size s))
