-- The assurance about a return through the C interface: the words that come back say the record that was kept, flags as 0 or 1, so every list of advances
-- answers as from the moment of keeping, and leaves words that say the same record.
use Rattle.std.specs.Prelude.{ℕ, ◌≡◌, List, length}
use Rattle.std.proofs.Math.Option.{none}
use Rattle.history.specs.Phase.{Call, Answer, in_turn}
use Rattle.search.specs.declared.Record.{Record as Stored}
use Rattle.keeping.specs.Storage.{keep_no, kept_in, return_no}
use Rattle.keeping.specs.Assurance.{Keeping, kept_all, OthersThan}
use Rattle.planner.specs.Advances.{advance_nights, advance_days}
use Rattle.recordwords.specs.Words.{record_words, record_of_words}
use Rattle.pantheryl.specs.Answers.{returned_words}
use Rattle.pantheryl.specs.Demand3.{by_words}

-- a list of advances goes alike from these words and from those
abbrev pub GoAlike : (Call → Stored → Answer × Stored) → List Call → List ℕ → List ℕ → Type 0
GoAlike advance cs words those =
    let a = in_turn (by_words advance) cs words in
    let b = in_turn (by_words advance) cs those in
    (a.0 ≡ b.0) × (record_of_words a.1 ≡ record_of_words b.1)

-- these words are kept under n; after the keepings meanwhile they are brought back in place of those in hand. proofs/AssuranceLaws shows it
pub record WordsAfterReturn (storage : List ℕ) (n : ℕ) (words in_hand : List ℕ) (meanwhile : List Keeping) : Type 0 where
  pub done : return_no (kept_all meanwhile (kept_in storage n (record_of_words words))) n ≡ none
  pub same : record_of_words (returned_words (kept_all meanwhile (kept_in storage n (record_of_words words))) n in_hand) ≡ record_of_words words
  pub nights : (file : List ℕ) (cs : List Call)
      → GoAlike (advance_nights file) cs (returned_words (kept_all meanwhile (kept_in storage n (record_of_words words))) n in_hand) words
  pub days : (file nights : List ℕ) (cs : List Call)
      → GoAlike (advance_days file nights) cs (returned_words (kept_all meanwhile (kept_in storage n (record_of_words words))) n in_hand) words

abbrev pub WordsAssured : Type 0
WordsAssured = (storage : List ℕ) (n : ℕ) (words in_hand : List ℕ) (meanwhile : List Keeping) → length words ≡ record_words → keep_no storage n ≡ none → OthersThan n meanwhile
    → WordsAfterReturn storage n words in_hand meanwhile
