-- Storage for eight records under the numbers 1 to 8, in 32-bit words: each number has an entry, a word that is 0 where nothing is kept and then a record's words.
use Rattle.std.specs.Prelude.{ℕ, ◌+◌, ◌-◌, ◌*◌, Bool, cond, not, ◌&&◌, List, ◌∷◌, ◌++◌, leb, eqb, length, get_or, take, drop}
use Rattle.std.proofs.Math.Option.{Option, none, some}
use Rattle.std.specs.declared.result.Result.{Result}
use Rattle.std.specs.declared.result.Result.TheVariants.{Ok, Err}
use Rattle.refusals.specs.Questions as question
use Rattle.refusals.specs.Refusals.{unless}
use Rattle.refusals.specs.declared.Refusal.{Refusal}
use Rattle.history.specs.Session.{keep_number}
use Rattle.search.specs.declared.Record.{Record as Stored}
use Rattle.recordwords.specs.Words.{record_words, record_of_words, words_of_record}
use Rattle.outcomes.specs.declared.Refused.{Refused}
use Rattle.outcomes.specs.Outcomes.{refused_with}

-- the words of an entry, and of all eight
abbrev pub entry_words : ℕ
entry_words = record_words + 1

abbrev pub storage_words : ℕ
storage_words = 8 * entry_words

-- where the entry of number n begins
abbrev pub entry_at : ℕ → ℕ
entry_at n = (n - 1) * entry_words

-- has storage of so many words room for eight records?
abbrev pub has_room : ℕ → Bool
has_room words = leb storage_words words

-- is something kept under number n? Any word but 0 says so
abbrev pub is_kept : List ℕ → ℕ → Bool
is_kept storage n = not (eqb (get_or storage (entry_at n) 0) 0)

-- ---- a keeping

abbrev pub may_keep : List ℕ → ℕ → Bool
may_keep storage n = has_room (length storage) && keep_number n

-- question 13
unfoldable pub keep_no : List ℕ → ℕ → Option Refusal
keep_no storage n = unless (may_keep storage n) question.storage 0

-- the storage after it: the entry says 1 and has the record's words, all else is as it was; a refused one changes nothing
unfoldable pub kept_in : List ℕ → ℕ → Stored → List ℕ
kept_in storage n r =
    cond (may_keep storage n)
    (take (entry_at n) storage ++ ((1 ∷ words_of_record r) ++ drop (entry_at n + entry_words) storage))
    storage

-- ---- a return

abbrev pub may_return : List ℕ → ℕ → Bool
may_return storage n = may_keep storage n && is_kept storage n

-- question 13
unfoldable pub return_no : List ℕ → ℕ → Option Refusal
return_no storage n = unless (may_return storage n) question.storage 0

-- the record that the entry's words say
unfoldable pub record_at : List ℕ → ℕ → Stored
record_at storage n = record_of_words (take record_words (drop (entry_at n + 1) storage))

-- what it answers: the record that was kept, or question 13 and the record in hand
abbrev pub returned_of : List ℕ → ℕ → Stored → Result Stored Refused
returned_of storage n r = elim (return_no storage n) [ none ↦ Ok (record_at storage n) | some x ↦ Err (refused_with x r) ]

-- the record after it: the one that it answers; a refused one hands back the record in hand
unfoldable pub returned_to : List ℕ → ℕ → Stored → Stored
returned_to storage n r = elim (returned_of storage n r) [ Ok x ↦ x | Err x ↦ x.in_hand ]
