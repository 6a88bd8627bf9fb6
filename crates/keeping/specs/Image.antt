-- How storage that was all zeros holds the records of a session.
use Rattle.std.specs.Prelude.{ℕ, zero, suc, ◌-◌, cond, List, [], ◌∷◌, ◌++◌, replicate}
use Rattle.std.proofs.Math.Option.{Option, none, some}
use Rattle.search.specs.declared.Record.{Record as Stored}
use Rattle.recordwords.specs.Words.{words_of_record}
use Rattle.keeping.specs.Storage.{entry_words, storage_words, has_room}

-- an entry: zeros where nothing is kept
abbrev pub entry_of : Option Stored → List ℕ
entry_of none = replicate entry_words 0
entry_of (some r) = 1 ∷ words_of_record r

-- the entries of `count` numbers from n on
abbrev pub entries_of : (ℕ → Option Stored) → ℕ → ℕ → List ℕ
entries_of kept n zero = []
entries_of kept n (suc count) = entry_of (kept n) ++ entries_of kept (suc n) count

-- so many words with these records kept, and zeros after the eight entries; zeros where there is no room for them
unfoldable pub storage_of : ℕ → (ℕ → Option Stored) → List ℕ
storage_of words kept = cond (has_room words) (entries_of kept 1 8 ++ replicate (words - storage_words) 0) (replicate words 0)
