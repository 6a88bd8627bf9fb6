-- What an operation answers, and the memory that it leaves: the record in hand, and the storage. `advance` says what an advance answers and the record that
-- it hands back. Built of what the contracts of the calls cite; a return leaves the record that `returned_of` hands back (`returned_to`).
use Rattle.std.specs.Prelude.{ℕ, List}
use Rattle.history.specs.Phase.{Call, Answer}
use Rattle.history.specs.Session.{Operation, operation_advance, operation_keep, operation_return, Answered, advanced, stored, Session}
use Rattle.search.specs.declared.Record.{Record as Stored}
use Rattle.keeping.specs.Storage.{keep_no, kept_in, return_no, returned_to}
use Rattle.keeping.specs.Image.{storage_of}

module _ (advance : Call → Stored → Answer × Stored) where
  unfoldable pub perform : Operation → Stored × List ℕ → Answered × (Stored × List ℕ)
  perform (operation_advance c) (r, storage) = let a = advance c r in (advanced a.0, (a.1, storage))
  perform (operation_keep n) (r, storage) = (stored (keep_no storage n), (r, kept_in storage n r))
  perform (operation_return n) (r, storage) = (stored (return_no storage n), (returned_to storage n r, storage))

-- how memory with so many words of storage, all zeros at the start, holds the records of a session
abbrev pub held : ℕ → Session Stored → Stored × List ℕ
held words s = (s.in_hand, storage_of words s.kept)
