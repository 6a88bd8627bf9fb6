-- Reading and writing undo each other, said of what the calls answer and leave.
use Rattle.std.specs.Prelude.{ℕ, ◌≤◌, ◌<◌, ◌≡◌, List, ◌++◌, length, get_or, take, drop}
use Rattle.std.specs.declared.result.Result.TheVariants.{Ok}
use Rattle.ward.specs.declared.Ward.{Ward}
use Rattle.layout.specs.Grammar.{good}
use Rattle.ward.specs.Answers.{read_ward, reading_of, counted, check_ward, writing_of, left_of}

pub record BothWays : Type 0 where
  -- the bytes that the writer says yes to read back as the counted numbers
  pub written_read : (w : Ward) (buffer : List ℕ) (bytes : ℕ)
      → writing_of (length buffer) (check_ward (counted w)) ≡ Ok bytes
      → read_ward (take bytes (left_of buffer (check_ward (counted w)))) ≡ good (counted w)
  -- what the reader says yes to is written out as the file's bytes, the rest untouched
  pub read_written : (file buffer : List ℕ) (w : Ward) → ((i : ℕ) → get_or file i 0 < 256)
      → reading_of (read_ward file) ≡ Ok w → length file ≤ length buffer
      → (writing_of (length buffer) (check_ward (counted w)) ≡ Ok (length file))
      × (left_of buffer (check_ward (counted w)) ≡ file ++ drop (length file) buffer)
