-- What the calls answer.
use Rattle.std.specs.Prelude.{ℕ, ◌-◌, cond, List, ◌++◌, length, take, drop, replicate, ltb}
use Rattle.std.specs.declared.result.Result.{Result}
use Rattle.std.specs.declared.result.Result.TheVariants.{Ok, Err}
use Rattle.fields.specs.Sizes.{number_places}
use Rattle.refusals.specs.declared.Refusal.{Refusal}
use Rattle.refusals.specs.Refusals.{numbered}
use Rattle.refusals.specs.Questions as question
use Rattle.ward.specs.declared.Ward.{Ward}
use Rattle.layout.specs.Grammar.{Read, good, bad, read, check, bytes_of}
use Rattle.layout.specs.Layout.{ward}

-- the numbers in file order, 0 in the places after them
unfoldable pub reading_of : Read → Result Ward Refusal
reading_of (good ws) = Ok (record { numbers = ws ++ replicate (number_places - length ws) 0; count = length ws })
reading_of (bad n) = Err n

-- a reading without its array
abbrev pub count_of : Result Ward Refusal → Result ℕ Refusal
count_of (Ok w) = Ok w.count
count_of (Err n) = Err n

unfoldable pub read_ward : List ℕ → Read
unfolding read ward
read_ward file = read ward 0 file

-- ---- the writer

-- the counted numbers, of which those past the array's end are 0
unfoldable pub counted : Ward → List ℕ
counted w = take w.count (w.numbers ++ replicate (w.count - number_places) 0)

unfoldable pub check_ward : List ℕ → Read
unfolding check ward
check_ward ws = check ward 0 ws

-- what the writer answers where the buffer has this many places, and what it leaves there
unfoldable pub writing_of : ℕ → Read → Result ℕ Refusal
unfolding bytes_of
writing_of room (good ws) = cond (ltb room (length (bytes_of ws))) (Err (numbered question.bytes 0)) (Ok (length (bytes_of ws)))
writing_of room (bad n) = Err n

unfoldable pub left_of : List ℕ → Read → List ℕ
unfolding bytes_of
left_of buf (good ws) = cond (ltb (length buf) (length (bytes_of ws))) buf (bytes_of ws ++ drop (length (bytes_of ws)) buf)
left_of buf (bad n) = buf
