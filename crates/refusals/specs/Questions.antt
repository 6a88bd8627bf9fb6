-- The questions of documents 01 and 02, in their order, by name: the number that a refusal gives. src/question.rt has the same names.
use Rattle.std.specs.Prelude.{ℕ}

-- is there a whole number here, ended within the file?
abbrev pub whole : ℕ
whole = 1

-- is it in at most 7 groups and shortest?
abbrev pub shortest : ℕ
shortest = 2

-- is it in its field's range?
abbrev pub range : ℕ
range = 3

-- does it fit the duty before it?
abbrev pub duty : ℕ
duty = 4

-- does the file end after the last number?
abbrev pub end : ℕ
end = 5

-- is the byte buffer long enough?
abbrev pub bytes : ℕ
bytes = 6

-- is k allowed, and is steps so far plus k at most 1,000,000?
abbrev pub steps : ℕ
steps = 7

-- for days: is each night pattern hers, at night penalty 0?
abbrev pub nights : ℕ
nights = 8

-- does the buffer hold the list or lists?
abbrev pub lists : ℕ
lists = 9

-- has every nurse a pattern?
abbrev pub patterns : ℕ
patterns = 10

-- is the record one of this ward's?
abbrev pub record_sound : ℕ
record_sound = 11

-- are there m times n letters of the five?
abbrev pub letters : ℕ
letters = 12

-- has the storage room for eight records, is the number 1 to 8 and, on a return, is something kept under it?
abbrev pub storage : ℕ
storage = 13
