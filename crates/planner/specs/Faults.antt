-- Questions 6 to 13 in words of their own: what holds of a place where the question is a no there; and the questions of each call in their order.
use Rattle.std.specs.Prelude.{ℕ, suc, ◌+◌, ◌*◌, ◌≤◌, ◌<◌, ◌≡◌, true, false, ◌≢◌, ◌⊎◌, List, length, get_or}
use Rattle.std.proofs.Math.Option.{some}
use Rattle.refusals.specs.Questions as question
use Rattle.fields.specs.Fields.{body_of, nurses, days}
use Rattle.layout.specs.Grammar.{done, bytes_of}
use Rattle.layout.specs.Layout.{ward}
use Rattle.layout.specs.Faults.{Takes, FileFault, ListFault, FileGood}
use Rattle.nights.specs.Nights.{common_of}
use Rattle.nights.specs.NightRule.{PatternHers}
use Rattle.daylists.specs.Lists.{up_to}
use Rattle.penalty.specs.Penalty.{night_penalty}
use Rattle.letters.specs.Letters.{is_letter}
use Rattle.history.specs.Phase.{Phase, Call}
use Rattle.history.specs.Claim.{Without}
use Rattle.history.specs.Questions.{Questions, end, ask, FirstNo}
use Rattle.keeping.specs.Storage.{storage_words, entry_at}
use Rattle.search.specs.Sound.{Sound}
use Rattle.search.specs.declared.Record.{Record as Stored}
use Rattle.phases.specs.Phases.{night_phase, day_phase, day_list_over}

-- ---- the faults

-- 6: the numbers are a ward's, and the byte buffer has fewer places than they have bytes
abbrev pub BufferFault : List ℕ → ℕ → ℕ → Type 0
BufferFault ws places place = (place ≡ 0) × Takes ward ws done × (places < length (bytes_of ws))

-- 7: k is above 10,000, or the steps so far and k above 1,000,000
abbrev pub StepsFault : ℕ → ℕ → ℕ → Type 0
StepsFault steps k place = (place ≡ 0) × ((10000 < k) ⊎ (1000000 < steps + k))

-- 8: some night pattern with its pair is not hers, or the night penalty is not 0
abbrev pub NightsFault : List ℕ → (ℕ → ℕ) → ℕ → Type 0
NightsFault w nights place =
    (place ≡ 0) × (((i : ℕ) × (i < nurses w) × (PatternHers w i (nights i) → ⊥)) ⊎ (night_penalty w (λ i. some (nights i)) ≢ 0))

-- 9 by night: the common list has more patterns than the buffer has places
abbrev pub CommonFault : List ℕ → ℕ → ℕ → Type 0
CommonFault w places place = (place ≡ 0) × (places < length (common_of w))

-- 9 by day: the place names the first nurse whose list, after those before it, does not end within the places
abbrev pub ListsFault : (ℕ → List ℕ) → ℕ → ℕ → ℕ → Type 0
ListsFault lists m places place =
    (i : ℕ) × (place ≡ suc i) × (i < m) × (length (up_to lists i) ≤ places) × (places < length (up_to lists (suc i)))

-- 10: the place names the lowest nurse who has no pattern
abbrev pub PatternFault : Phase → ℕ → Type 0
PatternFault P place = (i : ℕ) × (place ≡ suc i) × Without P i

-- 11: the record is not sound
abbrev pub RecordFault : Phase → Stored → ℕ → Type 0
RecordFault P r place = (place ≡ 0) × (Sound P r → ⊥)

-- 12: the first letter that is none of the five; or all are, and they are not as many as they must be
abbrev pub LettersBefore : List ℕ → ℕ → Type 0
LettersBefore roster k = (j : ℕ) → j < k → is_letter (get_or roster j 0) ≡ true

pub data LettersFault (size : ℕ) (roster : List ℕ) (place : ℕ) : Type 0 where
  bad_letter : place < length roster → is_letter (get_or roster place 0) ≡ false → LettersBefore roster place → LettersFault size roster place
  wrong_count : place ≡ length roster → LettersBefore roster (length roster) → length roster ≢ size → LettersFault size roster place

-- 13 of a keeping: the storage has fewer words than eight records need, or the number is not one from 1 to 8
abbrev pub KeepFault : List ℕ → ℕ → ℕ → Type 0
KeepFault storage number place = (place ≡ 0) × ((length storage < storage_words) ⊎ ((number < 1) ⊎ (8 < number)))

-- of a return: that, or the word which says whether something is kept under the number is 0
abbrev pub ReturnFault : List ℕ → ℕ → ℕ → Type 0
ReturnFault storage number place =
    (place ≡ 0) × (((length storage < storage_words) ⊎ ((number < 1) ⊎ (8 < number))) ⊎ (get_or storage (entry_at number) 0 ≡ 0))

-- ---- the calls' questions

abbrev pub night_questions : Call → Stored → List ℕ → Questions
night_questions c r w =
    ask question.steps (StepsFault r.steps c.steps) (ask question.lists (CommonFault w c.places)
    (ask question.patterns (PatternFault (night_phase w)) (ask question.record_sound (RecordFault (night_phase w) r) end)))

abbrev pub day_questions : (ℕ → ℕ) → Call → Stored → List ℕ → Questions
day_questions nights c r w =
    ask question.steps (StepsFault r.steps c.steps) (ask question.nights (NightsFault w nights) (ask question.lists (ListsFault (day_list_over w nights) (nurses w) c.places)
    (ask question.patterns (PatternFault (day_phase w nights)) (ask question.record_sound (RecordFault (day_phase w nights) r) end))))

abbrev pub check_questions : List ℕ → List ℕ → Questions
check_questions roster w = ask question.letters (LettersFault (nurses w * days w) roster) end

abbrev pub keep_questions : List ℕ → ℕ → Questions
keep_questions storage number = ask question.storage (KeepFault storage number) end

abbrev pub return_questions : List ℕ → ℕ → Questions
return_questions storage number = ask question.storage (ReturnFault storage number) end

-- a call over a ward file asks 1 to 5 of the file, and then the others over the ward that it holds
pub data FileNo (file : List ℕ) (questions : List ℕ → Questions) (q p : ℕ) : Type 0 where
  in_file : FileFault ward file q p → FileNo file questions q p
  in_call : (ws : List ℕ) → FileGood ward file ws → FirstNo (questions (body_of ws)) q p → FileNo file questions q p

-- the writer asks 1, 3, 4 and 5 of the numbers, and then 6
pub data WriterNo (ws : List ℕ) (places q p : ℕ) : Type 0 where
  in_numbers : ListFault ward ws q p → WriterNo ws places q p
  in_buffer : q ≡ question.bytes → BufferFault ws places p → WriterNo ws places q p
