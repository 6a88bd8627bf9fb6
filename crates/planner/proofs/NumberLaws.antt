-- The number in a refusal is one of the thirteen: each question and each fault names one of them.
use Rattle.std.specs.Prelude.{ℕ, ◌≡◌, refl, Bool, true, false, ◌&&◌, List, leb, length}
use Rattle.std.proofs.Common.{sym, ap, ◌∙◌, subst, arith, inl, inr, leb-true}
use Rattle.std.proofs.lemmas.Bool.{and_parts}
use Rattle.std.proofs.Math.Option.{Option, none, some, none-ne-some, some-injective}
use Rattle.numbers.specs.Range.{up_from}
use Rattle.refusals.specs.Questions as question
use Rattle.refusals.specs.declared.Refusal.{Refusal}
use Rattle.refusals.specs.Refusals.{numbered, first, unless}
use Rattle.fields.specs.Fields.{body_of}
use Rattle.layout.specs.declared.Field.{Field}
use Rattle.layout.specs.Grammar.{Grammar, Read, good, bad}
use Rattle.layout.specs.Faults.{NumberFault, out_of_range, unfit, BytesFault, cut_off, too_long, more_bytes, NumbersFault, missing, more_numbers}
use Rattle.ward.specs.Answers.{read_ward, reading_of}
use Rattle.history.specs.Phase.{Phase, Call, refusal}
use Rattle.history.specs.Record.{lacking}
use Rattle.history.specs.Questions.{end, ask, FirstNo}
use Rattle.history.proofs.FirstLaws.{lacking_answers}
use Rattle.search.specs.Stored.{sound_stored, refusal_stored, advance_stored}
use Rattle.search.specs.declared.Record.{Record as Stored}
use Rattle.phases.specs.Phases.{night_phase, day_phase, common_fits, lists_fit, night_of}
use Rattle.outcomes.specs.Outcomes.{advance_of, call_of}
use Rattle.keeping.specs.Storage.{record_at}
use Rattle.planner.specs.Advances.{advance_over}
use Rattle.planner.specs.Faults.{FileNo, in_file, in_call, WriterNo, in_numbers, in_buffer, KeepFault, ReturnFault, check_questions}
use Rattle.planner.specs.Demand1.{Bytes, no_in_result, no_in_handed}
use Rattle.planner.specs.Numbers.{OneOfThirteen, RefusedByOne, RefusalNumbers}
use Rattle.planner.proofs.Demand1Laws.{stored_no, advance_no, demand1}

is_one : (q : ℕ) → (leb 1 q && leb q 13) ≡ true → OneOfThirteen q
is_one q e = let h = and_parts (leb 1 q) (leb q 13) e in (leb-true 1 q h.0, omega (arith, leb-true q 13 h.1))

-- ---- questions 1 to 6

number_is : {f : Field} {v q : ℕ} → NumberFault f v q → OneOfThirteen q
number_is (out_of_range l) = is_one question.range refl
number_is (unfit h n) = is_one question.duty refl

bytes_are : {left : Grammar} {bs : List ℕ} {q : ℕ} → BytesFault left bs q → OneOfThirteen q
bytes_are (cut_off c) = is_one question.whole refl
bytes_are (too_long t) = is_one question.shortest refl
bytes_are (BytesFault.wrong_number s f) = number_is f
bytes_are (more_bytes n) = is_one question.end refl

numbers_are : {left : Grammar} {ws : List ℕ} {q : ℕ} → NumbersFault left ws q → OneOfThirteen q
numbers_are missing = is_one question.whole refl
numbers_are (NumbersFault.wrong_number f) = number_is f
numbers_are (more_numbers n) = is_one question.end refl

writer_is : {ws : List ℕ} {places q p : ℕ} → WriterNo ws places q p → OneOfThirteen q
writer_is (in_numbers f) = numbers_are f.fault
writer_is (in_buffer e f) = subst OneOfThirteen (sym e) (is_one question.bytes refl)

read_is : (file : List ℕ) → Bytes file → RefusedByOne (reading_of (read_ward file)) no_in_result
read_is file bytes x e = bytes_are ((demand1.read file bytes).only x.question x.place e).fault

-- ---- a call's only question

only_is : (number : ℕ) (Fault : ℕ → Type 0) (q p : ℕ) → (leb 1 number && leb number 13) ≡ true → FirstNo (ask number Fault end) q p → OneOfThirteen q
unfolding FirstNo
only_is number Fault q p h (inl f) = subst OneOfThirteen (sym f.0) (is_one number h)
only_is number Fault q p h (inr f) = absurd f.1

check_is : (file roster : List ℕ) (q p : ℕ) → FileNo file (check_questions roster) q p → OneOfThirteen q
check_is file roster q p (in_file f) = bytes_are f.fault
check_is file roster q p (in_call ws g f) = only_is question.letters _ q p refl f

-- ---- the questions of an advance

abbrev One : Option Refusal → Type 0
One o = (x : Refusal) → o ≡ some x → OneOfThirteen x.question

one_first : (a b : Option Refusal) → One a → One b → One (first a b)
one_first none b f g = g
one_first (some m) b f g = f

one_unless : (b : Bool) (q place : ℕ) → (leb 1 q && leb q 13) ≡ true → One (unless b q place)
one_unless true q place h x e = absurd (none-ne-some x e)
one_unless false q place h x e = subst OneOfThirteen (ap (λ (m : Refusal). m.question) (some-injective (numbered q place) x e)) (is_one q h)

module _ (P : Phase) (r : Stored) where
  last_two : One (first (lacking P.patterns (up_from 0 P.nurses)) (unless (sound_stored P r) question.record_sound 0))
  last_two =
      one_first _ _ (λ x e. subst OneOfThirteen (sym ((lacking_answers P x).0 e).0) (is_one question.patterns refl))
      (one_unless (sound_stored P r) question.record_sound 0 refl)

module _ (w : List ℕ) (c : Call) (r : Stored) where
  night_asked : One (refusal_stored (night_phase w) c r)
  unfolding refusal_stored refusal night_phase common_fits
  night_asked = one_first _ _ (one_first _ _ (one_unless _ question.steps 0 refl) (one_unless _ question.lists 0 refl)) (last_two (night_phase w) r)

  day_asked : (nights : ℕ → ℕ) → One (refusal_stored (day_phase w nights) c r)
  unfolding refusal_stored refusal day_phase lists_fit
  day_asked nights =
      one_first _ _
      (one_first _ _ (one_unless _ question.steps 0 refl) (one_first _ _ (one_unless _ question.nights 0 refl) (one_unless _ question.lists _ refl)))
      (last_two (day_phase w nights) r)

advanced : (P : Phase) (c : Call) (r : Stored) → One (refusal_stored P c r) → RefusedByOne (advance_of (advance_stored P c r)) no_in_handed
advanced P c r f x e = f x (stored_no P c r x (sym (advance_no (advance_stored P c r)) ∙ e))

nights_are : (w : List ℕ) (c : Call) (r : Stored) → RefusedByOne (advance_of (advance_stored (night_phase w) c r)) no_in_handed
nights_are w c r = advanced (night_phase w) c r (night_asked w c r)

days_are : (w : List ℕ) (nights : ℕ → ℕ) (c : Call) (r : Stored) → RefusedByOne (advance_of (advance_stored (day_phase w nights) c r)) no_in_handed
days_are w nights c r = advanced (day_phase w nights) c r (day_asked w c r nights)

-- over a file
module _ (file : List ℕ) (bytes : Bytes file) (phase : List ℕ → Phase) (c : Call) (r : Stored) where
  over_file : ((w : List ℕ) → RefusedByOne (advance_of (advance_stored (phase w) c r)) no_in_handed)
      → RefusedByOne (advance_of (advance_over phase (read_ward file) c r)) no_in_handed
  unfolding advance_over advance_of reading_of
  over_file on x e = go (read_ward file) refl e
    where
      go : (y : Read) → read_ward file ≡ y → no_in_handed (advance_of (advance_over phase y c r)) ≡ some x → OneOfThirteen x.question
      go (bad m) s h = read_is file bytes x (ap (λ (y : Read). no_in_result (reading_of y)) s ∙ h)
      go (good ws) s h = on (body_of ws) x h

-- ---- the calls

pub refusal_numbers : RefusalNumbers
refusal_numbers = record {
  read = read_is;
  write = λ w buffer x e. writer_is ((demand1.write w buffer).only x.question x.place e);
  nights = λ file bytes r k past_zero buffer. let c = call_of k past_zero (length buffer) in over_file file bytes night_phase c r (λ w. nights_are w c r);
  days = λ file bytes nights r k past_zero buffer.
      let c = call_of k past_zero (length buffer) in
      over_file file bytes (λ w. day_phase w (night_of nights)) c r (λ w. days_are w (night_of nights) c r);
  check = λ file bytes roster x e. check_is file roster x.question x.place ((demand1.check file bytes roster).only x.question x.place e);
  keep = λ number storage x e. only_is question.storage (KeepFault storage number) x.question x.place refl ((demand1.keep (record_at storage number) number storage).only x.question x.place e);
  bring_back = λ r number storage x e. only_is question.storage (ReturnFault storage number) x.question x.place refl ((demand1.bring_back r number storage).only x.question x.place e);
  nights_on = nights_are;
  days_on = days_are;
}
