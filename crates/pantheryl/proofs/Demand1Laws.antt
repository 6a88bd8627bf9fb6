-- Demand 1 through the C interface: the words of a refusal, and the memory that it leaves, are those of the planner's refusal.
use Rattle.std.specs.Prelude.{ℕ, ◌≡◌, refl, Bool, true, false, cond, eqb, length}
use Rattle.std.proofs.Common.{sym, ap}
use Rattle.std.proofs.Math.Option.{none, some, none-ne-some}
use Rattle.std.specs.declared.result.Result.{Result}
use Rattle.std.specs.declared.result.Result.TheVariants.{Ok, Err}
use Rattle.ward.specs.Answers.{read_ward, reading_of, counted, check_ward, writing_of}
use Rattle.refusals.specs.declared.Refusal.{Refusal}
use Rattle.ward.specs.declared.Ward.{Ward}
use Rattle.refusals.specs.Refusals.{numbered, answer_by}
use Rattle.keeping.specs.Storage.{keep_no, return_no, returned_of}
use Rattle.pantheryl.proofs.AnswerLaws.{returned_no}
use Rattle.planner.proofs.KeepFaultLaws.{return_answered}
use Rattle.history.specs.Phase.{Answer, refused, ended}
use Rattle.search.specs.declared.Record.{Record as Stored}
use Rattle.outcomes.specs.Outcomes.{left_by, call_of}
use Rattle.outcomes.specs.declared.Verdict.{Verdict}
use Rattle.outcomes.specs.declared.Verdict.TheVariants.{Passed, Broken}
use Rattle.planner.specs.Answers.{check_says}
use Rattle.planner.specs.Left.{list_of, lists_of, night_left, day_left}
use Rattle.planner.specs.Demand1.{no_in_result}
use Rattle.planner.proofs.Demand1Laws.{no_in, nights_answer, days_answer, demand1}
use Rattle.recordwords.specs.Words.{flag_of, record_of_words, patterns_of_words}
use Rattle.answerwords.specs.AnswerWords.{counted_words, count_words, advance_words, check_words}
use Rattle.pantheryl.specs.Answers.{read_words, numbers_left, ward_of, write_words, words_left, nights_from, days_from, roster_left}
use Rattle.recordwords.proofs.WordLaws.{words_sized}
use Rattle.pantheryl.specs.Demand1.{no_in_words, WordsDemand1}

-- ---- the refusal in an answer's words is that of the answer

-- where the words say a refusal they are not those of question 0
said_no : (b : Bool) (n m : Refusal) → cond b none (some n) ≡ some m → some n ≡ some m
said_no true n m e = absurd (none-ne-some m e)
said_no false n m e = e

count_no : (a : Result (Unit {0}) Refusal) (n : Refusal) → no_in_words (count_words a 0) ≡ some n → no_in_result a ≡ some n
count_no (Ok x) n e = absurd (none-ne-some n e)
count_no (Err m) n e = said_no (eqb m.question 0) m n e

counted_no : (a : Result ℕ Refusal) (n : Refusal) → no_in_words (counted_words a) ≡ some n → no_in_result a ≡ some n
counted_no (Ok count) n e = absurd (none-ne-some n e)
counted_no (Err m) n e = said_no (eqb m.question 0) m n e

read_no : (a : Result Ward Refusal) (n : Refusal) → no_in_words (read_words a) ≡ some n → no_in_result a ≡ some n
read_no (Ok w) n e = absurd (none-ne-some n e)
read_no (Err m) n e = said_no (eqb m.question 0) m n e

advance_no : (a : Answer) (n : Refusal) → no_in_words (advance_words a) ≡ some n → no_in a ≡ some n
unfolding advance_words
advance_no (refused m) n e = said_no (eqb m.question 0) m n e
advance_no (ended end steps penalty letters) n e = absurd (none-ne-some n e)

check_no : (s : Result Verdict Refusal) (n : Refusal) → no_in_words (check_words s) ≡ some n → no_in_result s ≡ some n
check_no (Err m) n e = said_no (eqb m.question 0) m n e
check_no (Ok Passed) n e = absurd (none-ne-some n e)
check_no (Ok Broken) n e = absurd (none-ne-some n e)

pub words_demand1 : WordsDemand1
unfolding advance_words words_left roster_left night_left day_left left_by
words_demand1 = record {
  read = λ file bytes numbers.
      let f = demand1.read file bytes in
      record {
        only = λ q p e. f.only q p (read_no (reading_of (read_ward file)) (numbered q p) e);
        always = λ q p w. let s = (f.always q p w).0 in (ap read_words s, ap (λ (x : Result Ward Refusal). numbers_left x numbers) s);
      };
  write = λ numbers count buffer.
      let f = demand1.write (ward_of numbers count) buffer in
      let x = writing_of (length buffer) (check_ward (counted (ward_of numbers count))) in
      record {
        only = λ q p e. f.only q p (counted_no x (numbered q p) e);
        always = λ q p w. let s = f.always q p w in (ap write_words s.0, s.1);
      };
  nights = λ file bytes words l k past buffer.
      let f = nights_answer file bytes (record_of_words words) (words_sized words l) (call_of k (flag_of past) (length buffer)) in
      record {
        only = λ q p e. f.only q p (advance_no (nights_from file words k past buffer).0 (numbered q p) e);
        always = λ q p w.
            let s = f.always q p w in (
              ap (λ (x : Answer × Stored). advance_words x.0) s,
              (ap (λ (x : Answer × Stored). words_left x words) s, ap (λ (x : Answer × Stored). left_by x.0 (list_of (read_ward file)) buffer) s),
            );
      };
  days = λ file bytes nights words l k past buffer roster.
      let f = days_answer file bytes (record_of_words words) (words_sized words l) (call_of k (flag_of past) (length buffer)) (patterns_of_words nights) in
      record {
        only = λ q p e. f.only q p (advance_no (days_from file nights words k past buffer).0 (numbered q p) e);
        always = λ q p w.
            let s = f.always q p w in (
              ap (λ (x : Answer × Stored). advance_words x.0) s,
              (
                ap (λ (x : Answer × Stored). words_left x words) s,
                ap (λ (x : Answer × Stored). left_by x.0 (lists_of (read_ward file) (patterns_of_words nights)) buffer) s,
                ap (λ (x : Answer × Stored). roster_left x.0 roster) s,
              ),
            );
      };
  check = λ file bytes roster.
      let f = demand1.check file bytes roster in
      record {
        only = λ q p e. f.only q p (check_no (check_says file roster) (numbered q p) e);
        always = λ q p w. (ap check_words (f.always q p w).0, tt);
      };
  keep = λ words number storage.
      let f = demand1.keep (record_of_words words) number storage in
      record {
        only = λ q p e. f.only q p (count_no (answer_by (keep_no storage number)) (numbered q p) e);
        always = λ q p w. let s = f.always q p w in (ap (λ (a : Result (Unit {0}) Refusal). count_words a 0) s.0, s.1);
      };
  return_kept = λ words number storage.
      let f = demand1.bring_back (record_of_words words) number storage in
      record {
        only = λ q p e. f.only q p (return_answered storage number (record_of_words words) (numbered q p) (count_no (answer_by (return_no storage number)) (numbered q p) e));
        always = λ q p w. let s = returned_no storage number (record_of_words words) words {x = returned_of storage number (record_of_words words)} refl (f.always q p w).0 in (sym s.0, sym s.1);
      };
}
