-- What the definitions come to where advances go on past zero and records are kept and brought back (document 02, job 3), computed by the prover.
use Rattle.std.specs.Prelude.{ℕ, ◌≡◌, refl, true, List, [], ◌∷◌, map, replicate}
use Rattle.std.proofs.Math.Option.{none}
use Rattle.numbers.specs.Range.{up_from, filter, all, any_of}
use Rattle.numbers.specs.Sum.{sum_to}
use Rattle.numbers.specs.Digits.{number_of}
use Rattle.numbers.specs.Patterns.{pattern, unpaired, days_of, pair_of}
use Rattle.codec.specs.Groups.{encode, decode}
use Rattle.layout.specs.Grammar.{read, check, failed_by, bytes_of}
use Rattle.ward.specs.Answers.{read_ward}
use Rattle.fields.specs.Fields.{block_at, block, groups_at, member_sets, needs_at, needs, tail_at, body_of}
use Rattle.fields.specs.Worked.{worked_ward}
use Rattle.rows.specs.Rows.{row_state, marks_allow, available_on, duty_on}
use Rattle.rows.specs.Pairs.{pair_numbers, in_pair, at_rest_on, pair_fits, free_on}
use Rattle.nights.specs.Nights.{common, in_common, starts, follow}
use Rattle.nights.specs.Hers.{hers, shifted, through, last_run}
use Rattle.nights.specs.Own.{own_pattern, with_pairs, pattern_list}
use Rattle.days.specs.Days.{day_list, day_rule, choice, row_duty, same, free_of, windows_hold, rests}
use Rattle.daylists.specs.Lists.{up_to, first_over}
use Rattle.penalty.specs.Penalty.{on_duty, members, short_on, over_on, unplaced_in, night_parts, night_penalty, day_parts, day_penalty}
use Rattle.letters.specs.Letters.{letters, row_letters_of, letter}
use Rattle.history.specs.Phase.{Step, Call, ended, end_zero, end_asked, end_none, run, refusal, given, in_turn}
use Rattle.history.specs.History.{penalty, allowed, next, extend, reply, advance}
use Rattle.history.specs.Session.{Operation, operation_advance, operation_keep, operation_return, Answered, advanced, stored, no13, act, answers, session}
use Rattle.history.specs.Record.{record_of, may_take, total, best, stepped, sound, proceed, reply_of}
use Rattle.search.specs.Stored.{view, store, all_zero, unused_zero, sound_stored, refusal_stored, reply_stored, advance_stored}
use Rattle.recordwords.specs.Words.{patterns_of_words, record_of_words, words_of_record}
use Rattle.keeping.specs.Storage.{keep_no, kept_in, return_no, record_at, returned_to}
use Rattle.keeping.specs.Operations.{perform}
use Rattle.phases.specs.Phases.{night_phase, day_phase, night_of, nights_open, common_fits, lists_fit}
use Rattle.planner.specs.Advances.{advance_over, advance_nights}
use Rattle.planner.specs.Demand3.{start_of}
use Rattle.worked.specs.Worked.{call, answers_to, history_of, after}

abbrev did : ℕ → ℕ → Step
did i p = record { nurse = i; pattern = unpaired p }

-- an advance of up to k steps, past zero, with n places
abbrev past : ℕ → ℕ → Call
past k n = record { steps = k; places = n; past_zero = true }

-- the worked ward's nights, and its roster: Nn/ and --/
abbrev nights : List ℕ
nights = unpaired 1 ∷ unpaired 0 ∷ []

abbrev roster : List ℕ
roster = 78 ∷ 110 ∷ 47 ∷ 45 ∷ 45 ∷ 47 ∷ []

-- one nurse, one day, marked for rest: one pattern by night, and one by day
abbrev one_row : List ℕ
one_row =
    1 ∷ 1 ∷ 0 ∷ 0 ∷ 1 ∷ 1 ∷ 1 ∷ 1 ∷ 0 ∷ 1 ∷ 1 ∷ 1 ∷ 1 ∷ 1 ∷ 1 ∷ 1
    ∷ 0 ∷ 0 ∷ 0 ∷ 0 ∷ 0 ∷ 0 ∷ 0 ∷ 0 ∷ 0 ∷ 0 ∷ 1 ∷ 1
    ∷ 0 ∷ 0 ∷ []

-- Two steps, kept under 3; two steps more; a return to nothing; a return to what is kept, and the third step once more; numbers that are none; a keeping in
-- place of the first, and a return to it.
abbrev operations : List Operation
operations =
    operation_advance (past 2 4) ∷ operation_keep 3 ∷ operation_advance (past 2 4) ∷ operation_return 5 ∷ operation_return 3 ∷ operation_advance (past 1 4)
    ∷ operation_keep 0 ∷ operation_keep 9 ∷ operation_return 9 ∷ operation_keep 3 ∷ operation_advance (call 5 4) ∷ operation_return 3 ∷ []

abbrev answered : List Answered
answered =
    advanced (ended end_asked 2 0 []) ∷ stored none ∷ advanced (ended end_asked 2 0 []) ∷ stored no13 ∷ stored none ∷ advanced (after 1)
    ∷ stored no13 ∷ stored no13 ∷ stored no13 ∷ stored none ∷ advanced (ended end_zero 1 0 []) ∷ stored none ∷ []

pub record KeptWorked : Type 0 where
  -- by night past zero, step by step; two steps at once; at zero, with no step asked, and not past zero
  pub past_answers : answers_to (night_phase worked_ward) (past 1 4 ∷ past 1 4 ∷ past 1 4 ∷ past 1 4 ∷ past 1 4 ∷ past 1 4 ∷ [])
      ≡ map advanced (after 10000000 ∷ after 0 ∷ after 1 ∷ after 0 ∷ after 0 ∷ after 1 ∷ [])
  pub past_steps : history_of (night_phase worked_ward) (past 6 4 ∷ []) ≡ did 0 2 ∷ did 0 4 ∷ did 1 1 ∷ did 0 0 ∷ did 1 0 ∷ did 0 1 ∷ []
  pub at_zero : answers_to (night_phase worked_ward) (past 2 4 ∷ past 0 4 ∷ call 0 4 ∷ call 5 4 ∷ [])
      ≡ map advanced (ended end_asked 2 0 [] ∷ ended end_asked 0 0 [] ∷ ended end_zero 0 0 [] ∷ ended end_zero 0 0 [] ∷ [])
  -- by day past zero: the roster at penalty zero, though asked ends it; none after a step that leaves 1
  pub day_answers : answers_to (day_phase worked_ward (night_of nights)) (past 2 5 ∷ past 1 5 ∷ []) ≡ map advanced (ended end_asked 2 0 roster ∷ ended end_asked 1 1 [] ∷ [])
  pub day_steps : history_of (day_phase worked_ward (night_of nights)) (past 3 5 ∷ []) ≡ did 1 1 ∷ did 0 0 ∷ did 1 3 ∷ []
  -- no exchange is left at penalty zero: "zero", or past zero "none", by day with the roster
  pub zero_at_zero : answers_to (night_phase one_row) (call 5 1 ∷ []) ≡ map advanced (ended end_zero 1 0 [] ∷ [])
  pub none_at_zero : answers_to (night_phase one_row) (past 5 1 ∷ []) ≡ map advanced (ended end_none 1 0 [] ∷ [])
  pub none_by_day : answers_to (day_phase one_row (night_of (unpaired 0 ∷ []))) (past 5 1 ∷ []) ≡ map advanced (ended end_none 1 0 (47 ∷ []) ∷ [])
  -- operations, by the history; and by record and storage of 3,216 words, from the file's bytes
  pub operations_answered : answers (night_phase worked_ward) true operations ≡ answered
  pub operations_leave : (session (night_phase worked_ward) true operations).in_hand ≡ did 0 0 ∷ did 1 0 ∷ did 0 1 ∷ []
  pub operations_performed : (in_turn (perform (advance_nights worked_ward)) operations (start_of 3216)).0 ≡ answered
  pub operations_stored : (in_turn (perform (advance_nights worked_ward)) operations (start_of 3216)).1.0
      ≡ store (record_of (night_phase worked_ward) (did 0 0 ∷ did 1 0 ∷ did 0 1 ∷ []))
  -- a word too few, and nothing is kept
  pub no_room : in_turn (perform (advance_nights worked_ward)) (operation_keep 1 ∷ operation_return 1 ∷ []) (start_of 3215) ≡ (stored no13 ∷ stored no13 ∷ [], start_of 3215)
  -- the fresh record is kept by the first word of its entry
  pub fresh_kept : kept_in (replicate 3216 0) 1 all_zero ≡ 1 ∷ replicate 3215 0

pub kept_worked : KeptWorked
unfolding worked_ward encode decode read check failed_by bytes_of read_ward night_phase day_phase nights_open common_fits lists_fit first_over up_to act answers session advance reply extend run refusal given next penalty allowed advance_over advance_stored refusal_stored reply_stored sound_stored unused_zero view store record_of proceed reply_of best total may_take stepped sound common hers in_common starts follow shifted through last_run marks_allow sum_to number_of filter all up_from block_at block groups_at member_sets needs_at needs tail_at body_of pattern days_of pair_of pair_numbers in_pair at_rest_on pair_fits free_on own_pattern with_pairs pattern_list row_state available_on duty_on on_duty members short_on over_on unplaced_in night_parts night_penalty day_parts day_penalty day_list day_rule choice row_duty same any_of free_of windows_hold rests letters row_letters_of letter patterns_of_words record_of_words words_of_record keep_no kept_in return_no record_at returned_to perform
kept_worked = record {
  past_answers = refl;
  past_steps = refl;
  at_zero = refl;
  day_answers = refl;
  day_steps = refl;
  zero_at_zero = refl;
  none_at_zero = refl;
  none_by_day = refl;
  operations_answered = refl;
  operations_leave = refl;
  operations_performed = refl;
  operations_stored = refl;
  no_room = refl;
  fresh_kept = refl;
}
