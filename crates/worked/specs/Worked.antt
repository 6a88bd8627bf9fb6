-- What the definitions come to, computed by the prover, on the ward worked through in document 01 and on the others of fields/specs/Worked.antt.
use Rattle.std.specs.Prelude.{ℕ, zero, suc, ◌≡◌, refl, true, false, List, [], ◌∷◌, ◌++◌, map, take, set}
use Rattle.std.proofs.Math.Option.{some}
use Rattle.numbers.specs.Range.{up_from, filter, all, any_of}
use Rattle.numbers.specs.Sum.{sum_to}
use Rattle.numbers.specs.Digits.{number_of}
use Rattle.numbers.specs.Patterns.{pattern, unpaired, days_of, pair_of}
use Rattle.codec.specs.Groups.{encode, decode}
use Rattle.layout.specs.Grammar.{good, bad, read, check, failed_by, bytes_of}
use Rattle.ward.specs.Answers.{read_ward, check_ward}
use Rattle.fields.specs.Fields.{block_at, block, groups_at, member_sets, needs_at, needs, tail_at, body_of}
use Rattle.fields.specs.Worked.{worked_ward, second_ward, redated_ward}
use Rattle.rows.specs.Rows.{row_state, marks_allow, available_on, duty_on}
use Rattle.rows.specs.Pairs.{pair_numbers, in_pair, at_rest_on, pair_fits, free_on}
use Rattle.nights.specs.Nights.{common, common_of, in_common, starts, follow}
use Rattle.nights.specs.Hers.{night_list, hers, shifted, through, last_run}
use Rattle.nights.specs.Own.{own_pattern, with_pairs, pattern_list}
use Rattle.days.specs.Days.{day_list, day_rule, choice, row_duty, same, free_of, windows_hold, rests}
use Rattle.daylists.specs.Lists.{up_to, first_over}
use Rattle.penalty.specs.Penalty.{on_duty, members, short_on, over_on, unplaced_in, night_parts, night_penalty, day_parts, day_penalty}
use Rattle.letters.specs.Letters.{letters, row_letters_of, letter, is_letter, first_bad, misplaced}
use Rattle.rostercheck.specs.Check.{lettered}
use Rattle.rostercheck.specs.CodeCheck.{letters_in, same_row, row_holds, group_holds, duty_holds, day_holds, holds}
use Rattle.refusals.specs.Refusals.{numbered}
use Rattle.history.specs.Phase.{Step, Phase, Call, Answer, refused, ended, end_zero, end_asked, end_none, run, refusal, given, in_turn}
use Rattle.history.specs.History.{History, penalty, allowed, next, extend, reply, advance}
use Rattle.history.specs.Session.{operation_advance, Answered, advanced, act, answers, session}
use Rattle.history.specs.Record.{record_of, may_take, total, best, stepped, sound, proceed, reply_of}
use Rattle.removals.specs.Removals.{no_removal}
use Rattle.search.specs.Stored.{view, store, all_zero, unused_zero, sound_stored, refusal_stored, reply_stored, advance_stored}
use Rattle.phases.specs.Phases.{night_phase, day_phase, night_of, nights_open, common_fits, lists_fit}
use Rattle.planner.specs.Advances.{advance_over, advance_nights, advance_days}
use Rattle.std.specs.declared.result.Result.{Result}
use Rattle.std.specs.declared.result.Result.TheVariants.{Ok, Err}
use Rattle.refusals.specs.declared.Refusal.{Refusal}
use Rattle.outcomes.specs.declared.Verdict.{Verdict}
use Rattle.outcomes.specs.declared.Verdict.TheVariants.{Passed, Broken}
use Rattle.planner.specs.Answers.{check_letters, check_over, check_says}

-- an advance of up to k steps with n places
abbrev pub call : ℕ → ℕ → Call
call k n = record { steps = k; places = n; past_zero = false }

-- what a list of advances answers, and the history that it leaves
abbrev pub answers_to : Phase → List Call → List Answered
answers_to P cs = answers P true (map operation_advance cs)

abbrev pub history_of : Phase → List Call → History
history_of P cs = (session P true (map operation_advance cs)).in_hand

abbrev did : ℕ → ℕ → Step
did i p = record { nurse = i; pattern = unpaired p }

-- k advances of one step each, and what one of them answers that goes on, with the penalty after it
abbrev pub ones : ℕ → ℕ → List Call
ones zero n = []
ones (suc k) n = call 1 n ∷ ones k n

abbrev pub after : ℕ → Answer
after penalty = ended end_asked 1 penalty []

-- an advance that is refused, and a roster that the check refuses, with the question's number and place
abbrev pub refuses : ℕ → ℕ → Answer
refuses q p = refused (numbered q p)

abbrev check_refuses : ℕ → ℕ → Result Verdict Refusal
check_refuses q p = Err (numbered q p)

-- ---- the ward worked through in document 01

-- its nights, and its roster: Nn/ and --/
abbrev nights : List ℕ
nights = unpaired 1 ∷ unpaired 0 ∷ []

abbrev roster : List ℕ
roster = 78 ∷ 110 ∷ 47 ∷ 45 ∷ 45 ∷ 47 ∷ []

pub record WorkedThrough : Type 0 where
  -- its file is read, its numbers are checked and written back; an empty file; the head of a file of edition two alone
  pub file_read : read_ward worked_ward ≡ good worked_ward
  pub numbers_checked : check_ward worked_ward ≡ good worked_ward
  pub written_back : bytes_of worked_ward ≡ worked_ward
  pub empty : read_ward [] ≡ bad (numbered 1 0)
  pub edition_two : read_ward (0 ∷ 2 ∷ []) ≡ bad (numbered 1 2)
  -- by night: from 20,000,001, nurse 1 takes 1, 10,000,000; nurse 2 takes 0, and the penalty is 0
  pub night_first : next (night_phase worked_ward) [] ≡ some (did 0 1)
  pub night_second : next (night_phase worked_ward) (did 0 1 ∷ []) ≡ some (did 1 0)
  -- no step asked, one, too many asked, no room for the common list, as many as there are, and zero as before
  pub night_answers : answers_to (night_phase worked_ward) (call 0 4 ∷ call 1 4 ∷ call 10001 4 ∷ call 1 3 ∷ call 5 4 ∷ call 5 4 ∷ [])
      ≡ map advanced (ended end_asked 0 20000001 [] ∷ ended end_asked 1 10000000 [] ∷ refuses 7 0 ∷ refuses 9 0 ∷ ended end_zero 1 0 [] ∷ ended end_zero 0 0 [] ∷ [])
  pub night_steps : history_of (night_phase worked_ward) (call 1000 16384 ∷ []) ≡ did 1 0 ∷ did 0 1 ∷ []
  -- by the stored record, from the file's bytes
  pub night_stored : in_turn (advance_nights worked_ward) (call 1 4 ∷ call 10001 4 ∷ call 10000 4 ∷ []) all_zero
      ≡ (ended end_asked 1 10000000 [] ∷ refuses 7 0 ∷ ended end_zero 1 0 [] ∷ [], store (record_of (night_phase worked_ward) (did 1 0 ∷ did 0 1 ∷ [])))
  -- its removals: the last one first, a nurse by her number, and 0 in the places not in use
  pub stored_placings : take 3 (store (record_of (night_phase worked_ward) (did 1 0 ∷ did 0 1 ∷ []))).removals
      ≡ record { nurse = 2; has = false; pattern = 0 } ∷ record { nurse = 1; has = false; pattern = 0 } ∷ no_removal ∷ []
  -- with TL 2, a third step that gives up pattern 1 drops the first placing
  pub stored_given_up : take 3 (store (record_of (night_phase worked_ward) (did 0 2 ∷ did 1 0 ∷ did 0 1 ∷ []))).removals
      ≡ record { nurse = 1; has = true; pattern = unpaired 1 } ∷ record { nurse = 2; has = false; pattern = 0 } ∷ no_removal ∷ []
  -- by day over those nights: from 20,000,002, nurse 2 takes 3, 10,000,000; nurse 1 takes 0, and the roster is given out
  pub day_answers : answers_to (day_phase worked_ward (night_of nights)) (call 0 5 ∷ call 1 5 ∷ call 1 4 ∷ call 9 5 ∷ [])
      ≡ map advanced (ended end_asked 0 20000002 [] ∷ ended end_asked 1 10000000 [] ∷ refuses 9 2 ∷ ended end_zero 1 0 roster ∷ [])
  pub day_steps : history_of (day_phase worked_ward (night_of nights)) (call 9 5 ∷ []) ≡ did 0 0 ∷ did 1 3 ∷ []
  -- the check of the roster; with a letter of none of the five after the six; with a letter too few
  pub roster_checked : check_says worked_ward roster ≡ Ok Passed
  pub extra_letter : check_says worked_ward (78 ∷ 110 ∷ 47 ∷ 45 ∷ 45 ∷ 47 ∷ 47 ∷ 48 ∷ []) ≡ check_refuses 12 7
  pub letter_missing : check_says worked_ward (78 ∷ 110 ∷ 47 ∷ 45 ∷ 45 ∷ []) ≡ check_refuses 12 5
  -- day 2 of nurse 2 a rest: the day need of day 2 is not met; day 3 of nurse 1 other duty: her row follows from no patterns
  pub need_unmet : check_says worked_ward (78 ∷ 110 ∷ 47 ∷ 45 ∷ 47 ∷ 47 ∷ []) ≡ Ok Broken
  pub row_unfollowed : check_says worked_ward (78 ∷ 110 ∷ 43 ∷ 45 ∷ 45 ∷ 47 ∷ []) ≡ Ok Broken

pub worked_through : WorkedThrough
unfolding worked_ward encode decode read check failed_by bytes_of read_ward check_ward night_phase day_phase nights_open common_fits lists_fit first_over up_to act answers session advance reply extend run refusal given next penalty allowed advance_over advance_stored refusal_stored reply_stored sound_stored unused_zero view store record_of proceed reply_of best total may_take stepped sound common night_list hers in_common starts follow shifted through last_run marks_allow sum_to number_of filter all up_from block_at block groups_at member_sets needs_at needs tail_at body_of pattern days_of pair_of pair_numbers in_pair at_rest_on pair_fits free_on own_pattern with_pairs pattern_list row_state available_on duty_on on_duty members short_on over_on unplaced_in night_parts night_penalty day_parts day_penalty day_list day_rule choice row_duty same any_of free_of windows_hold rests letters row_letters_of letter is_letter first_bad misplaced check_letters check_over holds row_holds letters_in same_row day_holds duty_holds group_holds lettered
worked_through = record {
  file_read = refl;
  numbers_checked = refl;
  written_back = refl;
  empty = refl;
  edition_two = refl;
  night_first = refl;
  night_second = refl;
  night_answers = refl;
  night_steps = refl;
  night_stored = refl;
  stored_placings = refl;
  stored_given_up = refl;
  day_answers = refl;
  day_steps = refl;
  roster_checked = refl;
  extra_letter = refl;
  letter_missing = refl;
  need_unmet = refl;
  row_unfollowed = refl;
}

-- ---- the second ward

-- the nights that its search finds
abbrev second_nights : List ℕ
second_nights = map unpaired (1 ∷ 8 ∷ 32 ∷ [])

-- the roster over them where nurse 3 may have 3 rests: Nn/--/, n/-Nn/ and /-/+/N
abbrev second_roster : List ℕ
second_roster = 78 ∷ 110 ∷ 47 ∷ 45 ∷ 45 ∷ 47 ∷ 110 ∷ 47 ∷ 45 ∷ 78 ∷ 110 ∷ 47 ∷ 47 ∷ 45 ∷ 47 ∷ 43 ∷ 47 ∷ 78 ∷ []

-- its first six and eight night steps, the last one first
abbrev six_steps : History
six_steps = did 0 8 ∷ did 0 17 ∷ did 0 16 ∷ did 2 1 ∷ did 0 1 ∷ did 1 40 ∷ []

abbrev eight_steps : History
eight_steps = did 1 8 ∷ did 2 32 ∷ six_steps

pub record SecondWorked : Type 0 where
  -- its file is read and written back; cut off, not in the shortest form, most nights below the least, a 3 after no 2, a byte too many
  pub file_read : read_ward second_ward ≡ good second_ward
  pub written_back : bytes_of second_ward ≡ second_ward
  pub cut_off : read_ward (take 103 second_ward) ≡ bad (numbered 1 103)
  pub not_shortest : read_ward (131 ∷ 0 ∷ []) ≡ bad (numbered 2 0)
  pub most_below_least : read_ward (set second_ward 24 0) ≡ bad (numbered 3 24)
  pub duty_unfit : read_ward (set second_ward 18 3) ≡ bad (numbered 4 18)
  pub byte_too_many : read_ward (second_ward ++ (0 ∷ [])) ≡ bad (numbered 5 104)
  -- the common list: V leaves out the starts 1, 3 and 5, g1 leaves out 1 and 4; then each nurse's own
  pub common_list : common_of second_ward ≡ 0 ∷ 1 ∷ 2 ∷ 4 ∷ 5 ∷ 8 ∷ 10 ∷ 16 ∷ 17 ∷ 20 ∷ 32 ∷ 33 ∷ 34 ∷ 40 ∷ []
  pub nights_1 : night_list second_ward 0 ≡ 1 ∷ 8 ∷ 16 ∷ 17 ∷ []
  pub nights_2 : night_list second_ward 1 ≡ 8 ∷ 40 ∷ []
  pub nights_3 : night_list second_ward 2 ≡ 1 ∷ 16 ∷ 32 ∷ []
  -- the weights: nobody has a night, everybody starts one on every day; nobody works by day, everybody does on every day
  pub no_nights : night_penalty second_ward (λ i. some (unpaired 0)) ≡ 11
  pub all_nights : night_penalty second_ward (λ i. some (unpaired 63)) ≡ 64
  pub no_days : day_penalty second_ward (λ i. some (unpaired 0)) ≡ 16
  pub all_days : day_penalty second_ward (λ i. some (unpaired 63)) ≡ 4
  -- by night: step by step to zero; then too many asked, no room for the common list, and zero as before
  pub night_answers : answers_to (night_phase second_ward) (call 0 14 ∷ ones 9 14 ++ (call 10001 14 ∷ call 1 13 ∷ call 1 14 ∷ []))
      ≡ map advanced (ended end_asked 0 30000005 [] ∷ after 20000000 ∷ after 10000000 ∷ after 5 ∷ after 5 ∷ after 5 ∷ after 8 ∷ after 11 ∷ after 3
      ∷ ended end_zero 1 0 [] ∷ refuses 7 0 ∷ refuses 9 0 ∷ ended end_zero 0 0 [] ∷ [])
  pub night_steps : history_of (night_phase second_ward) (call 100 14 ∷ []) ≡ did 0 1 ∷ eight_steps
  -- After six steps nurse 1 may not take pattern 1, which she gave up in the last four, though it would leave the least penalty; after eight she may.
  pub barred : allowed (night_phase second_ward) six_steps 0 (unpaired 1) ≡ false
  pub barred_penalty : penalty (night_phase second_ward) (did 0 1 ∷ six_steps) ≡ 5
  pub taken : next (night_phase second_ward) six_steps ≡ some (did 2 32)
  pub taken_penalty : penalty (night_phase second_ward) (did 2 32 ∷ six_steps) ≡ 11
  pub no_longer_barred : allowed (night_phase second_ward) eight_steps 0 (unpaired 1) ≡ true
  -- by the stored record, from the file's bytes; of its removals, the last four
  pub night_stored : (in_turn (advance_nights second_ward) (call 3 14 ∷ call 5 14 ∷ []) all_zero).1 ≡ store (record_of (night_phase second_ward) eight_steps)
  pub stored_removals : take 5 (store (record_of (night_phase second_ward) eight_steps)).removals
      ≡ record { nurse = 2; has = true; pattern = unpaired 40 } ∷ record { nurse = 3; has = true; pattern = unpaired 1 } ∷ record { nurse = 1; has = true; pattern = unpaired 17 }
      ∷ record { nurse = 1; has = true; pattern = unpaired 16 } ∷ no_removal ∷ []
  -- by day over these nights: nurse 3 has one row, with too many of the group on day 5; then no room for the last nurse's list, and none for the first one's
  pub days_1 : day_list second_ward 0 (unpaired 1) ≡ 8 ∷ 16 ∷ 24 ∷ 32 ∷ 40 ∷ 48 ∷ []
  pub days_2 : day_list second_ward 1 (unpaired 8) ≡ 4 ∷ []
  pub days_3 : day_list second_ward 2 (unpaired 32) ≡ 18 ∷ []
  pub day_answers : answers_to (day_phase second_ward (night_of second_nights)) (call 0 8 ∷ ones 5 8 ++ (call 1 7 ∷ call 1 3 ∷ []))
      ≡ map advanced (ended end_asked 0 30000011 [] ∷ after 20000004 ∷ after 10000001 ∷ after 1 ∷ after 1 ∷ after 1 ∷ refuses 9 3 ∷ refuses 9 1 ∷ [])
  -- over other nights at penalty zero, where nurse 1 starts on day 5: no exchange is left after five steps
  pub none_days_1 : day_list second_ward 0 (unpaired 16) ≡ 4 ∷ 8 ∷ 12 ∷ []
  pub none_answers : answers_to (day_phase second_ward (night_of (map unpaired (16 ∷ 8 ∷ 32 ∷ [])))) (call 0 5 ∷ ones 4 5 ++ (call 100 5 ∷ call 1 5 ∷ []))
      ≡ map advanced (ended end_asked 0 30000011 [] ∷ after 20000004 ∷ after 10000001 ∷ after 1 ∷ after 1 ∷ ended end_none 1 4 [] ∷ ended end_none 0 4 [] ∷ [])
  pub none_steps : history_of (day_phase second_ward (night_of (map unpaired (16 ∷ 8 ∷ 32 ∷ [])))) (call 100 5 ∷ [])
      ≡ did 0 4 ∷ did 0 12 ∷ did 1 4 ∷ did 0 8 ∷ did 2 18 ∷ []
  -- question 8: nights that are not at penalty zero; nights at zero, but nurse 1 has fewer than her least
  pub not_at_zero : answers_to (day_phase second_ward (night_of (map unpaired (1 ∷ 40 ∷ 1 ∷ [])))) (call 1 10 ∷ call 10001 10 ∷ call 0 0 ∷ []) ≡ map advanced (refuses 8 0 ∷ refuses 7 0 ∷ refuses 8 0 ∷ [])
  pub not_hers_penalty : night_penalty second_ward (λ i. some (night_of (map unpaired (0 ∷ 8 ∷ 32 ∷ [])) i)) ≡ 0
  pub not_hers : answers_to (day_phase second_ward (night_of (map unpaired (0 ∷ 8 ∷ 32 ∷ [])))) (call 1 10 ∷ []) ≡ map advanced (refuses 8 0 ∷ [])
  -- re-dated, over the same nights: step by step to the roster
  pub redated_days_3 : day_list redated_ward 2 (unpaired 32) ≡ 2 ∷ 4 ∷ 16 ∷ 18 ∷ []
  pub redated_answers : answers_to (day_phase redated_ward (night_of second_nights)) (call 0 11 ∷ ones 5 11 ++ (call 1 10 ∷ []))
      ≡ map advanced (ended end_asked 0 30000011 [] ∷ after 20000004 ∷ after 10000001 ∷ after 1 ∷ after 1 ∷ ended end_zero 1 0 second_roster ∷ refuses 9 3 ∷ [])
  pub redated_steps : history_of (day_phase redated_ward (night_of second_nights)) (call 100 11 ∷ []) ≡ did 2 2 ∷ did 0 24 ∷ did 1 4 ∷ did 0 8 ∷ did 2 18 ∷ []
  pub redated_stored : (in_turn (advance_days redated_ward second_nights) (call 100 11 ∷ []) all_zero).0 ≡ ended end_zero 5 0 second_roster ∷ []
  -- the check of the roster
  pub roster_checked : check_says redated_ward second_roster ≡ Ok Passed
  -- One rule is broken in each. Nurse 1: three days running; a start under her mark 5.
  pub days_running : check_says redated_ward (set second_roster 5 45) ≡ Ok Broken
  pub against_mark_5 : check_says redated_ward (set second_roster 5 78) ≡ Ok Broken
  -- nurse 3: two days and other duty running, which D 3 would allow; a rest too many where she may have 2
  pub other_running : check_says redated_ward (set second_roster 14 45) ≡ Ok Broken
  pub other_allowed : check_says (set redated_ward 9 3) (set second_roster 14 45) ≡ Ok Passed
  pub rest_too_many : check_says second_ward second_roster ≡ Ok Broken
  -- nurse 2: a rest under her mark 2, where D 3 lets nurse 3 meet the day's need
  pub against_mark_2 : check_says (set redated_ward 9 3) (set (set second_roster 14 45) 8 47) ≡ Ok Broken
  -- day 5: the day need, and the group's high by day
  pub need_unmet : check_says redated_ward (set second_roster 4 47) ≡ Ok Broken
  pub above_high : check_says redated_ward (set second_roster 16 45) ≡ Ok Broken

pub second_worked : SecondWorked
unfolding second_ward encode decode read check failed_by bytes_of read_ward check_ward night_phase day_phase nights_open common_fits lists_fit first_over up_to act answers session advance reply extend run refusal given next penalty allowed advance_over advance_stored refusal_stored reply_stored sound_stored unused_zero view store record_of proceed reply_of best total may_take stepped sound common night_list hers in_common starts follow shifted through last_run marks_allow sum_to number_of filter all up_from block_at block groups_at member_sets needs_at needs tail_at body_of pattern days_of pair_of pair_numbers in_pair at_rest_on pair_fits free_on own_pattern with_pairs pattern_list row_state available_on duty_on on_duty members short_on over_on unplaced_in night_parts night_penalty day_parts day_penalty day_list day_rule choice row_duty same any_of free_of windows_hold rests letters row_letters_of letter is_letter first_bad misplaced check_letters check_over holds row_holds letters_in same_row day_holds duty_holds group_holds lettered
second_worked = record {
  file_read = refl;
  written_back = refl;
  cut_off = refl;
  not_shortest = refl;
  most_below_least = refl;
  duty_unfit = refl;
  byte_too_many = refl;
  common_list = refl;
  nights_1 = refl;
  nights_2 = refl;
  nights_3 = refl;
  no_nights = refl;
  all_nights = refl;
  no_days = refl;
  all_days = refl;
  night_answers = refl;
  night_steps = refl;
  barred = refl;
  barred_penalty = refl;
  taken = refl;
  taken_penalty = refl;
  no_longer_barred = refl;
  night_stored = refl;
  stored_removals = refl;
  days_1 = refl;
  days_2 = refl;
  days_3 = refl;
  day_answers = refl;
  none_days_1 = refl;
  none_answers = refl;
  none_steps = refl;
  not_at_zero = refl;
  not_hers_penalty = refl;
  not_hers = refl;
  redated_days_3 = refl;
  redated_answers = refl;
  redated_steps = refl;
  redated_stored = refl;
  roster_checked = refl;
  days_running = refl;
  against_mark_5 = refl;
  other_running = refl;
  other_allowed = refl;
  rest_too_many = refl;
  against_mark_2 = refl;
  need_unmet = refl;
  above_high = refl;
}
