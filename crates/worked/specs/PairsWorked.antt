-- What the definitions come to on wards with pairs of days off (document 02, job 2), computed by the prover.
use Rattle.std.specs.Prelude.{ℕ, ◌≡◌, refl, List, [], ◌∷◌, ◌++◌, map}
use Rattle.std.proofs.Math.Option.{some}
use Rattle.numbers.specs.Range.{up_from, filter, all, any_of}
use Rattle.numbers.specs.Sum.{sum_to}
use Rattle.numbers.specs.Digits.{number_of}
use Rattle.numbers.specs.Patterns.{pattern, unpaired, days_of, pair_of}
use Rattle.codec.specs.Groups.{encode, decode}
use Rattle.layout.specs.Grammar.{good, read, check, failed_by, bytes_of}
use Rattle.layout.specs.Shown.{to_pairs}
use Rattle.ward.specs.Answers.{read_ward}
use Rattle.fields.specs.Fields.{body_of, block_at, block, groups_at, member_sets, needs_at, needs, tail_at}
use Rattle.fields.specs.Worked.{worked_ward}
use Rattle.rows.specs.Rows.{row_state, marks_allow, available_on, duty_on}
use Rattle.rows.specs.Pairs.{pair_numbers, in_pair, at_rest_on, pair_fits, free_on}
use Rattle.nights.specs.Nights.{common, common_of, in_common, starts, follow}
use Rattle.nights.specs.Hers.{hers, shifted, through, last_run}
use Rattle.nights.specs.Own.{own_pattern, with_pairs, pattern_list}
use Rattle.days.specs.Days.{day_list, day_rule, choice, row_duty, same, free_of, windows_hold, rests}
use Rattle.daylists.specs.Lists.{up_to, first_over}
use Rattle.penalty.specs.Penalty.{on_duty, members, short_on, over_on, unplaced_in, night_parts, night_penalty, day_parts, day_penalty}
use Rattle.letters.specs.Letters.{letters, row_letters_of, letter, is_letter, first_bad, misplaced}
use Rattle.rostercheck.specs.Check.{lettered}
use Rattle.rostercheck.specs.CodeCheck.{letters_in, same_row, row_holds, group_holds, duty_holds, day_holds, holds}
use Rattle.history.specs.Phase.{Step, ended, end_zero, end_asked, end_none, run, refusal, given}
use Rattle.history.specs.History.{penalty, allowed, next, extend, reply, advance}
use Rattle.history.specs.Session.{advanced, act, answers, session}
use Rattle.phases.specs.Phases.{night_phase, day_phase, night_of, nights_open, common_fits, lists_fit}
use Rattle.std.specs.declared.result.Result.TheVariants.{Ok}
use Rattle.outcomes.specs.declared.Verdict.TheVariants.{Passed, Broken}
use Rattle.planner.specs.Answers.{check_letters, check_over, check_says}
use Rattle.worked.specs.Worked.{call, answers_to, history_of, ones, after, refuses}

abbrev did : ℕ → ℕ → ℕ → Step
did i p k = record { nurse = i; pattern = pattern p k }

-- two nurses, four days, pairs on days 2 and 3, and 3 and 4; the numbers are the file's bytes too
abbrev pairs_file : List ℕ
pairs_file = to_pairs ++ (2 ∷ 2 ∷ 3 ∷ [])

abbrev pairs_ward : List ℕ
pairs_ward = body_of pairs_file

-- the nights that its search finds, and its roster: Nn// and --//
abbrev nights : List ℕ
nights = pattern 1 2 ∷ pattern 0 2 ∷ []

abbrev roster : List ℕ
roster = 78 ∷ 110 ∷ 47 ∷ 47 ∷ 45 ∷ 45 ∷ 47 ∷ 47 ∷ []

-- one nurse, four days that need a nurse by day, pairs on days 1 and 2, and 3 and 4; TL 1
abbrev one_nurse : List ℕ
one_nurse =
    1 ∷ 4 ∷ 0 ∷ 1 ∷ 1 ∷ 1 ∷ 1 ∷ 1 ∷ 1 ∷ 3 ∷ 1 ∷ 1 ∷ 1 ∷ 1 ∷ 1 ∷ 1
    ∷ 0 ∷ 0 ∷ 0 ∷ 0 ∷ 0 ∷ 0 ∷ 0 ∷ 0 ∷ 1 ∷ 0 ∷ 4 ∷ 0 ∷ 0 ∷ 0 ∷ 0
    ∷ 0 ∷ 1 ∷ 0 ∷ 1 ∷ 0 ∷ 1 ∷ 0 ∷ 1
    ∷ 2 ∷ 1 ∷ 3 ∷ []

-- document 01's ward with a pair on days 2 and 3
abbrev worked_pair : List ℕ
worked_pair = worked_ward ++ (1 ∷ 2 ∷ [])

pub record PairsWorked : Type 0 where
  pub file_read : read_ward pairs_file ≡ good pairs_file
  -- the common list is one of night patterns; each nurse's own have a pair, by night pattern and then by pair
  pub common_list : common_of pairs_ward ≡ 0 ∷ 1 ∷ 2 ∷ 4 ∷ 8 ∷ []
  pub patterns_1 : pattern_list pairs_ward 0 ≡ pattern 0 1 ∷ pattern 0 2 ∷ pattern 1 2 ∷ pattern 8 1 ∷ []
  pub patterns_2 : pattern_list pairs_ward 1 ≡ pattern 0 1 ∷ pattern 0 2 ∷ pattern 1 2 ∷ []
  -- by night: from 20,000,001, nurse 1 takes 1 with pair 2; no room for the common list; nurse 2 takes 0 with pair 2, and the penalty is 0
  pub night_answers : answers_to (night_phase pairs_ward) (call 0 5 ∷ call 1 5 ∷ call 1 4 ∷ call 5 5 ∷ [])
      ≡ map advanced (ended end_asked 0 20000001 [] ∷ after 10000000 ∷ refuses 9 0 ∷ ended end_zero 1 0 [] ∷ [])
  pub night_steps : history_of (night_phase pairs_ward) (call 1000 5 ∷ []) ≡ did 1 0 2 ∷ did 0 1 2 ∷ []
  -- with pair 1 she would be off on day 2, which needs a nurse by day
  pub other_pair : penalty (night_phase pairs_ward) (did 1 0 1 ∷ did 0 1 2 ∷ []) ≡ 1
  -- by day over those nights
  pub days_1 : day_list pairs_ward 0 (pattern 1 2) ≡ 0 ∷ []
  pub days_2 : day_list pairs_ward 1 (pattern 0 2) ≡ 0 ∷ 1 ∷ 2 ∷ 3 ∷ []
  pub day_answers : answers_to (day_phase pairs_ward (night_of nights)) (call 0 5 ∷ call 1 5 ∷ call 1 4 ∷ call 9 5 ∷ [])
      ≡ map advanced (ended end_asked 0 20000002 [] ∷ after 10000000 ∷ refuses 9 2 ∷ ended end_zero 1 0 roster ∷ [])
  pub day_steps : history_of (day_phase pairs_ward (night_of nights)) (call 9 5 ∷ []) ≡ did 0 0 0 ∷ did 1 3 0 ∷ []
  -- question 8: a pair with which the penalty is 1; no pair, where the penalty is 0, but no pattern of hers has none
  pub not_at_zero : answers_to (day_phase pairs_ward (night_of (pattern 1 2 ∷ pattern 0 1 ∷ []))) (call 1 5 ∷ []) ≡ map advanced (refuses 8 0 ∷ [])
  pub unpaired_penalty : night_penalty pairs_ward (λ i. some (night_of (map unpaired (1 ∷ 0 ∷ [])) i)) ≡ 0
  pub not_hers : answers_to (day_phase pairs_ward (night_of (map unpaired (1 ∷ 0 ∷ [])))) (call 1 5 ∷ []) ≡ map advanced (refuses 8 0 ∷ [])
  -- the check: the roster; Nn/- and --//, where nurse 1 has no pair at rest, which is fine in the same ward without pairs
  pub roster_checked : check_says pairs_file roster ≡ Ok Passed
  pub no_pair_at_rest : check_says pairs_file (78 ∷ 110 ∷ 47 ∷ 45 ∷ 45 ∷ 45 ∷ 47 ∷ 47 ∷ []) ≡ Ok Broken
  pub fine_without : check_says (body_of to_pairs) (78 ∷ 110 ∷ 47 ∷ 45 ∷ 45 ∷ 45 ∷ 47 ∷ 47 ∷ []) ≡ Ok Passed
  -- night pattern and pair together are in use, given up and least: the same nights with another pair are another pattern
  pub together : history_of (night_phase one_nurse) (call 5 5 ∷ []) ≡ did 0 0 2 ∷ did 0 0 1 ∷ did 0 8 1 ∷ did 0 0 2 ∷ did 0 0 1 ∷ []
  pub together_answers : answers_to (night_phase one_nurse) (ones 5 5) ≡ map advanced (after 2 ∷ after 2 ∷ after 3 ∷ after 2 ∷ after 2 ∷ [])
  -- "none": each nurse has one pattern
  pub none_answers : answers_to (night_phase worked_pair) (call 9 4 ∷ call 1 4 ∷ []) ≡ map advanced (ended end_none 2 2 [] ∷ ended end_none 0 2 [] ∷ [])
  pub none_steps : history_of (night_phase worked_pair) (call 9 4 ∷ []) ≡ did 1 0 1 ∷ did 0 0 1 ∷ []

pub pairs_worked : PairsWorked
unfolding to_pairs worked_ward encode decode read check failed_by bytes_of read_ward body_of night_phase day_phase nights_open common_fits lists_fit first_over up_to act answers session advance reply extend run refusal given next penalty allowed common hers in_common starts follow shifted through last_run marks_allow sum_to number_of filter all up_from block_at block groups_at member_sets needs_at needs tail_at pattern days_of pair_of pair_numbers in_pair at_rest_on pair_fits free_on own_pattern with_pairs pattern_list row_state available_on duty_on on_duty members short_on over_on unplaced_in night_parts night_penalty day_parts day_penalty day_list day_rule choice row_duty same any_of free_of windows_hold rests letters row_letters_of letter is_letter first_bad misplaced check_letters check_over holds row_holds letters_in same_row day_holds duty_holds group_holds lettered
pairs_worked = record {
  file_read = refl;
  common_list = refl;
  patterns_1 = refl;
  patterns_2 = refl;
  night_answers = refl;
  night_steps = refl;
  other_pair = refl;
  days_1 = refl;
  days_2 = refl;
  day_answers = refl;
  day_steps = refl;
  not_at_zero = refl;
  unpaired_penalty = refl;
  not_hers = refl;
  roster_checked = refl;
  no_pair_at_rest = refl;
  fine_without = refl;
  together = refl;
  together_answers = refl;
  none_answers = refl;
  none_steps = refl;
}
