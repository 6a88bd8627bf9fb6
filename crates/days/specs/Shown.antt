-- What the day rule comes to on rows that single rules forbid, and on one nurse's days, computed by the prover.
use Rattle.std.specs.Prelude.{◌≡◌, refl, Bool, true, false, ◌||◌, List, [], ◌∷◌, ◌++◌, ℕ, ◌^◌, eqb, get_or}
use Rattle.numbers.specs.Range.{up_from, filter, all, any_of}
use Rattle.rows.specs.Rows.{row_state, available_on, duty_on}
use Rattle.days.specs.Days.{choice, row_duty, same, free_of, windows_hold, rests, day_rule}

-- a row whose month is the one day at place 7, with D 3
abbrev HoldsAt7 : List ℕ → Type 0
HoldsAt7 duties = windows_hold (λ t. get_or duties t 0) 3 7 ≡ true

abbrev Broken : List ℕ → Type 0
Broken duties = windows_hold (λ t. get_or duties t 0) 3 7 ≡ false

-- her day patterns in a month of n days with D 3: no nights and no bounds, after these seven days, under these marks, with a pair of the days `off`
abbrev list_of : ℕ → List ℕ → List ℕ → (ℕ → Bool) → List ℕ
list_of n seven marks off = filter (day_rule (seven ++ (0 ∷ 15 ∷ 0 ∷ 31 ∷ marks)) n 3 0 off) (up_from 0 (2 ^ n))

abbrev no_pair : ℕ → Bool
no_pair d = false

abbrev second_and_third : ℕ → Bool
second_and_third d = eqb d 2 || eqb d 3

-- a free month of two days after these seven
abbrev after : List ℕ → List ℕ
after seven = list_of 2 seven (0 ∷ 0 ∷ []) no_pair

-- a month of four days with this pair under these marks, after seven rests
abbrev under : (ℕ → Bool) → List ℕ → List ℕ
under off marks = list_of 4 (0 ∷ 0 ∷ 0 ∷ 0 ∷ 0 ∷ 0 ∷ 0 ∷ []) marks off

pub record RowsShown : Type 0 where
  pub four_days : Broken (0 ∷ 0 ∷ 0 ∷ 0 ∷ 1 ∷ 1 ∷ 1 ∷ 1 ∷ [])
  -- document 02, job 1: `- - + -` is too long, `- + /` is fine; other duty alone is a run as well
  pub other_in_run : Broken (0 ∷ 0 ∷ 0 ∷ 0 ∷ 1 ∷ 1 ∷ 4 ∷ 1 ∷ [])
  pub short_run : HoldsAt7 (0 ∷ 0 ∷ 0 ∷ 0 ∷ 0 ∷ 1 ∷ 4 ∷ 0 ∷ [])
  pub four_others : Broken (0 ∷ 0 ∷ 0 ∷ 0 ∷ 4 ∷ 4 ∷ 4 ∷ 4 ∷ [])
  -- a rest in seven days; other duty is none
  pub no_rest : Broken (0 ∷ 1 ∷ 1 ∷ 1 ∷ 2 ∷ 3 ∷ 2 ∷ 3 ∷ [])
  pub other_is_no_rest : Broken (0 ∷ 4 ∷ 2 ∷ 3 ∷ 4 ∷ 2 ∷ 3 ∷ 4 ∷ [])
  pub one_rest : HoldsAt7 (0 ∷ 0 ∷ 2 ∷ 3 ∷ 4 ∷ 2 ∷ 3 ∷ 4 ∷ [])
  -- rest-day-rest-day-rest; with other duty for a day it is none
  pub rest_day_rest_day_rest : Broken (0 ∷ 0 ∷ 0 ∷ 0 ∷ 1 ∷ 0 ∷ 1 ∷ 0 ∷ [])
  pub rest_day_rest_other_rest : HoldsAt7 (0 ∷ 0 ∷ 0 ∷ 0 ∷ 1 ∷ 0 ∷ 4 ∷ 0 ∷ [])
  -- after three day duties, or day and other duties, she works day 1 no more
  pub three_before : after (0 ∷ 0 ∷ 0 ∷ 0 ∷ 1 ∷ 1 ∷ 1 ∷ []) ≡ 0 ∷ 2 ∷ []
  pub others_before : after (0 ∷ 0 ∷ 0 ∷ 0 ∷ 4 ∷ 1 ∷ 4 ∷ []) ≡ 0 ∷ 2 ∷ []
  pub none_before : after (0 ∷ 0 ∷ 0 ∷ 0 ∷ 0 ∷ 0 ∷ 0 ∷ []) ≡ 0 ∷ 1 ∷ 2 ∷ 3 ∷ []
  -- other duty on day 2: not days 1, 3 and 4 together; on four days running: no pattern
  pub other_between : under no_pair (0 ∷ 4 ∷ 0 ∷ 0 ∷ []) ≡ 0 ∷ 1 ∷ 4 ∷ 5 ∷ 8 ∷ 9 ∷ 12 ∷ []
  pub no_pattern : under no_pair (4 ∷ 4 ∷ 4 ∷ 4 ∷ []) ≡ []
  -- document 02, job 2: she works neither day of her pair, and has no pattern where one of them is marked 2
  pub pair_off : under second_and_third (0 ∷ 0 ∷ 0 ∷ 0 ∷ []) ≡ 0 ∷ 1 ∷ 8 ∷ 9 ∷ []
  pub pair_marked : under second_and_third (0 ∷ 0 ∷ 2 ∷ 0 ∷ []) ≡ []

pub rows_shown : RowsShown
unfolding day_rule choice row_duty same any_of free_of windows_hold rests up_from filter all row_state available_on duty_on
rows_shown = record {
  four_days = refl;
  other_in_run = refl;
  short_run = refl;
  four_others = refl;
  no_rest = refl;
  other_is_no_rest = refl;
  one_rest = refl;
  rest_day_rest_day_rest = refl;
  rest_day_rest_other_rest = refl;
  three_before = refl;
  others_before = refl;
  none_before = refl;
  other_between = refl;
  no_pattern = refl;
  pair_off = refl;
  pair_marked = refl;
}
