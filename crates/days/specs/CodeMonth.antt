-- A nurse's month as the code keeps it, and the day rule over it: `m` is her month, `row` her duties where she works no day. Place t of a row is
-- day t - 6. `has` takes a day's index, from 0, which has place d + 7; `started` takes the day, from 1.
use Rattle.std.specs.Prelude.{◌≡◌, Bool, cond, not, ◌&&◌, List, ℕ, suc, ◌+◌, ◌-◌, ◌^◌, ◌≤◌, ◌<◌, leb, ltb, get_or}
use Rattle.fields.specs.Sizes.{day_places}
use Rattle.numbers.specs.Range.{up_from, all}
use Rattle.numbers.specs.Sum.{one_if}
use Rattle.numbers.specs.Digits.{has, number_of}
use Rattle.fields.specs.Fields.{least_rests_of, most_rests_of}
use Rattle.rows.specs.Rows.{started, fixed_day}
use Rattle.days.specs.Days.{may_work, row_duty, is_rest, windows_hold, rests}
use Rattle.days.specs.declared.month.Month.{Month}

-- a count of rests within bounds
abbrev pub in_bounds : ℕ → ℕ → ℕ → Bool
in_bounds least most k = leb least k && leb k most

-- the month and the row of a nurse with block b, in a month of n days with D `longest`, under the night pattern p with a pair of the days `off`
pub record IsSheet (b : List ℕ) (n longest p : ℕ) (off : ℕ → Bool) (m : Month) (row : List ℕ) : Type 0 where
  pub days_is : m.days ≡ n
  pub longest_is : m.longest ≡ longest
  pub least_is : m.least ≡ least_rests_of b
  pub most_is : m.most ≡ most_rests_of b
  pub available_days : m.available ≡ number_of (λ d. may_work b p off (suc d)) n
  pub fixed_is : m.fixed ≡ number_of (fixed_day b) n
  pub within_is : m.within ≡ number_of (in_bounds (least_rests_of b) (most_rests_of b)) 32
  pub row_is : (t : ℕ) → t < 7 + n → get_or row t 0 ≡ row_duty b p 0 t

-- what the code leans on
pub record SmallMonth (m : Month) : Type 0 where
  pub few_days : m.days ≤ day_places
  pub short : m.longest ≤ 6

-- ---- the day rule over a month

-- her duty at place t where she works the days of q
unfoldable pub duty_at : List ℕ → ℕ → ℕ → ℕ
duty_at row q t = cond (ltb t 7) (get_or row t 0) (cond (has q (t - 7)) 1 (get_or row t 0))

unfoldable pub choice_of : Month → ℕ → Bool
choice_of m q =
    ltb q (2 ^ m.days)
    && all (λ d. cond (started q d) (started m.available d) (not (started m.fixed d))) (up_from 1 m.days)

unfoldable pub rule_of : Month → List ℕ → ℕ → Bool
rule_of m row q =
    choice_of m q
    && (all (windows_hold (duty_at row q) m.longest) (up_from 7 m.days)
    && in_bounds m.least m.most (rests (duty_at row q) m.days))

-- 1 if the day of index d is a rest
unfoldable pub rest_on : List ℕ → ℕ → ℕ → ℕ
rest_on row q d = one_if (is_rest (duty_at row q (d + 7)))
