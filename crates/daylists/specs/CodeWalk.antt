-- The walk that lists a nurse's day patterns: from the last day to the first, not worked before worked, and only where a pattern may
-- remain; over her month and its row, and as the code goes it, over a table made of them.
use Rattle.std.specs.Prelude.{◌≡◌, Bool, cond, not, ◌&&◌, ◌||◌, List, [], ◌∷◌, ◌++◌, ℕ, zero, suc, ◌+◌, ◌-◌, ◌*◌, ◌/◌, ◌%◌, ◌^◌, ◌≤◌, ◌<◌, min, ltb, get_or}
use Rattle.std.specs.Int.Bits.{bit_or}
use Rattle.fields.specs.Sizes.{day_places}
use Rattle.numbers.specs.Range.{up_from, all}
use Rattle.numbers.specs.Digits.{bit, has}
use Rattle.days.specs.Days.{windows_hold}
use Rattle.days.specs.CodeMonth.{duty_at, rest_on}
use Rattle.days.specs.declared.month.Month.{Month}

-- ---- where a pattern may remain

-- day d is as it may be in the choice of q
abbrev pub may_choose : Month → ℕ → ℕ → Bool
may_choose m q d = cond (has q d) (has m.available d) (not (has m.fixed d))

-- The day six days after day d, if it is in the month: it is as it may be, and the windows hold that end on it.
unfoldable pub step_holds : Month → List ℕ → ℕ → ℕ → Bool
step_holds m row d q = ltb m.days (d + 7) || (may_choose m q (d + 6) && windows_hold (duty_at row q) m.longest (d + 13))

-- The same of each of the month's first six days.
unfoldable pub first_hold : Month → List ℕ → ℕ → Bool
first_hold m row s =
    all (may_choose m s) (up_from 0 (min 6 m.days)) && all (windows_hold (duty_at row s) m.longest) (up_from 7 (min 6 m.days))

-- The counts of rests after day d from which day d, chosen as in q, leads on, by those from which the days before it do.
unfoldable pub branch : Month → List ℕ → (ℕ → ℕ) → ℕ → ℕ → ℕ
branch m row before d q = cond (step_holds m row d q) (before (q / 2 ^ d % 64) / 2 ^ rest_on row q d) 0

-- For the six days from day d on chosen as in s, the counts of rests from day d on with which some choice of the days before d
-- meets the rules.
unfoldable pub reach : Month → List ℕ → ℕ → ℕ → ℕ
reach m row zero s = cond (first_hold m row s) m.within 0
reach m row (suc d) s =
    bit_or
    (branch m row (λ x. reach m row d x) d (s * 2 ^ suc d))
    (branch m row (λ x. reach m row d x) d (s * 2 ^ suc d + 2 ^ d))

-- The counts of rests with which the walk goes on at day d, for the seven days from it on chosen as in x.
unfoldable pub onward : Month → List ℕ → ℕ → ℕ → ℕ
onward m row d x = cond (step_holds m row d (x * 2 ^ d)) (reach m row d (x % 64)) 0

-- a table has 128 places for each day, and holds them for the first k choices of a day and of the six days from it on, 64 for each day;
-- but only for choices of days of the month
pub record Filled (m : Month) (row ways : List ℕ) (k : ℕ) : Type 0 where
  pub entry : (d x : ℕ) → x < 128 → x < 2 ^ (m.days - d) → 64 * d + x % 64 < k → get_or ways (128 * d + x) 0 ≡ onward m row d x

-- the set of the first n days that are a rest where they are not worked
pub record Idle (row : List ℕ) (n idle : ℕ) : Type 0 where
  pub rest : (d : ℕ) → d < n → bit idle d ≡ rest_on row 0 d

-- ---- the walk

-- The days before d are undecided, a is the number that the others make, with r rests. With d 0, where the walk has come to a, this is the rule
-- (proofs/ReachLaws: `comes_to`).
unfoldable pub goes_on : Month → List ℕ → ℕ → ℕ → ℕ → Bool
goes_on m row d a r = step_holds m row d a && has (reach m row d (a / 2 ^ d % 64)) r

unfoldable pub listed : Month → List ℕ → ℕ → ℕ → ℕ → List ℕ
listed m row zero a r = cond (goes_on m row zero a r) (a ∷ []) []
listed m row (suc d) a r =
    cond (goes_on m row (suc d) a r)
    (listed m row d a (r + rest_on row a d) ++ listed m row d (a + 2 ^ d) (r + rest_on row (a + 2 ^ d) d)) []

-- ---- the same walk over the table and the set alone (proofs/OnwardLaws: `walked_is`)

-- `goes_on` by the table
unfoldable pub opens : List ℕ → ℕ → ℕ → ℕ → Bool
opens ways d a r = has (get_or ways (128 * d + a / 2 ^ d % 128) 0) r

-- `listed` by the table and the set: a day that is worked is no rest
unfoldable pub walked : List ℕ → ℕ → ℕ → ℕ → ℕ → List ℕ
walked ways idle zero a r = cond (opens ways zero a r) (a ∷ []) []
walked ways idle (suc d) a r =
    cond (opens ways (suc d) a r) (walked ways idle d a (r + bit idle d) ++ walked ways idle d (a + 2 ^ d) r) []

-- what the walk asks where it stands
pub record Inside (left a r : ℕ) : Type 0 where
  pub days_left : r + left ≤ day_places
  pub fits : a + 2 ^ left ≤ 2 ^ 32

-- each of a list put into the places from i on, where `Put` says what one put into a room makes of it
unfoldable pub PutFrom : {R : Type 0} → (R → ℕ → ℕ → R → Type 0) → R → ℕ → List ℕ → R → Type 0
PutFrom Put s i [] t = t ≡ s
PutFrom Put s i (x ∷ xs) t = (u : _) × Put s i x u × PutFrom Put u (i + 1) xs t
