-- The day rule in document 01's words, with jobs 1 and 2 of document 02. `b` is the nurse's block of the ward's numbers, p her night pattern, `off` says which
-- days are of her pair, q is a day pattern. A row has a place for each of the seven days and of the month: place t is day t - 6, so the month's days are
-- places 7 on. proofs/WordsLaws shows that `day_rule` is the same.
use Rattle.std.specs.Prelude.{◌≡◌, Bool, true, false, ◌≢◌, ℕ, ◌+◌, ◌^◌, ◌≤◌, ◌<◌, length, List}
use mathlib.Core.List.{Memᴰ}
use Rattle.fields.specs.Fields.{least_rests_of, most_rests_of, mark_on}
use Rattle.rows.specs.Rows.{started, available_on}
use Rattle.days.specs.Days.{row_duty, window, in_run, is_rest, forbidden, rests}

-- one of the days from place t - k to place t has a duty that passes
pub record Among (row : ℕ → ℕ) (k t : ℕ) (passes : ℕ → Type 0) : Type 0 where
  pub place : ℕ
  pub from : t ≤ place + k
  pub to : place ≤ t
  pub there : passes (row place)

-- what a row keeps, at each window that ends in the month
pub record RowRule (longest n : ℕ) (row : ℕ → ℕ) : Type 0 where
  -- at most D day duties running, other duty counted with them
  pub run : (t : ℕ) → 7 ≤ t → t < 7 + n → Among row longest t (λ duty. in_run duty ≡ false)
  -- a rest in every seven days
  pub rest : (t : ℕ) → 7 ≤ t → t < 7 + n → Among row 6 t (λ duty. is_rest duty ≡ true)
  -- no rest-day-rest-day-rest
  pub no_sequence : (t : ℕ) → 7 ≤ t → t < 7 + n → (s : List ℕ) → Memᴰ s forbidden → window row (length s) t ≢ s

pub record DayHers (b : List ℕ) (n longest p : ℕ) (off : ℕ → Bool) (q : ℕ) : Type 0 where
  -- a set of available days
  pub month : q < 2 ^ n
  pub available : (d : ℕ) → 1 ≤ d → d ≤ n → started q d ≡ true → available_on b p d ≡ true
  -- which those of her pair no longer are (document 02, job 2)
  pub not_off : (d : ℕ) → 1 ≤ d → d ≤ n → started q d ≡ true → off d ≡ false
  -- with every mark 2 in it
  pub marks : (d : ℕ) → 1 ≤ d → d ≤ n → mark_on b d ≡ 2 → started q d ≡ true
  -- over the seven days and the month
  pub row_keeps : RowRule longest n (row_duty b p q)
  -- rests of the month within her bounds
  pub least_rests : least_rests_of b ≤ rests (row_duty b p q) n
  pub most_rests : rests (row_duty b p q) n ≤ most_rests_of b
