-- A nurse's days one by one: which cost a day has, their sum, and what no sum comes below.
use Rattle.std.specs.Prelude.{◌≡◌, Bool, true, false, cond, ◌||◌, List, ℕ, ◌+◌, ◌≤◌, min}
use Rattle.std.proofs.Common.{arith}
use Rattle.numbers.specs.Sum.{sum_to, Is}
use Rattle.numbers.specs.Digits.{has}
use Rattle.numbers.proofs.SumLaws.{sum_le, sum_mono}
use Rattle.tables.proofs.TrialLaws.{without_none}
use Rattle.tables.specs.CodeTables.{Low, Small, night_on, open_on, none_on, day_without, trial_of, trial_without, read_at, table_trial}

-- ---- sums of a loop

-- what the days cost where she is not available on some
cond_most : (a b e : Bool) {x y z m : ℕ} → x ≤ m → y ≤ m → z ≤ m → cond a x (cond e z (cond b z y)) ≤ m
cond_most true b e h k l = h
cond_most false b true h k l = l
cond_most false true false h k l = l
cond_most false false false h k l = k

module _ (c : List ℕ) (n x off : ℕ) (s : Small c n) where
  day_most : (d : ℕ) → day_without c x off d ≤ 371200
  unfolding day_without
  day_most d = cond_most (has x (d + 2)) (has x (d + 1) || has x d) (has off d) (s.small.low d) (s.small.low (36 + d)) (s.small.low (72 + d))

  pub without_most : sum_to n (day_without c x off) ≤ 13363200
  without_most = omega (arith, s.days_most, sum_le n 371200 (day_without c x off) (λ d l. day_most d))

  pub without_is : {r : ℕ} → r ≡ sum_to n (day_without c x off) → Is r (trial_without c n x off) 13363200
  unfolding trial_without
  without_is e = record { is = e; most = rw e without_most }

-- what a trial reads
module _ (t : List ℕ) (x : ℕ) where
  pub reads_most : Low t 2227200 → sum_to 6 (read_at t x) ≤ 13363200
  unfolding read_at
  reads_most s = omega (arith, sum_le 6 2227200 (read_at t x) (λ b l. s.low _))

  pub reads_are : {r : ℕ} → r ≡ sum_to 6 (read_at t x) → r ≡ table_trial t x
  unfolding table_trial
  reads_are e = e

-- ---- the least of each day

cond_low : (a b e : Bool) {x y z m : ℕ} → m ≤ x → m ≤ y → m ≤ z → m ≤ cond a x (cond e z (cond b z y))
cond_low true b e h k l = h
cond_low false b true h k l = l
cond_low false true false h k l = l
cond_low false false false h k l = k

abbrev pub least_on : List ℕ → ℕ → ℕ
least_on c d = min (min (night_on c d) (open_on c d)) (none_on c d)

-- it is no more than the day, whatever the starts and the days off
least_day : (c : List ℕ) (x off d : ℕ) → least_on c d ≤ day_without c x off d
unfolding day_without
least_day c x off d = cond_low (has x (d + 2)) (has x (d + 1) || has x d) (has off d) (omega arith) (omega arith) (omega arith)

module _ (c : List ℕ) (n : ℕ) where
  pub least_most : Small c n → sum_to n (least_on c) ≤ 13363200
  least_most s = omega (arith, s.days_most, sum_le n 371200 (least_on c) (λ d l. omega (arith, s.small.low d)))

  pub least_without : {r : ℕ} → r ≡ sum_to n (least_on c) → (x off : ℕ) → r ≤ trial_without c n x off
  unfolding trial_without
  least_without e x off = rw e (sum_mono n (least_on c) (day_without c x off) (λ d l. least_day c x off d))

  pub least_trials : {r : ℕ} → r ≡ sum_to n (least_on c) → (x : ℕ) → r ≤ trial_of c n x
  least_trials e x = rw without_none at (least_without e x 0)
