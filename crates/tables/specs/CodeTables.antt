-- A nurse's days, what a trial of hers costs by them, and their sums over six days at a time.
-- A trial goes by a set x: bit d + 2 is her start on the day of index d; bits 0 and 1 are those of the two days before the month.
use Rattle.std.specs.Prelude.{◌≡◌, cond, ◌||◌, List, ℕ, ◌+◌, ◌*◌, ◌/◌, ◌%◌, ◌^◌, ◌≤◌, ◌<◌, length, get_or}
use Rattle.numbers.specs.Sum.{sum_to}
use Rattle.numbers.specs.Digits.{has}

-- ---- a nurse's costs c: 36 days each with her at night, open, and neither

abbrev pub night_on : List ℕ → ℕ → ℕ
night_on c d = get_or c d 0

abbrev pub open_on : List ℕ → ℕ → ℕ
open_on c d = get_or c (36 + d) 0

abbrev pub none_on : List ℕ → ℕ → ℕ
none_on c d = get_or c (72 + d) 0

-- every place is at most m
pub record Low (l : List ℕ) (m : ℕ) : Type 0 where
  pub low : (e : ℕ) → get_or l e 0 ≤ m

-- small enough to be added up, and 0 past a month of n days
pub record Small (c : List ℕ) (n : ℕ) : Type 0 where
  pub days_most : n ≤ 31
  pub small : Low c 371200
  pub past : (d : ℕ) → n ≤ d → d < 36 → (night_on c d ≡ 0) × (open_on c d ≡ 0) × (none_on c d ≡ 0)

-- ---- a trial

-- a day: at night where she starts; neither on the two days after a start, unless she starts again; else open
unfoldable pub day_at : List ℕ → ℕ → ℕ → ℕ
day_at c x d = cond (has x (d + 2)) (night_on c d) (cond (has x (d + 1) || has x d) (none_on c d) (open_on c d))

unfoldable pub trial_of : List ℕ → ℕ → ℕ → ℕ
unfolding day_at
trial_of c n x = sum_to n (day_at c x)

-- the same where she is not available on the days of a set
unfoldable pub day_without : List ℕ → ℕ → ℕ → ℕ → ℕ
day_without c x off d = cond (has x (d + 2)) (night_on c d) (cond (has off d) (none_on c d) (cond (has x (d + 1) || has x d) (none_on c d) (open_on c d)))

unfoldable pub trial_without : List ℕ → ℕ → ℕ → ℕ → ℕ
unfolding day_without
trial_without c n x off = sum_to n (day_without c x off)

-- ---- sums over six days

-- day j of the six from 6 * b on, by the eight bits of a key
unfoldable pub key_at : List ℕ → ℕ → ℕ → ℕ → ℕ
key_at c b key j = cond (has key (j + 2)) (night_on c (6 * b + j)) (cond (has key (j + 1) || has key j) (none_on c (6 * b + j)) (open_on c (6 * b + j)))

-- the six days
unfoldable pub six_at : List ℕ → ℕ → ℕ → ℕ
unfolding key_at
six_at c b key = sum_to 6 (key_at c b key)

-- the table holds those from 6 * b on, for every key
abbrev pub Sums : List ℕ → ℕ → List ℕ → Type 0
Sums c b t = (key : ℕ) → key < 256 → get_or t (256 * b + key) 0 ≡ six_at c b key

-- a trial by the sums
unfoldable pub read_at : List ℕ → ℕ → ℕ → ℕ
read_at t x b = get_or t (256 * b + x / 2 ^ (6 * b) % 256) 0

unfoldable pub table_trial : List ℕ → ℕ → ℕ
unfolding read_at
table_trial t x = sum_to 6 (read_at t x)

-- a table: small enough to be added up, and 0 past the sixes of a month of n days
pub record Blank (t : List ℕ) (n : ℕ) : Type 0 where
  pub long : length t ≡ 1536
  pub small : Low t 2227200
  pub past : (e : ℕ) → 256 * ((n + 5) / 6) ≤ e → get_or t e 0 ≡ 0

-- t is the table of the costs c in a month of n days
pub record TableOf (c : List ℕ) (n : ℕ) (t : List ℕ) : Type 0 where
  pub trials : (x : ℕ) → table_trial t x ≡ trial_of c n x
  pub blank : Blank t n

-- ---- how the sums are made, from l to r

-- in so many places from `to` on: those from `from` on with x more
pub record Raised (l r : List ℕ) (from to count x : ℕ) : Type 0 where
  pub long : length r ≡ length l
  pub within : (y : ℕ) → y < count → get_or r (to + y) 0 ≡ get_or l (from + y) 0 + x
  pub before : (e : ℕ) → e < to → get_or r e 0 ≡ get_or l e 0
  pub after : (e : ℕ) → to + count ≤ e → get_or r e 0 ≡ get_or l e 0

-- one day more: the first 4 * one places hold the days before it; `one` is the bit of the start two days before it
pub record Extended (l r : List ℕ) (base one night opened none : ℕ) : Type 0 where
  pub long : length r ≡ length l
  pub open_places : (k : ℕ) → k < one → get_or r (base + k) 0 ≡ get_or l (base + k) 0 + opened
  pub none_places : (k : ℕ) → one ≤ k → k < 4 * one → get_or r (base + k) 0 ≡ get_or l (base + k) 0 + none
  pub night_places : (k : ℕ) → k < 4 * one → get_or r (base + 4 * one + k) 0 ≡ get_or l (base + k) 0 + night
  pub before : (e : ℕ) → e < base → get_or r e 0 ≡ get_or l e 0
  pub after : (e : ℕ) → base + 8 * one ≤ e → get_or r e 0 ≡ get_or l e 0

-- the places from `from` to `to` are 0
pub record Cleared (l r : List ℕ) (from to : ℕ) : Type 0 where
  pub long : length r ≡ length l
  pub within : (e : ℕ) → from ≤ e → e < to → get_or r e 0 ≡ 0
  pub before : (e : ℕ) → e < from → get_or r e 0 ≡ get_or l e 0
  pub after : (e : ℕ) → to ≤ e → get_or r e 0 ≡ get_or l e 0

-- the six days from 6 * b on
pub record SixSummed (c : List ℕ) (b : ℕ) (l r : List ℕ) : Type 0 where
  pub long : length r ≡ length l
  pub sums : Sums c b r
  pub small : Low r 2227200
  pub before : (e : ℕ) → e < 256 * b → get_or r e 0 ≡ get_or l e 0
  pub after : (e : ℕ) → 256 * b + 256 ≤ e → get_or r e 0 ≡ get_or l e 0
