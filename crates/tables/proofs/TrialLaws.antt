-- Six sums of six days are a trial; what days off do to one.
use Rattle.std.specs.Prelude.{◌≡◌, refl, Bool, true, false, cond, ◌||◌, List, ℕ, zero, suc, ◌+◌, ◌-◌, ◌*◌, ◌/◌, ◌%◌, ◌^◌, ◌≤◌, ◌<◌}
use Rattle.std.proofs.Common.{sym, ap, ◌∙◌, add-zero, add-suc, mul-zero, mul-suc, add-sub_of_le, le_refl, mod-lt, zero-lt-suc, arith}
use Rattle.numbers.specs.Sum.{sum_to}
use Rattle.numbers.specs.Digits.{has}
use Rattle.numbers.proofs.SumLaws.{sum_ext, sum_mono, sum_none}
use Rattle.numbers.proofs.DigitLaws.{part_digit, bit_of_zero}
use Rattle.tables.specs.CodeTables.{night_on, open_on, none_on, Small, day_at, trial_of, day_without, trial_without, key_at, six_at, Sums, read_at, table_trial}

-- ---- a trial by the sums

-- a sum in two parts
sum_parts : (k j : ℕ) (f : ℕ → ℕ) → sum_to (k + j) f ≡ sum_to k f + sum_to j (λ i. f (k + i))
unfolding sum_to
sum_parts k zero f = rw (add-zero k) (omega arith)
sum_parts k (suc j) f = rw (add-suc k j) (omega (arith, sum_parts k j f))

-- by m at a time
sum_by : (m k : ℕ) (g : ℕ → ℕ) → sum_to k (λ b. sum_to m (λ j. g (m * b + j))) ≡ sum_to (m * k) g
unfolding sum_to
sum_by m zero g = rw (mul-zero m)
sum_by m (suc k) g = rw (mul-suc m k) (omega (arith, sum_parts (m * k) m g, sum_by m k g))

-- numbers from n on that add nothing
sum_past : (n k : ℕ) (f : ℕ → ℕ) → n ≤ k → ((i : ℕ) → n ≤ i → i < k → f i ≡ 0) → sum_to k f ≡ sum_to n f
sum_past n k f l h =
    let none : sum_to (k - n) (λ i. f (n + i)) ≡ 0 = sum_none (k - n) _ (λ i q. h (n + i) (omega arith) (omega arith)) in
    ap (λ (x : ℕ). sum_to x f) (sym (add-sub_of_le l)) ∙ sum_parts n (k - n) f ∙ omega arith

-- the eight bits from 6 * b on are those of the days
bit_day : (x b i d : ℕ) → i < 8 → 6 * b + i ≡ d → has (x / 2 ^ (6 * b) % 256) i ≡ has x d
bit_day x b i d h e = part_digit x (6 * b) 8 i h ∙ ap (has x) e

key_day : (c : List ℕ) (x b j : ℕ) → j < 6 → key_at c b (x / 2 ^ (6 * b) % 256) j ≡ day_at c x (6 * b + j)
unfolding key_at day_at
key_day c x b j h =
    let d = 6 * b + j in
    let p = bit_day x b (j + 2) (d + 2) (omega arith) (omega arith) in
    let q = bit_day x b (j + 1) (d + 1) (omega arith) (omega arith) in
    let r = bit_day x b j d (omega arith) refl in
    (λ i. cond (p i) (night_on c d) (cond (q i || r i) (none_on c d) (open_on c d)))

read_days : (c t : List ℕ) (x b : ℕ) → Sums c b t → read_at t x b ≡ sum_to 6 (λ j. day_at c x (6 * b + j))
unfolding read_at six_at
read_days c t x b s = s (x / 2 ^ (6 * b) % 256) (mod-lt (x / 2 ^ (6 * b)) (zero-lt-suc 255)) ∙ sum_ext 6 _ _ (λ j l. key_day c x b j l)

cond_zero : (p q : Bool) {a b d : ℕ} → a ≡ 0 → b ≡ 0 → d ≡ 0 → cond p a (cond q b d) ≡ 0
cond_zero true q h k l = h
cond_zero false true h k l = k
cond_zero false false h k l = l

day_past : (c : List ℕ) (n x d : ℕ) → Small c n → n ≤ d → d < 36 → day_at c x d ≡ 0
unfolding day_at
day_past c n x d s h k =
    let z = s.past d h k in
    cond_zero (has x (d + 2)) (has x (d + 1) || has x d) z.0 z.2 z.1

-- the six sums that a trial reads are its days'
pub table_trial_lem : (c t : List ℕ) (n : ℕ) → Small c n → ((b : ℕ) → b < 6 → Sums c b t) → (x : ℕ) → table_trial t x ≡ trial_of c n x
unfolding table_trial trial_of
table_trial_lem c t n s h x =
    let l : n ≤ 36 = omega (arith, s.days_most) in
    sum_ext 6 _ _ (λ b q. read_days c t x b (h b q))
    ∙ sum_by 6 6 (day_at c x)
    ∙ sum_past n 36 (day_at c x) l (λ d p q. day_past c n x d s p q)

-- ---- days off

-- with no day off it is the trial
pub without_none : (c : List ℕ) (n x : ℕ) → trial_without c n x 0 ≡ trial_of c n x
unfolding trial_without trial_of day_without day_at
without_none c n x = sum_ext n _ _ (λ d l. rw (bit_of_zero d))

-- a day off is neither in place of open
off_more : (a b e : Bool) (x : ℕ) {y z : ℕ} → y ≤ z → cond a x (cond b z y) ≤ cond a x (cond e z (cond b z y))
off_more true b e x h = le_refl _
off_more false true true x h = le_refl _
off_more false true false x h = le_refl _
off_more false false true x h = h
off_more false false false x h = le_refl _

-- days off never cost less where a day that is open costs at most what it costs with her neither
pub without_more : (c : List ℕ) (n x off : ℕ) → ((d : ℕ) → d < n → open_on c d ≤ none_on c d) → trial_of c n x ≤ trial_without c n x off
unfolding trial_without trial_of day_without day_at
without_more c n x off h = sum_mono n _ _ (λ d l. off_more (has x (d + 2)) (has x (d + 1) || has x d) (has off d) (night_on c d) (h d l))
