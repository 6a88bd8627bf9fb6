-- The binary digits of a number: what masks, counts of ones and shifts are in terms of them.
use Rattle.std.specs.Prelude.{◌≡◌, refl, Bool, true, false, cond, ◌&&◌, ℕ, zero, suc, ◌+◌, ◌-◌, ◌*◌, ◌/◌, ◌%◌, ◌^◌, ◌≤◌, ◌<◌, min, max, bit_and, bit_or, eqb}
use Rattle.std.proofs.Common.{sym, ap, ap₂, ◌∙◌, subst, div-one, mod-lt, lt_of_le_of_lt, zero-lt-suc, not-suc-le-zero, le_of_suc-le-suc, one-mul, zero-mul, pow-suc, zero-add, add-one, one-add, arith, shr-shr, shr_lt, ne_eqb, eq-eqb}
use Rattle.std.proofs.lemmas.Nat.{and_shr, or_shr, and_le_r, one_shl}
use Rattle.std.proofs.Math.Arith.{lt-one, digits_mod}
use Rattle.std.proofs.Math.Dec.{eqb-zero-suc, eqb-suc-zero, eqb-suc-suc}
use Rattle.std.proofs.Math.Decide.{dec_lt}
use Rattle.std.proofs.Math.Nat.{zero-mod, zero-div, zero-min}
use Rattle.std.proofs.Math.Pow.{pow-lt, high, low, field, mod-mod-pow}
use Rattle.std.specs.Int.Bits.{and_step, or_step}
use Rattle.std.specs.Int.Count.{ones, ones_step}
use Rattle.numbers.specs.Sum.{sum_to, count_to, one_if}
use Rattle.numbers.specs.Digits.{bit, has, put, number_of}
use Rattle.numbers.proofs.SumLaws.{sum_front, sum_ext, sum_zero, sum_change}

pub bit_lt : (x i : ℕ) → bit x i < 2
bit_lt x i = mod-lt (x / 2 ^ i) (zero-lt-suc 1)

pub bit_zero : (x : ℕ) → bit x 0 ≡ x % 2
bit_zero x = ap (λ (y : ℕ). y % 2) (div-one x)

pub bit_suc : (x i : ℕ) → bit x (suc i) ≡ bit (x / 2) i
bit_suc x i = sym (ap (λ (y : ℕ). y % 2) (shr-shr x 1 i ∙ ap (λ (k : ℕ). x / 2 ^ k) (one-add i)))

half_lt : (k x : ℕ) → x < 2 ^ suc k → x / 2 < 2 ^ k
half_lt k x h = shr_lt k 1 (subst (λ (j : ℕ). x < 2 ^ j) (sym (add-one k)) h)

-- the ones of a number of k digits are the sum of its digits
pub ones_sum : (k x : ℕ) → x < 2 ^ k → ones x ≡ sum_to k (λ i. bit x i)
unfolding ones
ones_sum zero x h = ap ones (lt-one h) ∙ sym (sum_zero (λ i. bit x i))
ones_sum (suc k) x h =
    ones_step x
    ∙ ap₂ (λ (p q : ℕ). p + q) (sym (bit_zero x)) (ones_sum k (x / 2) (half_lt k x h) ∙ sum_ext k (λ i. bit (x / 2) i) (λ i. bit x (suc i)) (λ i l. sym (bit_suc x i)))
    ∙ sym (sum_front k (λ i. bit x i))

min_lt : (a b : ℕ) → a < 2 → b < 2 → min a b < 2
min_lt a b h k = omega arith

max_lt : (a b : ℕ) → a < 2 → b < 2 → max a b < 2
max_lt a b h k = omega arith

and_low : (a b : ℕ) → bit_and a b % 2 ≡ min (a % 2) (b % 2)
and_low a b =
    ap (λ (x : ℕ). x % 2) (and_step a b)
    ∙ digits_mod (bit_and (a / 2) (b / 2)) (min_lt (a % 2) (b % 2) (mod-lt a (zero-lt-suc 1)) (mod-lt b (zero-lt-suc 1)))

or_low : (a b : ℕ) → bit_or a b % 2 ≡ max (a % 2) (b % 2)
or_low a b =
    ap (λ (x : ℕ). x % 2) (or_step a b)
    ∙ digits_mod (bit_or (a / 2) (b / 2)) (max_lt (a % 2) (b % 2) (mod-lt a (zero-lt-suc 1)) (mod-lt b (zero-lt-suc 1)))

pub bit_of_and : (a b i : ℕ) → bit (bit_and a b) i ≡ min (bit a i) (bit b i)
bit_of_and a b i = ap (λ (x : ℕ). x % 2) (and_shr a b i) ∙ and_low (a / 2 ^ i) (b / 2 ^ i)

pub bit_of_or : (a b i : ℕ) → bit (bit_or a b) i ≡ max (bit a i) (bit b i)
bit_of_or a b i = ap (λ (x : ℕ). x % 2) (or_shr a b i) ∙ or_low (a / 2 ^ i) (b / 2 ^ i)

pub bit_of_zero : (j : ℕ) → bit 0 j ≡ 0
bit_of_zero j = ap (λ (y : ℕ). y % 2) (zero-div (2 ^ j)) ∙ zero-mod 2

-- a number of k digits has none at k or above
pub bit_above : (k x j : ℕ) → x < 2 ^ k → k ≤ j → bit x j ≡ 0
bit_above zero x j h l = ap (λ (y : ℕ). bit y j) (lt-one h) ∙ bit_of_zero j
bit_above (suc k) x zero h l = absurd (not-suc-le-zero l)
bit_above (suc k) x (suc j) h l = bit_suc x j ∙ bit_above k (x / 2) j (half_lt k x h) (le_of_suc-le-suc l)

pow_div : (i : ℕ) → 2 ^ suc i / 2 ≡ 2 ^ i
pow_div i = omega arith

pow_even : (i : ℕ) → 2 ^ suc i % 2 ≡ 0
pow_even i = omega arith

-- a power of two has one digit
pub bit_pow : (i j : ℕ) → bit (2 ^ i) j ≡ one_if (eqb j i)
bit_pow zero zero = refl
bit_pow zero (suc j) = bit_suc 1 j ∙ bit_of_zero j ∙ ap one_if (sym (eqb-suc-zero j))
bit_pow (suc i) zero = bit_zero (2 ^ suc i) ∙ pow_even i ∙ ap one_if (sym (eqb-zero-suc i))
bit_pow (suc i) (suc j) = bit_suc (2 ^ suc i) j ∙ ap (λ (y : ℕ). bit y j) (pow_div i) ∙ bit_pow i j ∙ ap one_if (sym (eqb-suc-suc j i))

comp_half : (k x : ℕ) → x < 2 ^ suc k → ((2 ^ suc k - 1) - x) / 2 ≡ (2 ^ k - 1) - x / 2
comp_half k x h = omega arith

comp_low : (k x : ℕ) → x < 2 ^ suc k → ((2 ^ suc k - 1) - x) % 2 ≡ 1 - x % 2
comp_low k x h = omega arith

-- the complement
pub bit_not : (k x j : ℕ) → x < 2 ^ k → j < k → bit ((2 ^ k - 1) - x) j ≡ 1 - bit x j
bit_not zero x j h l = absurd (not-suc-le-zero l)
bit_not (suc k) x zero h l = bit_zero ((2 ^ suc k - 1) - x) ∙ comp_low k x h ∙ ap (λ (y : ℕ). 1 - y) (sym (bit_zero x))
bit_not (suc k) x (suc j) h l =
    bit_suc ((2 ^ suc k - 1) - x) j ∙ ap (λ (y : ℕ). bit y j) (comp_half k x h)
    ∙ bit_not k (x / 2) j (half_lt k x h) (le_of_suc-le-suc l) ∙ ap (λ (y : ℕ). 1 - y) (sym (bit_suc x j))

max_set : (a : ℕ) (t : Bool) → a < 2 → eqb (max a (one_if t)) 1 ≡ cond t true (eqb a 1)
max_set zero true h = refl
max_set zero false h = refl
max_set (suc zero) true h = refl
max_set (suc zero) false h = refl
max_set (suc (suc a)) t h = absurd (not-suc-le-zero (le_of_suc-le-suc (le_of_suc-le-suc h)))

min_clear : (a : ℕ) (t : Bool) → a < 2 → eqb (min a (1 - one_if t)) 1 ≡ cond t false (eqb a 1)
min_clear zero true h = refl
min_clear zero false h = refl
min_clear (suc zero) true h = refl
min_clear (suc zero) false h = refl
min_clear (suc (suc a)) t h = absurd (not-suc-le-zero (le_of_suc-le-suc (le_of_suc-le-suc h)))

-- `x | (1 << i)`
pub has_set : (k x i : ℕ) → i < k → (j : ℕ) → has (bit_or x ((1 * 2 ^ i) % 2 ^ k)) j ≡ put (has x) i true j
has_set k x i l j =
    ap (λ (y : ℕ). has (bit_or x y) j) (one_shl i k l)
    ∙ ap (λ (y : ℕ). eqb y 1) (bit_of_or x (2 ^ i) j ∙ ap (λ (y : ℕ). max (bit x j) y) (bit_pow i j))
    ∙ max_set (bit x j) (eqb j i) (bit_lt x j)

-- `x & !(1 << i)`
pub has_clear : (k x i : ℕ) → x < 2 ^ k → i < k → (j : ℕ) → has (bit_and x ((2 ^ k - 1) - (1 * 2 ^ i) % 2 ^ k)) j ≡ put (has x) i false j
has_clear k x i h l j =
    ap (λ (y : ℕ). has (bit_and x ((2 ^ k - 1) - y)) j) (one_shl i k l)
    ∙ ap (λ (y : ℕ). eqb y 1) (bit_of_and x ((2 ^ k - 1) - 2 ^ i) j)
    ∙ elim (dec_lt j k) [ yes q ↦ low q | no q ↦ high (le_of_not_lt q) ]
  where
    low : j < k → eqb (min (bit x j) (bit ((2 ^ k - 1) - 2 ^ i) j)) 1 ≡ put (has x) i false j
    low q =
        ap (λ (y : ℕ). eqb (min (bit x j) y) 1) (bit_not k (2 ^ i) j (pow-lt l) q ∙ ap (λ (y : ℕ). 1 - y) (bit_pow i j))
        ∙ min_clear (bit x j) (eqb j i) (bit_lt x j)

    high : k ≤ j → eqb (min (bit x j) (bit ((2 ^ k - 1) - 2 ^ i) j)) 1 ≡ put (has x) i false j
    high q = ap (λ (y : ℕ). eqb (min y (bit ((2 ^ k - 1) - 2 ^ i) j)) 1) e ∙ ap (λ (y : ℕ). eqb y 1) (zero-min (bit ((2 ^ k - 1) - 2 ^ i) j)) ∙ sym (ap (λ (y : ℕ). cond (eqb j i) false (eqb y 1)) e ∙ both (eqb j i))
      where
        e : bit x j ≡ 0
        e = bit_above k x j h q

        both : (t : Bool) → cond t false false ≡ false
        both true = refl
        both false = refl

    le_of_not_lt : (j < k → ⊥) → k ≤ j
    le_of_not_lt q = omega arith

bit_one_if : (a : ℕ) → a < 2 → a ≡ one_if (eqb a 1)
bit_one_if zero h = refl
bit_one_if (suc zero) h = refl
bit_one_if (suc (suc a)) h = absurd (not-suc-le-zero (le_of_suc-le-suc (le_of_suc-le-suc h)))

-- the ones of a number of k digits: how many of the k are set
pub ones_count : (k x : ℕ) → x < 2 ^ k → ones x ≡ count_to k (has x)
ones_count k x h = ones_sum k x h ∙ sum_ext k (λ i. bit x i) (λ i. one_if (has x i)) (λ i l. bit_one_if (bit x i) (bit_lt x i))

pub masked_lt : (k x g : ℕ) → g < 2 ^ k → bit_and x g < 2 ^ k
masked_lt k x g h = lt_of_le_of_lt (and_le_r x g) h

-- ---- the number of a set

pub cond_lt : (b : Bool) (x m : ℕ) → x < m → x + cond b m 0 < m + m
cond_lt true x m h = omega arith
cond_lt false x m h = omega arith

pub number_lt : (t : ℕ → Bool) (n : ℕ) → number_of t n < 2 ^ n
unfolding number_of
number_lt t zero = omega arith
number_lt t (suc d) =
    let twice : 2 ^ suc d ≡ 2 ^ d + 2 ^ d = rw (pow-suc 2 d) (omega arith) in
    rw twice (cond_lt (t d) (number_of t d) (2 ^ d) (number_lt t d))

pub bit_place : (b : Bool) (q m : ℕ) → q + cond b m 0 ≡ one_if b * m + q
bit_place true q m = omega (arith, one-mul m)
bit_place false q m = omega (arith, zero-mul m)

bit_test : (b : Bool) → eqb (one_if b % 2) 1 ≡ b
bit_test true = refl
bit_test false = refl

-- a digit below the d-th is that of the number's d last digits
pub low_digit : (x d b : ℕ) → b < d → x % 2 ^ d / 2 ^ b % 2 ≡ x / 2 ^ b % 2
low_digit x d b h =
    let j = d - b - 1 in
    let e : d ≡ (j + 1) + b = omega arith in
    ap (λ (k : ℕ). x % 2 ^ k / 2 ^ b % 2) e ∙ ap (λ (y : ℕ). y % 2) (field x (j + 1) b) ∙ mod-mod-pow (x / 2 ^ b) j 1

digit_step : (t : ℕ → Bool) (d b q : ℕ) → q < 2 ^ d → (b < d → has q b ≡ t b) → b < suc d → has (q + cond (t d) (2 ^ d) 0) b ≡ t b
digit_step t d b q small ih h = rw (bit_place (t d) q (2 ^ d)) (go (dec_lt b d))
  where
    x : ℕ
    x = one_if (t d) * 2 ^ d + q

    go : Dec (b < d) → eqb (x / 2 ^ b % 2) 1 ≡ t b
    go (yes l) = rw (← low_digit x d b l, low (one_if (t d)) d small) (ih l)
    go (no l) =
        let e : b ≡ d = omega arith in
        rw (e, high (one_if (t d)) d small) (bit_test (t d))

-- its digits are the test's answers
pub number_has : (t : ℕ → Bool) (n b : ℕ) → b < n → has (number_of t n) b ≡ t b
unfolding number_of
number_has t zero b h = absurd (omega arith)
number_has t (suc d) b h = digit_step t d b (number_of t d) (number_lt t d) (λ l. number_has t d b l) h

pub number_zero : (t : ℕ → Bool) → number_of t 0 ≡ 0
unfolding number_of
number_zero t = refl

pub number_suc : (t : ℕ → Bool) (d : ℕ) → number_of t (d + 1) ≡ number_of t d + cond (t d) (2 ^ d) 0
unfolding number_of
number_suc t d = rw (add-one d)

-- ---- a choice with another one at i

pub put_here : (f : ℕ → Bool) (i : ℕ) (b : Bool) (j : ℕ) → j ≡ i → put f i b j ≡ b
put_here f i b j e = rw (eq-eqb j i e)

pub put_there : (f : ℕ → Bool) (i : ℕ) (b : Bool) (j : ℕ) → (j ≡ i → ⊥) → put f i b j ≡ f j
put_there f i b j e = rw (ne_eqb j i e)

-- put in, i counts once more than taken out
pub count_put : (n i : ℕ) (f p : ℕ → Bool) → i < n
    → count_to n (λ j. put f i true j && p j) ≡ count_to n (λ j. put f i false j && p j) + one_if (p i)
count_put n i f p l =
    sum_change n i (one_if (p i)) (λ j. one_if (put f i true j && p j)) (λ j. one_if (put f i false j && p j)) l
    (λ j q. ap (λ (b : Bool). one_if (b && p j)) (put_there f i true j q ∙ sym (put_there f i false j q)))
    (ap (λ (b : Bool). one_if (b && p i)) (put_here f i true i refl) ∙ sym (zero-add (one_if (p i))) ∙ sym (ap (λ (b : Bool). one_if (b && p i) + one_if (p i)) (put_here f i false i refl)))

pub count_put_all : (n i : ℕ) (f : ℕ → Bool) → i < n → count_to n (put f i true) ≡ count_to n (put f i false) + 1
count_put_all n i f l =
    sum_change n i 1 (λ j. one_if (put f i true j)) (λ j. one_if (put f i false j)) l
    (λ j q. ap one_if (put_there f i true j q ∙ sym (put_there f i false j q)))
    (ap one_if (put_here f i true i refl) ∙ sym (ap (λ (b : Bool). one_if b + 1) (put_here f i false i refl)))

pub bit_is : (x i : ℕ) → bit x i ≡ one_if (has x i)
bit_is x i = bit_one_if (bit x i) (bit_lt x i)

-- digit j of the d digits from s on
pub part_digit : (x s d j : ℕ) → j < d → has (x / 2 ^ s % 2 ^ d) j ≡ has x (s + j)
part_digit x s d j h = ap (λ (y : ℕ). eqb y 1) (low_digit (x / 2 ^ s) d j h ∙ ap (λ (y : ℕ). y % 2) (shr-shr x s j))
