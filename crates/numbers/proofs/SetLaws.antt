-- Sets as numbers: the members of an intersection, a union, a complement, a set moved one on; and the empty set.
use Rattle.std.specs.Prelude.{◌≡◌, refl, Bool, true, false, cond, not, ◌&&◌, ◌||◌, ℕ, zero, suc, ◌+◌, ◌-◌, ◌*◌, ◌/◌, ◌%◌, ◌^◌, ◌≤◌, ◌<◌, min, max, bit_and, bit_or, eqb}
use Rattle.std.proofs.Common.{sym, ap, ◌∙◌, suc-le-suc, one-mul, zero-mul, mod-eq_of_lt, pow-suc, add-one, arith, shr_lt, eqb-true}
use Rattle.std.proofs.lemmas.Bool.{eqb-false}
use Rattle.std.proofs.Math.Arith.{lt-one}
use Rattle.std.proofs.Math.Pow.{pow-lt}
use Rattle.std.specs.Int.Bits.{or_shifted_r}
use Rattle.numbers.specs.Sum.{count_to, one_if}
use Rattle.numbers.specs.Digits.{bit, has, number_of}
use Rattle.numbers.proofs.SumLaws.{sum_ext}
use Rattle.numbers.proofs.DigitLaws.{bit_lt, bit_zero, bit_suc, bit_of_and, bit_of_or, bit_not, bit_above, bit_place, cond_lt, number_lt, number_has}

min_one : (a b : ℕ) → a < 2 → b < 2 → eqb (min a b) 1 ≡ (eqb a 1 && eqb b 1)
min_one zero zero h k = refl
min_one zero (suc zero) h k = refl
min_one (suc zero) zero h k = refl
min_one (suc zero) (suc zero) h k = refl
min_one zero (suc (suc b)) h k = absurd (omega arith)
min_one (suc zero) (suc (suc b)) h k = absurd (omega arith)
min_one (suc (suc a)) b h k = absurd (omega arith)

max_one : (a b : ℕ) → a < 2 → b < 2 → eqb (max a b) 1 ≡ (eqb a 1 || eqb b 1)
max_one zero zero h k = refl
max_one zero (suc zero) h k = refl
max_one (suc zero) zero h k = refl
max_one (suc zero) (suc zero) h k = refl
max_one zero (suc (suc b)) h k = absurd (omega arith)
max_one (suc zero) (suc (suc b)) h k = absurd (omega arith)
max_one (suc (suc a)) b h k = absurd (omega arith)

less_one : (a : ℕ) → a < 2 → eqb (1 - a) 1 ≡ not (eqb a 1)
less_one zero h = refl
less_one (suc zero) h = refl
less_one (suc (suc a)) h = absurd (omega arith)

pub has_and : (x y j : ℕ) → has (bit_and x y) j ≡ (has x j && has y j)
has_and x y j = ap (λ (v : ℕ). eqb v 1) (bit_of_and x y j) ∙ min_one (bit x j) (bit y j) (bit_lt x j) (bit_lt y j)

pub has_or : (x y j : ℕ) → has (bit_or x y) j ≡ (has x j || has y j)
has_or x y j = ap (λ (v : ℕ). eqb v 1) (bit_of_or x y j) ∙ max_one (bit x j) (bit y j) (bit_lt x j) (bit_lt y j)

-- the ones of a column masked by a group of m nurses: how many of the m are in both
pub masked_count : (m x g : ℕ) → count_to m (has (bit_and x g)) ≡ count_to m (λ i. has x i && has g i)
masked_count m x g = sum_ext m (λ i. one_if (has (bit_and x g) i)) (λ i. one_if (has x i && has g i)) (λ i l. ap one_if (has_and x g i))

-- `!x` of a number of k digits
pub has_not : (k x j : ℕ) → x < 2 ^ k → j < k → has ((2 ^ k - 1) - x) j ≡ not (has x j)
has_not k x j h l = ap (λ (v : ℕ). eqb v 1) (bit_not k x j h l) ∙ less_one (bit x j) (bit_lt x j)

-- each member moved one on, with z at 0
pub has_first : (x z : ℕ) → z < 2 → has (x * 2 + z) 0 ≡ eqb z 1
has_first x z h =
    let e : (x * 2 + z) % 2 ≡ z = omega arith in
    ap (λ (v : ℕ). eqb v 1) (bit_zero (x * 2 + z) ∙ e)

pub has_moved : (x z j : ℕ) → z < 2 → has (x * 2 + z) (suc j) ≡ has x j
has_moved x z j h =
    let e : (x * 2 + z) / 2 ≡ x = omega arith in
    ap (λ (v : ℕ). eqb v 1) (bit_suc (x * 2 + z) j ∙ ap (λ (y : ℕ). bit y j) e)

-- and each one back
pub has_back : (x j : ℕ) → has (x / 2) j ≡ has x (suc j)
has_back x j = ap (λ (v : ℕ). eqb v 1) (sym (bit_suc x j))

-- a number of k digits has no member from k on
pub has_above : (k x j : ℕ) → x < 2 ^ k → k ≤ j → has x j ≡ false
has_above k x j h l = ap (λ (v : ℕ). eqb v 1) (bit_above k x j h l)

-- a set with no member is 0
no_odd : (x : ℕ) → has x 0 ≡ false → x % 2 ≡ 0
no_odd x e =
    let f = eqb-false (x % 2) 1 (ap (λ (v : ℕ). eqb v 1) (sym (bit_zero x)) ∙ e) in
    omega (arith, f)

pub none_zero : (k x : ℕ) → x < 2 ^ k → ((j : ℕ) → j < k → has x j ≡ false) → x ≡ 0
none_zero zero x h f = lt-one h
none_zero (suc k) x h f =
    let half : x / 2 < 2 ^ k = shr_lt k 1 (rw (add-one k) h) in
    let rest : x / 2 ≡ 0 = none_zero k (x / 2) half (λ j l. has_back x j ∙ f (suc j) (suc-le-suc l)) in
    omega (arith, no_odd x (f 0 (omega arith)))

-- ---- a set is known by its members

same_odd : (x y : ℕ) → has x 0 ≡ has y 0 → x % 2 ≡ y % 2
same_odd x y e = go (has y 0) refl
  where
    low : (z : ℕ) (b : Bool) → has z 0 ≡ b → eqb (z % 2) 1 ≡ b
    low z b q = ap (λ (v : ℕ). eqb v 1) (sym (bit_zero z)) ∙ q

    go : (b : Bool) → has y 0 ≡ b → x % 2 ≡ y % 2
    go true q = eqb-true (x % 2) 1 (low x true (e ∙ q)) ∙ sym (eqb-true (y % 2) 1 (low y true q))
    go false q =
        let f = eqb-false (x % 2) 1 (low x false (e ∙ q)) in
        let g = eqb-false (y % 2) 1 (low y false q) in
        omega (arith, f, g)

pub members_same : (k x y : ℕ) → x < 2 ^ k → y < 2 ^ k → ((j : ℕ) → j < k → has x j ≡ has y j) → x ≡ y
members_same zero x y h l e = lt-one h ∙ sym (lt-one l)
members_same (suc k) x y h l e =
    let halfx : x / 2 < 2 ^ k = shr_lt k 1 (rw (add-one k) h) in
    let halfy : y / 2 < 2 ^ k = shr_lt k 1 (rw (add-one k) l) in
    let rest : x / 2 ≡ y / 2 = members_same k (x / 2) (y / 2) halfx halfy (λ j m. has_back x j ∙ e (suc j) (suc-le-suc m) ∙ sym (has_back y j)) in
    omega (arith, same_odd x y (e 0 (omega arith)))

-- the number of the set of those that pass a test
pub number_is : (t : ℕ → Bool) (n x : ℕ) → x < 2 ^ n → ((j : ℕ) → j < n → has x j ≡ t j) → x ≡ number_of t n
number_is t n x h e = members_same n x (number_of t n) h (number_lt t n) (λ j l. e j l ∙ sym (number_has t n j l))

-- a set whose members are all below d, with d put in or not, and how large it is then
digit_lt : (k : ℕ) (b : Bool) (d : ℕ) → d < k → one_if b * 2 ^ d < 2 ^ k
digit_lt k true d l = omega (arith, one-mul (2 ^ d), pow-lt l)
digit_lt k false d l = omega (arith, zero-mul (2 ^ d), pow-lt l)

pub or_next : (k : ℕ) (b : Bool) (v x d : ℕ) → v ≡ one_if b → d < k → x < 2 ^ d → bit_or x ((v * 2 ^ d) % 2 ^ k) ≡ x + cond b (2 ^ d) 0
or_next k b v x d e l h = rw e (ap (bit_or x) (mod-eq_of_lt (digit_lt k b d l)) ∙ or_shifted_r (one_if b) d x h ∙ sym (bit_place b x (2 ^ d)))

pub next_below : (b : Bool) (x d : ℕ) → x < 2 ^ d → x + cond b (2 ^ d) 0 < 2 ^ (d + 1)
next_below b x d h =
    let twice : 2 ^ (d + 1) ≡ 2 ^ d + 2 ^ d = rw (add-one d, pow-suc 2 d) (omega arith) in
    rw twice (cond_lt b x (2 ^ d) h)
