-- Tests and functions that agree on a range, and numbers that agree in some of their digits.
use Rattle.std.specs.Prelude.{◌≡◌, refl, Bool, true, false, cond, List, [], ◌∷◌, map, ℕ, zero, suc, ◌+◌, ◌-◌, ◌*◌, ◌/◌, ◌%◌, ◌^◌, ◌≤◌, ◌<◌, eqb, length, get_or, bit_or}
use Rattle.std.proofs.Common.{sym, ap, ◌∙◌, arith, shr-shr}
use Rattle.std.proofs.lemmas.Nat.{shl-shr}
use Rattle.std.proofs.Math.Bool.{or-true}
use Rattle.numbers.specs.Range.{up_from, filter, all}
use Rattle.numbers.specs.Digits.{has}
use Rattle.numbers.proofs.RangeLaws.{range_below, filter_each}
use Rattle.numbers.proofs.DigitLaws.{low_digit}
use Rattle.numbers.proofs.SetLaws.{has_or}

-- ---- on a range

pub map_agree : (f g : ℕ → ℕ) (a n : ℕ) → ((x : ℕ) → a ≤ x → x < a + n → f x ≡ g x) → map f (up_from a n) ≡ map g (up_from a n)
unfolding up_from
map_agree f g a zero h = refl
map_agree f g a (suc n) h = rw (h a (omega arith) (omega arith), map_agree f g (suc a) n (λ x l k. h x (omega arith) (omega arith)))

pub filter_agree : (t u : ℕ → Bool) (a n : ℕ) → ((x : ℕ) → a ≤ x → x < a + n → t x ≡ u x) → filter t (up_from a n) ≡ filter u (up_from a n)
filter_agree t u a n h = filter_each t u (up_from a n) (λ i l. h (get_or (up_from a n) i 0) (range_below a n i l).0 (range_below a n i l).1)

pub all_agree : (t u : ℕ → Bool) (a n : ℕ) → ((x : ℕ) → a ≤ x → x < a + n → t x ≡ u x) → all t (up_from a n) ≡ all u (up_from a n)
unfolding up_from all
all_agree t u a zero h = refl
all_agree t u a (suc n) h = rw (h a (omega arith) (omega arith), all_agree t u (suc a) n (λ x l k. h x (omega arith) (omega arith)))

-- nothing is kept where nothing passes
pub filter_none : (t : ℕ → Bool) (a n : ℕ) → ((x : ℕ) → a ≤ x → x < a + n → t x ≡ false) → filter t (up_from a n) ≡ []
unfolding up_from filter
filter_none t a zero h = refl
filter_none t a (suc n) h = rw (h a (omega arith) (omega arith)) (filter_none t (suc a) n (λ x l k. h x (omega arith) (omega arith)))

filtered_le : (b : Bool) (x : ℕ) (xs : List ℕ) → length (cond b (x ∷ xs) xs) ≤ suc (length xs)
filtered_le true x xs = omega arith
filtered_le false x xs = omega arith

pub filter_le : (t : ℕ → Bool) (xs : List ℕ) → length (filter t xs) ≤ length xs
unfolding filter
filter_le t [] = omega arith
filter_le t (x ∷ xs) = omega (arith, filtered_le (t x) x (filter t xs), filter_le t xs)

-- ---- digits

-- the digits from d on are those of the number without its last d
pub has_high : (x d j : ℕ) → d ≤ j → has x j ≡ has (x / 2 ^ d) (j - d)
has_high x d j h =
    let e : d + (j - d) ≡ j = omega arith in
    ap (λ (y : ℕ). eqb (y % 2) 1) (sym (shr-shr x d (j - d) ∙ ap (λ (k : ℕ). x / 2 ^ k) e))

-- and moved down by k
pub has_moved_down : (x k j : ℕ) → has (x / 2 ^ k) j ≡ has x (k + j)
has_moved_down x k j = ap (λ (y : ℕ). eqb (y % 2) 1) (shr-shr x k j)

-- numbers that are the same without their last d digits
pub high_agree : (x y d j : ℕ) → x / 2 ^ d ≡ y / 2 ^ d → d ≤ j → has x j ≡ has y j
high_agree x y d j e h = has_high x d j h ∙ ap (λ (z : ℕ). has z (j - d)) e ∙ sym (has_high y d j h)

-- a number and its last k digits
pub low_agree : (x k j : ℕ) → j < k → has (x % 2 ^ k) j ≡ has x j
low_agree x k j h = ap (λ (y : ℕ). eqb y 1) (low_digit x k j h)

-- k digits of a number from d on, put back in their place
pub field_agree : (x d k j : ℕ) → d ≤ j → j < d + k → has (x / 2 ^ d % 2 ^ k * 2 ^ d) j ≡ has x j
field_agree x d k j l h =
    has_high (x / 2 ^ d % 2 ^ k * 2 ^ d) d j l
    ∙ ap (λ (z : ℕ). has z (j - d)) (shl-shr (x / 2 ^ d % 2 ^ k) d)
    ∙ low_agree (x / 2 ^ d) k (j - d) (omega arith)
    ∙ sym (has_high x d j l)

-- a digit of either is one of both together
pub has_or_left : (x y j : ℕ) → has x j ≡ true → has (bit_or x y) j ≡ true
has_or_left x y j e = has_or x y j ∙ rw e

pub has_or_right : (x y j : ℕ) → has y j ≡ true → has (bit_or x y) j ≡ true
has_or_right x y j e = has_or x y j ∙ rw e (or-true (has x j))
