-- Laws of the pairs of days off: their days, when one is a nurse's, and when she is available under a pattern.
use Rattle.std.specs.Prelude.{◌≡◌, refl, Bool, true, false, not, ◌&&◌, ◌||◌, List, ℕ, zero, suc, ◌-◌, ◌^◌, ◌≤◌, ◌<◌, bit_or, eqb}
use Rattle.std.proofs.Common.{sym, ap, ap₂, ◌∙◌, arith, lt-ltb, le-leb, ne_eqb}
use Rattle.std.proofs.lemmas.Bool.{false≢true, lt-leb}
use Rattle.std.proofs.Math.Bool.{and-true}
use Rattle.std.proofs.Math.Dec.{eqb-suc-suc}
use Rattle.std.proofs.Math.Decide.{dec_lt}
use Rattle.numbers.specs.Digits.{has}
use Rattle.numbers.specs.Sum.{one_if}
use Rattle.numbers.specs.Patterns.{pattern}
use Rattle.numbers.proofs.DigitLaws.{bit_pow, bit_of_zero}
use Rattle.numbers.proofs.SetLaws.{has_or}
use Rattle.numbers.proofs.PatternLaws.{days_of_pattern, pair_of_pattern}
use Rattle.fields.specs.Fields.{block, mark_on, pair_count, pair_day}
use Rattle.rows.specs.Rows.{row_state, available_on}
use Rattle.rows.specs.Pairs.{in_pair, at_rest, at_rest_on, pair_fits, free_on}

-- ---- the days of a pair

pub in_none : (w : List ℕ) (d : ℕ) → in_pair w 0 d ≡ false
unfolding in_pair
in_none w d = refl

pub in_beyond : (w : List ℕ) (k d : ℕ) → pair_count w < k → in_pair w k d ≡ false
unfolding in_pair
in_beyond w k d h = rw (lt-ltb 0 k (omega arith), lt-leb k (pair_count w) h)

pub in_pair_lem : (w : List ℕ) (k d : ℕ) → 1 ≤ k → k ≤ pair_count w → in_pair w k d ≡ (eqb d (pair_day w k) || eqb d (suc (pair_day w k)))
unfolding in_pair
in_pair_lem w k d l h = rw (lt-ltb 0 k l, le-leb k (pair_count w) h)

-- as a set
pub has_none : (d : ℕ) → has 0 d ≡ false
has_none d = ap (λ (x : ℕ). eqb x 1) (bit_of_zero d)

has_one : (i d : ℕ) → has (2 ^ i) d ≡ eqb d i
has_one i d = ap (λ (x : ℕ). eqb x 1) (bit_pow i d) ∙ one_is (eqb d i)
  where
    one_is : (b : Bool) → eqb (one_if b) 1 ≡ b
    one_is true = refl
    one_is false = refl

-- of the days x and x + 1, by their index
two_days : (x d : ℕ) → 1 ≤ x → has (bit_or (2 ^ (x - 1)) (2 ^ x)) d ≡ (eqb (suc d) x || eqb (suc d) (suc x))
two_days zero d l = absurd (omega arith)
two_days (suc x) d l =
    let e : suc x - 1 ≡ x = omega arith in
    has_or (2 ^ (suc x - 1)) (2 ^ suc x) d
    ∙ ap₂ (λ (a b : Bool). a || b)
    (ap (λ (i : ℕ). has (2 ^ i) d) e ∙ has_one x d ∙ sym (eqb-suc-suc d x))
    (has_one (suc x) d ∙ sym (eqb-suc-suc d (suc x)))

pub set_two : (w : List ℕ) (k : ℕ) {second a b : ℕ} → (k ≡ 0 → ⊥) → k ≤ pair_count w → second ≡ pair_day w k → 1 ≤ second → a ≡ 2 ^ (second - 1) → b ≡ 2 ^ second
    → (d : ℕ) → has (bit_or a b) d ≡ in_pair w k (suc d)
set_two w k {second} f h q s ea eb d =
    ap₂ (λ (x y : ℕ). has (bit_or x y) d) ea eb
    ∙ two_days second d s
    ∙ ap (λ (x : ℕ). eqb (suc d) x || eqb (suc d) (suc x)) q
    ∙ sym (in_pair_lem w k (suc d) (omega (arith, f)) h)

-- ---- whether a pair is hers

pub fits_none : (w : List ℕ) (i p : ℕ) → pair_fits w i p 0 ≡ eqb (pair_count w) 0
unfolding pair_fits
fits_none w i p = refl

pub fits_beyond : (w : List ℕ) (i p k : ℕ) → pair_count w < k → pair_fits w i p k ≡ false
unfolding pair_fits
fits_beyond w i p k h = rw (ne_eqb k 0 (λ e. omega arith), lt-leb k (pair_count w) h)

pub fits_pair : (w : List ℕ) (i p k : ℕ) → 1 ≤ k → k ≤ pair_count w → pair_fits w i p k ≡ (at_rest_on (block w i) p (pair_day w k) && at_rest_on (block w i) p (suc (pair_day w k)))
unfolding pair_fits
fits_pair w i p k l h = rw (ne_eqb k 0 (λ e. omega arith), le-leb k (pair_count w) h)

-- a pair that is hers is one of the ward's, and 0 where there is none
pub fits_most : (w : List ℕ) (i p k : ℕ) → pair_fits w i p k ≡ true → k ≤ pair_count w
fits_most w i p k e = go (dec_lt (pair_count w) k)
  where
    go : Dec (pair_count w < k) → k ≤ pair_count w
    go (yes h) = absurd (false≢true (sym (fits_beyond w i p k h) ∙ e))
    go (no h) = omega arith

pub fits_some : (w : List ℕ) (i p k : ℕ) → pair_fits w i p k ≡ true → (pair_count w ≡ 0 → ⊥) → k ≡ 0 → ⊥
fits_some w i p k e f q = false≢true (sym (ne_eqb (pair_count w) 0 f) ∙ sym (fits_none w i p) ∙ ap (pair_fits w i p) (sym q) ∙ e)

-- as the code asks, by the indices of the two days
pub fits_days : (w : List ℕ) (i p k : ℕ) {count second : ℕ} {b : List ℕ} → (k ≡ 0 → ⊥) → k ≤ count → count ≡ pair_count w → b ≡ block w i → second ≡ pair_day w k → 1 ≤ second
    → pair_fits w i p k ≡ (at_rest (mark_on b (suc (second - 1))) (row_state b p (suc (second - 1))) && at_rest (mark_on b (suc second)) (row_state b p (suc second)))
unfolding at_rest_on
fits_days w i p k {second = second} n h e eb es s =
    let q : suc (second - 1) ≡ pair_day w k = omega (arith, es, s) in
    let f : List ℕ → ℕ → Bool = λ x d. at_rest_on x p d in
    fits_pair w i p k (omega (arith, n)) (omega (arith, h, e))
    ∙ ap₂ (λ (x y : Bool). x && y) (ap₂ f (sym eb) (sym q)) (ap₂ (λ (x : List ℕ) (d : ℕ). f x (suc d)) (sym eb) (sym es))

-- ---- when she is available under a pattern

pub free_with : (w : List ℕ) (i p k d : ℕ) → k < 2 ^ 32 → free_on w i (pattern p k) d ≡ (available_on (block w i) p d && not (in_pair w k d))
unfolding free_on
free_with w i p k d h = rw (days_of_pattern p k h, pair_of_pattern p k h)

pub free_alone : (w : List ℕ) (i p d : ℕ) → free_on w i (pattern p 0) d ≡ available_on (block w i) p d
free_alone w i p d =
    free_with w i p 0 d (omega arith)
    ∙ ap (λ (x : Bool). available_on (block w i) p d && not x) (in_none w d)
    ∙ and-true (available_on (block w i) p d)
