-- Laws of ascending ranges and of what a test keeps of them: what is in, in which order, and that it is there once.
use Rattle.std.specs.Prelude.{◌≡◌, refl, Bool, true, false, cond, ◌&&◌, List, [], ◌∷◌, ◌++◌, ℕ, zero, suc, ◌+◌, ◌-◌, ◌≤◌, ◌<◌, ◌⊎◌, length, get_or}
use Rattle.std.proofs.Common.{sym, ap, ◌∙◌, subst, suc-le-suc, not-suc-le-zero, le_of_suc-le-suc, eq-or-lt_of_le, suc-add, zero-add, add-zero, arith, inl, inr}
use Rattle.std.proofs.lemmas.Bool.{and_parts}
use Rattle.std.proofs.Math.Decide.{dec_lt}
use Rattle.std.proofs.Math.Nat.{sub-zero}
use Rattle.numbers.specs.Range.{up_from, filter, all, Ascending, At, Exactly}
use Rattle.numbers.specs.Sum.{one_if}

-- ---- ranges

pub length_range : (a n : ℕ) → length (up_from a n) ≡ n
unfolding up_from
length_range a zero = refl
length_range a (suc n) = ap suc (length_range (suc a) n)

pub range_at : (a n i : ℕ) → i < n → get_or (up_from a n) i 0 ≡ a + i
unfolding up_from
range_at a zero i h = absurd (not-suc-le-zero h)
range_at a (suc n) zero h = sym (add-zero a)
range_at a (suc n) (suc i) h = range_at (suc a) n i (le_of_suc-le-suc h) ∙ omega arith

pub range_add : (a m n : ℕ) → up_from a (m + n) ≡ up_from a m ++ up_from (a + m) n
unfolding up_from
range_add a zero n = rw (zero-add, add-zero)
range_add a (suc m) n =
    let e : a + suc m ≡ suc a + m = omega arith in
    rw (suc-add m n, e, range_add (suc a) m n)

-- what a loop of n turns has left after d of them, where the next number is a: a and the others, or nothing
pub range_next : (a b n d : ℕ) → suc a ≡ b → d < n → up_from a (n - d) ≡ a ∷ up_from b (n - (d + 1))
unfolding up_from
range_next a b n d q h =
    let e : n - d ≡ suc (n - (d + 1)) = omega arith in
    rw (e, q)

pub range_done : (a n d : ℕ) → n ≤ d → up_from a (n - d) ≡ []
unfolding up_from
range_done a n d h =
    let e : n - d ≡ 0 = omega arith in
    rw e

-- over the days, from 1 on
pub range_turn : (n d : ℕ) → d < n → up_from (suc d) (n - d) ≡ suc d ∷ up_from (suc (d + 1)) (n - (d + 1))
range_turn n d h = range_next (suc d) (suc (d + 1)) n d (omega arith) h

-- ---- what a test keeps

-- tests that agree on each of a list keep the same of it
pub filter_each : (t u : ℕ → Bool) (xs : List ℕ) → ((i : ℕ) → i < length xs → t (get_or xs i 0) ≡ u (get_or xs i 0)) → filter t xs ≡ filter u xs
unfolding filter
filter_each t u [] h = refl
filter_each t u (x ∷ xs) h = rw (h 0 (omega arith), filter_each t u xs (λ i l. h (suc i) (suc-le-suc l)))

pub filter_same : (t u : ℕ → Bool) → ((x : ℕ) → t x ≡ u x) → (xs : List ℕ) → filter t xs ≡ filter u xs
filter_same t u e xs = filter_each t u xs (λ i l. e (get_or xs i 0))

cond_append : (b : Bool) (x : ℕ) (xs ys : List ℕ) → cond b (x ∷ (xs ++ ys)) (xs ++ ys) ≡ cond b (x ∷ xs) xs ++ ys
cond_append true x xs ys = refl
cond_append false x xs ys = refl

pub filter_append : (t : ℕ → Bool) (xs ys : List ℕ) → filter t (xs ++ ys) ≡ filter t xs ++ filter t ys
unfolding filter
filter_append t [] ys = refl
filter_append t (x ∷ xs) ys = rw (filter_append t xs ys) (cond_append (t x) x (filter t xs) (filter t ys))

pub length_filtered : (b : Bool) (x : ℕ) (xs : List ℕ) → length (cond b (x ∷ xs) xs) ≡ one_if b + length xs
length_filtered true x xs = omega arith
length_filtered false x xs = omega arith

-- one more number in front, kept or not
front : (P : ℕ → Type 0) (x : ℕ) (ys : List ℕ) (b : Bool) → (b ≡ true → P x) → ((k : ℕ) → k < length ys → P (get_or ys k 0))
    → (k : ℕ) → k < length (cond b (x ∷ ys) ys) → P (get_or (cond b (x ∷ ys) ys) k 0)
front P x ys true p rest zero l = p refl
front P x ys true p rest (suc k) l = rest k (le_of_suc-le-suc l)
front P x ys false p rest k l = rest k l

-- what all have that pass the test, all of the kept have
pub filter_all : (P : ℕ → Type 0) (t : ℕ → Bool) (xs : List ℕ)
    → ((i : ℕ) → i < length xs → t (get_or xs i 0) ≡ true → P (get_or xs i 0))
    → (k : ℕ) → k < length (filter t xs) → P (get_or (filter t xs) k 0)
unfolding filter
filter_all P t [] f k h = absurd (not-suc-le-zero h)
filter_all P t (x ∷ xs) f k h =
    front P x (filter t xs) (t x) (λ e. f 0 (omega arith) e) (λ j l. filter_all P t xs (λ i m e. f (suc i) (suc-le-suc m) e) j l) k h

-- each of the kept passes the test
pub filter_passes : (t : ℕ → Bool) (xs : List ℕ) (k : ℕ) → k < length (filter t xs) → t (get_or (filter t xs) k 0) ≡ true
filter_passes t xs k h = filter_all (λ (x : ℕ). t x ≡ true) t xs (λ i l e. e) k h

-- each of a range is in its bounds
pub range_below : (a n i : ℕ) → i < length (up_from a n) → (a ≤ get_or (up_from a n) i 0) × (get_or (up_from a n) i 0 < a + n)
range_below a n i h =
    let l : i < n = subst (λ (k : ℕ). i < k) (length_range a n) h in
    let e = range_at a n i l in
    (omega arith, omega arith)

pub filtered_below : (t : ℕ → Bool) (a n k : ℕ) → k < length (filter t (up_from a n)) → (a ≤ get_or (filter t (up_from a n)) k 0) × (get_or (filter t (up_from a n)) k 0 < a + n)
filtered_below t a n k h = filter_all (λ (x : ℕ). (a ≤ x) × (x < a + n)) t (up_from a n) (λ i l e. range_below a n i l) k h

-- ---- order

pub ascending_nil : Ascending []
unfolding Ascending
ascending_nil j k l h = absurd (not-suc-le-zero h)

pub ascending_cons : (x : ℕ) (xs : List ℕ) → ((k : ℕ) → k < length xs → x < get_or xs k 0) → Ascending xs → Ascending (x ∷ xs)
unfolding Ascending
ascending_cons x xs f up zero zero l h = absurd (omega arith)
ascending_cons x xs f up zero (suc k) l h = f k (le_of_suc-le-suc h)
ascending_cons x xs f up (suc j) zero l h = absurd (not-suc-le-zero l)
ascending_cons x xs f up (suc j) (suc k) l h = up j k (le_of_suc-le-suc l) (le_of_suc-le-suc h)

pub filtered_ascending : (b : Bool) (x : ℕ) (ys : List ℕ) → ((k : ℕ) → k < length ys → x < get_or ys k 0) → Ascending ys → Ascending (cond b (x ∷ ys) ys)
filtered_ascending true x ys f up = ascending_cons x ys f up
filtered_ascending false x ys f up = up

-- what a test keeps of a range is ascending, so each number is there once
pub filter_ascending : (t : ℕ → Bool) (a n : ℕ) → Ascending (filter t (up_from a n))
unfolding filter up_from
filter_ascending t a zero = ascending_nil
filter_ascending t a (suc n) =
    filtered_ascending (t a) a (filter t (up_from (suc a) n)) (λ k h. (filtered_below t (suc a) n k h).0) (filter_ascending t (suc a) n)

-- ---- membership

pub at_front : (b : Bool) (x y : ℕ) (ys : List ℕ) → At ys x → At (cond b (y ∷ ys) ys) x
at_front true x y ys a = record { place = suc a.place; inside = suc-le-suc a.inside; there = a.there }
at_front false x y ys a = a

pub at_here : (b : Bool) (x : ℕ) (ys : List ℕ) → b ≡ true → At (cond b (x ∷ ys) ys) x
at_here b x ys e = rw e (record { place = 0; inside = omega arith; there = refl })

in_step : (t : ℕ → Bool) (a x : ℕ) (ys : List ℕ) → t x ≡ true → (a < x → At ys x) → (a ≡ x) ⊎ (a < x) → At (cond (t a) (a ∷ ys) ys) x
in_step t a x ys e f (inl q) = subst (λ (y : ℕ). At (cond (t y) (y ∷ ys) ys) x) (sym q) (at_here (t x) x ys e)
in_step t a x ys e f (inr q) = at_front (t a) x a ys (f q)

-- a number of the range that passes the test is kept
pub filtered_in : (t : ℕ → Bool) (a n x : ℕ) → a ≤ x → x < a + n → t x ≡ true → At (filter t (up_from a n)) x
unfolding filter up_from
filtered_in t a zero x l h e = absurd (omega arith)
filtered_in t a (suc n) x l h e =
    in_step t a x (filter t (up_from (suc a) n)) e (λ q. filtered_in t (suc a) n x q (omega arith) e) (eq-or-lt_of_le l)

-- and nothing else is
pub filtered_only : (t : ℕ → Bool) (a n x : ℕ) → At (filter t (up_from a n)) x → (t x ≡ true) × (a ≤ x) × (x < a + n)
filtered_only t a n x at =
    let k = at.place in
    let p = filter_passes t (up_from a n) k at.inside in
    let b = filtered_below t a n k at.inside in
    (ap t (sym at.there) ∙ p, omega (arith, at.there, b.0), omega (arith, at.there, b.1))

-- an ascending list has each number once
pub ascending_once : (xs : List ℕ) → Ascending xs → (j k : ℕ) → j < length xs → k < length xs → get_or xs j 0 ≡ get_or xs k 0 → j ≡ k
unfolding Ascending
ascending_once xs a j k l h e = go (dec_lt j k) (dec_lt k j)
  where
    go : Dec (j < k) → Dec (k < j) → j ≡ k
    go (yes p) q = absurd (omega (arith, a j k p h))
    go (no p) (yes q) = absurd (omega (arith, a k j q l))
    go (no p) (no q) = omega arith

-- what a test keeps of the numbers below n is exactly what passes a rule, where the rule is the test and being below n
pub filtered_exactly : (rule t : ℕ → Bool) (n : ℕ) → ((x : ℕ) → rule x ≡ true → (x < n) × (t x ≡ true)) → ((x : ℕ) → x < n → t x ≡ true → rule x ≡ true)
    → Exactly rule (filter t (up_from 0 n))
filtered_exactly rule t n f g = record {
  every = λ x e. let p = f x e in filtered_in t 0 n x (omega arith) (omega (arith, p.0)) p.1;
  only = λ x a. let p = filtered_only t 0 n x a in g x (omega (arith, p.2)) p.0;
  once = ascending_once (filter t (up_from 0 n)) (filter_ascending t 0 n);
  ascending = filter_ascending t 0 n;
}

-- ---- all

-- two tests that pass alike
pub tests_alike : (a b : Bool) → (a ≡ true → b ≡ true) → (b ≡ true → a ≡ true) → a ≡ b
tests_alike true b f g = sym (f refl)
tests_alike false true f g = g refl
tests_alike false false f g = refl

pub all_at : (t : ℕ → Bool) (xs : List ℕ) → all t xs ≡ true → (i : ℕ) → i < length xs → t (get_or xs i 0) ≡ true
unfolding all
all_at t [] e i h = absurd (not-suc-le-zero h)
all_at t (x ∷ xs) e zero h = (and_parts (t x) (all t xs) e).0
all_at t (x ∷ xs) e (suc i) h = all_at t xs (and_parts (t x) (all t xs) e).1 i (le_of_suc-le-suc h)

-- ---- a loop that tests each number from i on: W is what the whole test comes to

pub all_begin : (t : ℕ → Bool) {n k : ℕ} → k ≡ n → all t (up_from 0 n) ≡ all t (up_from 0 (k - 0))
all_begin t {n} {k} e = rw (sub-zero k, e)

all_turn : (t : ℕ → Bool) (n i : ℕ) → i < n → all t (up_from i (n - i)) ≡ (t i && all t (up_from (i + 1) (n - (i + 1))))
unfolding all
all_turn t n i h = rw (range_next i (i + 1) n i (omega arith) h)

pub all_more : (t : ℕ → Bool) (n i : ℕ) {W : Bool} → W ≡ all t (up_from i (n - i)) → i < n → t i ≡ true → W ≡ all t (up_from (i + 1) (n - (i + 1)))
all_more t n i w h e = w ∙ all_turn t n i h ∙ rw e

pub all_stop : (t : ℕ → Bool) (n i : ℕ) {W : Bool} → W ≡ all t (up_from i (n - i)) → i < n → t i ≡ false → false ≡ W
all_stop t n i w h e = sym (w ∙ all_turn t n i h ∙ rw e)

pub all_end : (t : ℕ → Bool) (n i : ℕ) {W : Bool} → W ≡ all t (up_from i (n - i)) → n ≤ i → true ≡ W
unfolding all
all_end t n i w h = sym (w ∙ rw (range_done i n i h))

-- all of a list pass where each does
pub all_of : (t : ℕ → Bool) (xs : List ℕ) → ((i : ℕ) → i < length xs → t (get_or xs i 0) ≡ true) → all t xs ≡ true
unfolding all
all_of t [] h = refl
all_of t (x ∷ xs) h = rw (h 0 (omega arith)) (all_of t xs (λ i l. h (suc i) (suc-le-suc l)))

-- all of a range pass exactly where each does
pub range_all : (t : ℕ → Bool) (a n : ℕ) → ((i : ℕ) → a ≤ i → i < a + n → t i ≡ true) → all t (up_from a n) ≡ true
range_all t a n h = all_of t (up_from a n) (λ i l. h (get_or (up_from a n) i 0) (range_below a n i l).0 (range_below a n i l).1)

pub range_each : (t : ℕ → Bool) (a n : ℕ) → all t (up_from a n) ≡ true → (i : ℕ) → a ≤ i → i < a + n → t i ≡ true
range_each t a n e i l h =
    let k = i - a in
    let q : a + k ≡ i = omega arith in
    let inside : k < n = omega arith in
    ap t (sym (range_at a n k inside ∙ q)) ∙ all_at t (up_from a n) e k (rw (length_range a n) inside)

pub all_range : (t : ℕ → Bool) (a n : ℕ) → ((i : ℕ) → i < n → t (a + i) ≡ true) → all t (up_from a n) ≡ true
unfolding all up_from
all_range t a zero h = refl
all_range t a (suc n) h =
    let first : t a ≡ true = ap t (sym (add-zero a)) ∙ h 0 (omega arith) in
    rw first (all_range t (suc a) n (λ i l. ap t (one_on i) ∙ h (suc i) (suc-le-suc l)))
  where
    one_on : (i : ℕ) → suc a + i ≡ a + suc i
    one_on i = omega arith
