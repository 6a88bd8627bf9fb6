-- Laws of sums and counts over the numbers below n, and the three turns of a loop that adds them up.
use Rattle.std.specs.Prelude.{◌≡◌, refl, Bool, true, false, ℕ, zero, suc, ◌+◌, ◌*◌, ◌≤◌, ◌<◌}
use Rattle.std.proofs.Common.{sym, ap, ap₂, ◌∙◌, subst, ⊎_elim, zero-le, add-zero, add-suc, zero-add, add_assoc, le_trans, lt-suc_self, le_of_eq, add-le-add, suc-mul, le_refl, eq-or-lt_of_le, le_of_suc-le-suc, not-suc-le-zero, arith, add-one}
use Rattle.std.proofs.Math.Nat.{le-suc}
use Rattle.numbers.specs.Sum.{sum_to, count_to, one_if, Is}

pub sum_zero : (f : ℕ → ℕ) → sum_to 0 f ≡ 0
unfolding sum_to
sum_zero f = refl

pub sum_suc : (n : ℕ) (f : ℕ → ℕ) → sum_to (n + 1) f ≡ sum_to n f + f n
unfolding sum_to
sum_suc n f = rw add-one

-- the first one apart
pub sum_front : (n : ℕ) (f : ℕ → ℕ) → sum_to (suc n) f ≡ f 0 + sum_to n (λ i. f (suc i))
unfolding sum_to
sum_front zero f = zero-add (f 0) ∙ sym (add-zero (f 0))
sum_front (suc n) f = ap (λ (x : ℕ). x + f (suc n)) (sum_front n f) ∙ add_assoc (f 0) (sum_to n (λ i. f (suc i))) (f (suc n))

pub sum_ext : (n : ℕ) (f g : ℕ → ℕ) → ((i : ℕ) → i < n → f i ≡ g i) → sum_to n f ≡ sum_to n g
unfolding sum_to
sum_ext zero f g h = refl
sum_ext (suc n) f g h = ap₂ (λ (x y : ℕ). x + y) (sum_ext n f g (λ i l. h i (le_trans l (le-suc n)))) (h n (lt-suc_self n))

-- each at most b
pub sum_le : (n b : ℕ) (f : ℕ → ℕ) → ((i : ℕ) → i < n → f i ≤ b) → sum_to n f ≤ n * b
unfolding sum_to
sum_le zero b f h = zero-le
sum_le (suc n) b f h =
    le_trans (add-le-add (sum_le n b f (λ i l. h i (le_trans l (le-suc n)))) (h n (lt-suc_self n))) (le_of_eq (sym (suc-mul n b)))

-- each at most the other's
pub sum_mono : (n : ℕ) (f g : ℕ → ℕ) → ((i : ℕ) → i < n → f i ≤ g i) → sum_to n f ≤ sum_to n g
unfolding sum_to
sum_mono zero f g h = zero-le
sum_mono (suc n) f g h = add-le-add (sum_mono n f g (λ i l. h i (le_trans l (le-suc n)))) (h n (lt-suc_self n))

-- A loop that adds f 0, f 1, .. to s, where s is at most p and each f i at most q.
pub loop_start : (s p : ℕ) (f : ℕ → ℕ) {t : ℕ} → Is t s p → Is t (s + sum_to 0 f) p
loop_start s p f h = record { is = omega (arith, h.is, sum_zero f); most = h.most }

pub loop_turn : (s p q : ℕ) (f : ℕ → ℕ) (i : ℕ) {t x : ℕ} → Is t (s + sum_to i f) (p + q * i) → Is x (f i) q → Is (t + x) (s + sum_to (i + 1) f) (p + q * (i + 1))
loop_turn s p q f i h k = record { is = omega (arith, h.is, k.is, sum_suc i f); most = omega (arith, h.most, k.most) }

pub loop_end : (s p q : ℕ) (f : ℕ → ℕ) (n b : ℕ) {t i : ℕ} → Is t (s + sum_to i f) (p + q * i) → i ≤ n → n ≤ i → p + q * n ≤ b → Is t (s + sum_to n f) b
loop_end s p q f n b {t} {i} h l g e =
    let same : i ≡ n = omega arith in
    record { is = h.is ∙ ap (λ (k : ℕ). s + sum_to k f) same; most = le_trans h.most (rw same e) }

-- the same from 0
pub loop_end0 : (q : ℕ) (f : ℕ → ℕ) (n b : ℕ) {t i : ℕ} → Is t (0 + sum_to i f) (0 + q * i) → i ≡ n → q * n ≤ b → Is t (sum_to n f) b
loop_end0 q f n b {t} {i} h e l = record { is = h.is ∙ zero-add (sum_to i f) ∙ ap (λ (k : ℕ). sum_to k f) e; most = le_trans h.most (rw e (omega arith)) }

-- numbers from k on that add nothing
pub sum_cut : (k j : ℕ) (f : ℕ → ℕ) → ((i : ℕ) → k ≤ i → f i ≡ 0) → sum_to (k + j) f ≡ sum_to k f
unfolding sum_to
sum_cut k zero f h = ap (λ (n : ℕ). sum_to n f) (add-zero k)
sum_cut k (suc j) f h =
    ap (λ (n : ℕ). sum_to n f) (add-suc k j)
    ∙ ap₂ (λ (x y : ℕ). x + y) (sum_cut k j f h) (h (k + j) (omega arith)) ∙ add-zero (sum_to k f)

-- a count of numbers below n is at most n
pub count_le : (n : ℕ) (p : ℕ → Bool) → count_to n p ≤ n
count_le n p = le_trans (sum_le n 1 (λ i. one_if (p i)) (λ i l. at_most (p i))) (omega arith)
  where
    at_most : (b : Bool) → one_if b ≤ 1
    at_most true = le_refl 1
    at_most false = zero-le

pub sum_add : (n : ℕ) (f g : ℕ → ℕ) → sum_to n (λ i. f i + g i) ≡ sum_to n f + sum_to n g
unfolding sum_to
sum_add zero f g = refl
sum_add (suc n) f g = omega (arith, sum_add n f g)

-- none adds anything
pub sum_none : (n : ℕ) (f : ℕ → ℕ) → ((i : ℕ) → i < n → f i ≡ 0) → sum_to n f ≡ 0
unfolding sum_to
sum_none zero f h = refl
sum_none (suc n) f h = omega (arith, sum_none n f (λ i l. h i (le_trans l (le-suc n))), h n (lt-suc_self n))

-- a sum of 0 has only zeros
pub sum_none_at : (n : ℕ) (f : ℕ → ℕ) → sum_to n f ≡ 0 → (i : ℕ) → i < n → f i ≡ 0
unfolding sum_to
sum_none_at zero f e i l = absurd (not-suc-le-zero l)
sum_none_at (suc n) f e i l = ⊎_elim (λ q. ap f q ∙ omega arith) (λ q. sum_none_at n f (omega arith) i q) (eq-or-lt_of_le (le_of_suc-le-suc l))

-- two sums that differ at i alone, there by x
pub sum_change : (n i x : ℕ) (f g : ℕ → ℕ) → i < n → ((j : ℕ) → (j ≡ i → ⊥) → f j ≡ g j) → f i ≡ g i + x → sum_to n f ≡ sum_to n g + x
unfolding sum_to
sum_change zero i x f g l h e = absurd (not-suc-le-zero l)
sum_change (suc n) i x f g l h e =
    ⊎_elim
    (λ q. let at : f n ≡ g n + x = subst (λ (k : ℕ). f k ≡ g k + x) q e in
    omega (arith, sum_ext n f g (λ j m. h j (λ r. omega arith))))
    (λ q. omega (arith, sum_change n i x f g q h e, h n (λ r. omega arith)))
    (eq-or-lt_of_le (le_of_suc-le-suc l))
