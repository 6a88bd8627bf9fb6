-- A test of all the numbers below n: its turns as a loop, and what it says of each of them.
use Rattle.std.specs.Prelude.{◌≡◌, refl, Bool, true, false, ◌&&◌, List, [], ◌∷◌, ◌++◌, ℕ, zero, suc, ◌+◌, ◌<◌}
use Rattle.std.proofs.Common.{sym, ap, ap₂, ◌∙◌, zero-add, le_trans, lt-suc_self, add-one}
use Rattle.std.proofs.lemmas.Bool.{false≢true}
use Rattle.std.proofs.Math.Bool.{and_assoc, and-true}
use Rattle.std.proofs.Math.Nat.{le-suc}
use Rattle.numbers.specs.Range.{up_from, all}
use Rattle.numbers.proofs.RangeLaws.{range_add, range_at, length_range, all_at}

pub all_append : (t : ℕ → Bool) (xs ys : List ℕ) → all t (xs ++ ys) ≡ (all t xs && all t ys)
unfolding all
all_append t [] ys = refl
all_append t (x ∷ xs) ys = ap (λ (b : Bool). t x && b) (all_append t xs ys) ∙ sym (and_assoc (t x) (all t xs) (all t ys))

pub all_none : (t : ℕ → Bool) → all t (up_from 0 0) ≡ true
unfolding all up_from
all_none t = refl

pub all_more : (t : ℕ → Bool) (n : ℕ) → all t (up_from 0 (n + 1)) ≡ (all t (up_from 0 n) && t n)
unfolding all up_from
all_more t n =
    ap (all t) (range_add 0 n 1) ∙ all_append t (up_from 0 n) (up_from (0 + n) 1)
    ∙ ap (λ (b : Bool). all t (up_from 0 n) && b) (and-true (t (0 + n)) ∙ ap t (zero-add n))

-- a turn of the loop
pub all_turn : (t : ℕ → Bool) (i : ℕ) → all t (up_from 0 i) ≡ true → t i ≡ true → all t (up_from 0 (i + 1)) ≡ true
all_turn t i e f = all_more t i ∙ ap₂ (λ (a b : Bool). a && b) e f

-- each of them, from all
pub all_each : (t : ℕ → Bool) (n i : ℕ) → all t (up_from 0 n) ≡ true → i < n → t i ≡ true
all_each t n i e l =
    ap t (sym (range_at 0 n i l ∙ zero-add i)) ∙ all_at t (up_from 0 n) e i (rw (length_range 0 n) l)

-- the first that fails ends the loop
pub all_stop : (t : ℕ → Bool) (n i : ℕ) → i < n → t i ≡ false → all t (up_from 0 n) ≡ false
all_stop t n i l f = go (all t (up_from 0 n)) refl
  where
    go : (b : Bool) → all t (up_from 0 n) ≡ b → all t (up_from 0 n) ≡ false
    go true e = let d : t i ≡ true = all_each t n i e l in e ∙ sym d ∙ f
    go false e = e

-- where not all pass, one fails
pub all_fails : (t : ℕ → Bool) (n : ℕ) → all t (up_from 0 n) ≡ false → (i : ℕ) × ((i < n) × (t i ≡ false))
all_fails t zero e = absurd (false≢true (sym e ∙ all_none t))
all_fails t (suc n) e = go (t n) refl (all_fails t n)
  where
    go : (b : Bool) → t n ≡ b → (all t (up_from 0 n) ≡ false → (i : ℕ) × ((i < n) × (t i ≡ false))) → (i : ℕ) × ((i < suc n) × (t i ≡ false))
    go false q f = (n, (lt-suc_self n, q))
    go true q f =
        let r = f (sym (and-true (all t (up_from 0 n))) ∙ sym (all_more t n ∙ ap (λ (b : Bool). all t (up_from 0 n) && b) q) ∙ ap (λ (k : ℕ). all t (up_from 0 k)) (add-one n) ∙ e) in
        (r.0, (le_trans r.1.0 (le-suc n), r.1.1))

-- all, from each of them
pub all_if : (t : ℕ → Bool) (n : ℕ) → ((i : ℕ) → i < n → t i ≡ true) → all t (up_from 0 n) ≡ true
all_if t zero f = all_none t
all_if t (suc n) f =
    ap (λ (k : ℕ). all t (up_from 0 k)) (sym (add-one n)) ∙ all_turn t n (all_if t n (λ i l. f i (le_trans l (le-suc n)))) (f n (lt-suc_self n))

pub all_same : (t u : ℕ → Bool) (n : ℕ) → ((i : ℕ) → i < n → t i ≡ u i) → all t (up_from 0 n) ≡ all u (up_from 0 n)
all_same t u zero f = all_none t ∙ sym (all_none u)
all_same t u (suc n) f =
    ap (λ (k : ℕ). all t (up_from 0 k)) (sym (add-one n)) ∙ all_more t n
    ∙ ap₂ (λ (a b : Bool). a && b) (all_same t u n (λ i l. f i (le_trans l (le-suc n)))) (f n (lt-suc_self n))
    ∙ sym (all_more u n) ∙ ap (λ (k : ℕ). all u (up_from 0 k)) (add-one n)
