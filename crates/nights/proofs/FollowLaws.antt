-- Laws of starts that follow one another.
use Rattle.std.specs.Prelude.{◌≡◌, refl, Bool, true, false, cond, List, ◌∷◌, ◌⊎◌, ℕ, zero, suc, ◌+◌, ◌≤◌, ◌<◌, leb, eqb, length}
use Rattle.std.proofs.Common.{sym, ap, ◌∙◌, subst, true≢false, inl, inr, eq-or-lt_of_le, arith, leb-true, ne_eqb, le-leb}
use Rattle.std.proofs.lemmas.Bool.{lt-leb, and_parts}
use Rattle.numbers.specs.Range.{up_from, filter}
use Rattle.numbers.specs.Digits.{has}
use Rattle.numbers.proofs.RangeLaws.{tests_alike}
use Rattle.fields.specs.declared.rules.Rules.{Rules}
use Rattle.fields.specs.Rules.{gap}
use Rattle.rows.specs.Rows.{started}
use Rattle.nights.specs.Nights.{allowed, run_with, follow, starts, in_common}

pub leb_same : (a b m n : ℕ) → (a ≤ b → m ≤ n) → (m ≤ n → a ≤ b) → leb a b ≡ leb m n
leb_same a b m n f g = tests_alike (leb a b) (leb m n) (λ e. le-leb m n (f (leb-true a b e))) (λ e. le-leb a b (g (leb-true m n e)))

-- the rule at the first start
pub cond_same : (b : Bool) (x : ℕ) → cond b x x ≡ x
cond_same true x = refl
cond_same false x = refl

pub follow_first : (r : Rules) (s : ℕ) (ss : List ℕ) → follow r 0 0 (s ∷ ss) ≡ follow r s 1 ss
unfolding follow
follow_first r s ss = ap (λ (m : ℕ). follow r s m ss) (cond_same (eqb s 2) 1)

-- ---- no two starts on days next to each other

too_near : (r : Rules) (a m : ℕ) → (m ≡ 0 → ⊥) → allowed r a m (suc a) ≡ false
too_near r a m f =
    rw (ne_eqb m 0 f, ne_eqb (suc a) (a + 2) (λ (e : suc a ≡ a + 2). omega arith), lt-leb (a + 2 + gap r m) (suc a) (omega arith))

pub run_some : (prev run s : ℕ) → run_with prev run s ≡ 0 → ⊥
run_some prev run s = go (eqb s (prev + 2))
  where
    go : (t : Bool) → cond t (run + 1) 1 ≡ 0 → ⊥
    go true e = omega arith
    go false e = omega arith

-- the day after a start
day_after : (r : Rules) (p a k m : ℕ) → (m ≡ 0 → ⊥) → suc a < a + suc k → follow r a m (filter (started p) (up_from (suc a) k)) ≡ true → started p (suc a) ≡ false
unfolding filter up_from follow
day_after r p a zero m f l e = absurd (omega arith)
day_after r p a (suc k) m f l e = go (started p (suc a)) refl
  where
    go : (t : Bool) → started p (suc a) ≡ t → started p (suc a) ≡ false
    go true q = absurd (true≢false (sym (and_parts (allowed r a m (suc a)) (follow r (suc a) (run_with a m (suc a)) (filter (started p) (up_from (suc (suc a)) k))) (rw q at e)).0 ∙ too_near r a m f))
    go false q = q

follow_apart : (r : Rules) (p k a prev run : ℕ) → follow r prev run (filter (started p) (up_from a k)) ≡ true
    → (x : ℕ) → a ≤ x → suc x < a + k → started p x ≡ true → started p (suc x) ≡ false
unfolding filter up_from follow
follow_apart r p zero a prev run e x l h s = absurd (omega arith)
follow_apart r p (suc k) a prev run e x l h s =
    go (started p a) refl (eq-or-lt_of_le l)
    (λ prev' run' f y. follow_apart r p k (suc a) prev' run' f x (omega arith) (omega arith) s)
  where
    go : (t : Bool) → started p a ≡ t → (a ≡ x) ⊎ (a < x)
        → ((prev' run' : ℕ) → follow r prev' run' (filter (started p) (up_from (suc a) k)) ≡ true → a < x → started p (suc x) ≡ false)
        → started p (suc x) ≡ false
    go true q (inl y) later =
        subst (λ (z : ℕ). started p (suc z) ≡ false) y
        (day_after r p a k (run_with prev run a) (run_some prev run a) (omega arith) (and_parts (allowed r prev run a) (follow r a (run_with prev run a) (filter (started p) (up_from (suc a) k))) (rw q at e)).1)
    go false q (inl y) later = absurd (true≢false (sym s ∙ ap (started p) (sym y) ∙ q))
    go true q (inr y) later = later a (run_with prev run a) (and_parts (allowed r prev run a) (follow r a (run_with prev run a) (filter (started p) (up_from (suc a) k))) (rw q at e)).1 y
    go false q (inr y) later = later prev run (rw q at e) y

pub common_apart : (r : Rules) (n p d : ℕ) → in_common r n p ≡ true → has p d ≡ true → suc d < n → has p (suc d) ≡ false
unfolding in_common starts
common_apart r n p d e s l = follow_apart r p n 1 0 0 (and_parts (leb (length (starts n p)) r.most) (follow r 0 0 (starts n p)) e).1 (suc d) (omega arith) (omega arith) s
