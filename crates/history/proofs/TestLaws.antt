-- Laws of Boolean tests, read as equations.
use Rattle.std.specs.Prelude.{◌≡◌, refl, Bool, true, false, ◌&&◌, ◌↔◌, ◌≢◌, ℕ}
use Rattle.std.proofs.Common.{sym, ap, ◌∙◌, true≢false, eqb-true, eq-eqb}
use Rattle.std.proofs.lemmas.Bool.{false≢true, false_from_ne_true}
use Rattle.std.proofs.Math.Option.{none, some}
use Rattle.history.specs.Slot.{Slot, is_none}
use Rattle.history.specs.Phase.{holds}

pub not_both : {b : Bool} → b ≡ true → b ≡ false → ⊥
not_both p q = true≢false (sym p ∙ q)

-- a test fails exactly where what it tests does not hold
pub false_when : (b : Bool) {Right : Type 0} → ((b ≡ true) ↔ Right) → (b ≡ false) ↔ (Right → ⊥)
false_when b when = (λ e x. not_both (when.1 x) e, λ n. false_from_ne_true b (λ e. n (when.0 e)))

-- a slot's pattern, where there is one
pub some_same : {a b : ℕ} → some a ≡ some b → a ≡ b
some_same {a} {b} e = ap held e
  where
    held : Slot → ℕ
    held none = 0
    held (some p) = p

pub some_not_none : (p : ℕ) → some p ≢ none
some_not_none p e = false≢true (ap is_none e)

pub holds_true : (s : Slot) (p : ℕ) → holds s p ≡ true → s ≡ some p
holds_true none p e = absurd (false≢true e)
holds_true (some q) p e = rw (eqb-true q p e)

pub holds_some : (s : Slot) (p : ℕ) → s ≡ some p → holds s p ≡ true
holds_some s p e = rw e (eq-eqb p p refl)

pub and_false_right : (a b : Bool) → (a && b) ≡ false → a ≡ true → b ≡ false
and_false_right true b e t = e
and_false_right false b e t = absurd (false≢true t)
