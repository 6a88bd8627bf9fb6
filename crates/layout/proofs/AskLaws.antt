-- What `failed_by` is at the returns of `ask`.
use Rattle.std.specs.Prelude.{ℕ, ◌≤◌, ◌<◌, ◌≡◌, refl, Bool, true, false, not, cond, eqb, ltb}
use Rattle.std.proofs.Common.{ap₂, le-ltb, lt-ltb, ltb-false}
use Rattle.std.proofs.Math.Bool.{beq}
use Rattle.std.specs.declared.option.Option.TheVariants.{None, Some}
use Rattle.layout.specs.declared.Field.{Field}
use Rattle.layout.specs.Grammar.{failed_by}

module _ (f : Field) (v : ℕ) where
  pub outside : (f.least ≤ v → f.most < v) → 3 ≡ failed_by f v
  unfolding failed_by
  outside above = go (ltb v f.least) refl
    where
      go : (b : Bool) → ltb v f.least ≡ b → 3 ≡ failed_by f v
      go true e = simp e
      go false e = simp (e, lt-ltb _ _ (above (ltb-false _ _ e)))

  module _ (lo : f.least ≤ v) (hi : v ≤ f.most) where
    pub in_range : f.after ≡ None → 0 ≡ failed_by f v
    unfolding failed_by
    in_range e = simp (le-ltb _ _ lo, le-ltb _ _ hi, e)

    -- a duty, by whether it is a 3 as its place asks
    pub duty_asked : (d : ℕ) (b : Bool) → f.after ≡ Some d → not (beq (eqb d 2) (eqb v 3)) ≡ b → cond b 4 0 ≡ failed_by f v
    unfolding failed_by
    duty_asked d b e p = simp (le-ltb _ _ lo, le-ltb _ _ hi, e, ← p) (same (eqb d 2) (eqb v 3))
      where
        same : (x y : Bool) → cond {A = ℕ} (not (beq x y)) 4 0 ≡ cond (cond x y (not y)) 0 4
        same true true = refl
        same true false = refl
        same false true = refl
        same false false = refl

    -- the same by what is asked of each of the two
    pub duty_by : (d : ℕ) (x y : Bool) → f.after ≡ Some d → eqb d 2 ≡ x → eqb v 3 ≡ y → cond (not (beq x y)) 4 0 ≡ failed_by f v
    duty_by d x y e p q = duty_asked d (not (beq x y)) e (ap₂ (λ a b. not (beq a b)) p q)
