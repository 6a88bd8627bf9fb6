-- What `failed_by` says of a number, in the words of specs/Faults.
use Rattle.std.specs.Prelude.{ℕ, suc, ◌≡◌, refl, ◌↔◌, Bool, true, false, not, cond, ltb, eqb}
use Rattle.std.proofs.Common.{sym, ◌∙◌, subst, inl, inr, arith, ltb-true, ltb-false, eqb-true, lt-ltb, le-ltb}
use Rattle.std.proofs.lemmas.Bool.{eqb-false}
use Rattle.std.specs.declared.option.Option.{Option}
use Rattle.std.specs.declared.option.Option.TheVariants.{None, Some}
use Rattle.layout.specs.declared.Field.{Field}
use Rattle.layout.specs.Grammar.{failed_by, fits}
use Rattle.layout.specs.Faults.{InRange, FitsBefore, NumberFault, out_of_range, unfit}
use Rattle.layout.proofs.GrammarLaws.{in_range}

fits_before : (r : Option ℕ) (v : ℕ) → fits r v ≡ true → FitsBefore r v
fits_before None v e = tt
fits_before (Some d) v e = go (eqb d 2) (eqb v 3) refl refl e
  where
    go : (x y : Bool) → eqb d 2 ≡ x → eqb v 3 ≡ y → cond x y (not y) ≡ true → (d ≡ 2) ↔ (v ≡ 3)
    go true true p q h = (λ _. eqb-true v 3 q, λ _. eqb-true d 2 p)
    go true false p q h = absurd (cc)
    go false true p q h = absurd (cc)
    go false false p q h = (λ z. absurd (eqb-false d 2 p z), λ z. absurd (eqb-false v 3 q z))

before_fits : (r : Option ℕ) (v : ℕ) → FitsBefore r v → fits r v ≡ true
before_fits None v h = refl
before_fits (Some d) v h = go (eqb d 2) (eqb v 3) refl refl
  where
    go : (x y : Bool) → eqb d 2 ≡ x → eqb v 3 ≡ y → cond x y (not y) ≡ true
    go true true p q = refl
    go true false p q = absurd (eqb-false v 3 q (h.0 (eqb-true d 2 p)))
    go false true p q = absurd (eqb-false d 2 p (h.1 (eqb-true v 3 q)))
    go false false p q = refl

-- a number in its range can fail only what its rule asks
in_its_range : (f : Field) (v : ℕ) → InRange f v → failed_by f v ≡ cond (fits f.after v) 0 4
unfolding failed_by
in_its_range f v r = simp (le-ltb v f.least r.0, le-ltb f.most v r.1)

pub asked_none : (f : Field) (v : ℕ) → failed_by f v ≡ 0 → InRange f v × FitsBefore f.after v
asked_none f v e =
    let r = in_range f v e in
    (r, fits_before f.after v (go (fits f.after v) (sym (in_its_range f v r) ∙ e)))
  where
    go : (b : Bool) → cond {A = ℕ} b 0 4 ≡ 0 → b ≡ true
    go true h = refl
    go false h = absurd (omega arith)

pub none_asked : (f : Field) (v : ℕ) → InRange f v → FitsBefore f.after v → failed_by f v ≡ 0
none_asked f v r h = in_its_range f v r ∙ simp (before_fits f.after v h)

pub asked_fault : (f : Field) (v q : ℕ) → failed_by f v ≡ suc q → NumberFault f v (suc q)
unfolding failed_by
asked_fault f v q e = go (ltb v f.least) (ltb f.most v) (fits f.after v) refl refl refl e
  where
    go : (a b c : Bool) → ltb v f.least ≡ a → ltb f.most v ≡ b → fits f.after v ≡ c
        → cond {A = ℕ} a 3 (cond b 3 (cond c 0 4)) ≡ suc q → NumberFault f v (suc q)
    go true b c p r s h = subst (NumberFault f v) h (out_of_range (inl (ltb-true _ _ p)))
    go false true c p r s h = subst (NumberFault f v) h (out_of_range (inr (ltb-true _ _ r)))
    go false false true p r s h = absurd (omega arith)
    go false false false p r s h =
        subst (NumberFault f v) h
        (unfit (ltb-false _ _ p, ltb-false _ _ r) (λ t. let y : false ≡ true = sym s ∙ before_fits f.after v t in absurd (cc)))

pub fault_asked : (f : Field) (v q : ℕ) → NumberFault f v q → failed_by f v ≡ q
unfolding failed_by
fault_asked f v q (out_of_range (inl h)) = simp (lt-ltb v f.least h)
fault_asked f v q (out_of_range (inr h)) = simp (lt-ltb f.most v h) (same (ltb v f.least))
  where
    same : (b : Bool) → cond {A = ℕ} b 3 3 ≡ 3
    same true = refl
    same false = refl
fault_asked f v q (unfit r h) = in_its_range f v r ∙ go (fits f.after v) refl
  where
    go : (b : Bool) → fits f.after v ≡ b → cond {A = ℕ} b 0 4 ≡ 4
    go true e = absurd (h (fits_before f.after v e))
    go false e = refl

-- a fault has a question
pub fault_some : {f : Field} {v q : ℕ} → NumberFault f v q → q ≡ 0 → ⊥
fault_some (out_of_range h) e = omega arith
fault_some (unfit r h) e = omega arith
