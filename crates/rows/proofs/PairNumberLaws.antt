-- Whether one of the pair numbers of a ward passes a test.
use Rattle.std.specs.Prelude.{◌≡◌, refl, Bool, true, false, ◌||◌, List, ℕ, zero, suc, ◌+◌, ◌≤◌, ◌<◌, leb, eqb}
use Rattle.std.proofs.Common.{sym, ◌∙◌, ⊎_elim, eq-or-lt_of_le, arith, ne_eqb, eq-eqb, eqb-true, leb-true}
use Rattle.std.proofs.lemmas.Bool.{false≢true, and_parts}
use Rattle.std.proofs.Math.Bool.{or-false, or-true}
use Rattle.numbers.specs.Range.{up_from, any_of}
use Rattle.fields.specs.Fields.{pair_count}
use Rattle.rows.specs.Pairs.{pair_numbers, pair_fits}

-- one of a range passes, from one that does, and the other way
any_there : (t : ℕ → Bool) (a n k : ℕ) → a ≤ k → k < a + n → t k ≡ true → any_of t (up_from a n) ≡ true
unfolding any_of up_from
any_there t a zero k l h e = let z : ⊥ = omega arith in absurd z
any_there t a (suc n) k l h e = ⊎_elim here (λ m. later (any_there t (suc a) n k m (omega arith) e)) (eq-or-lt_of_le l)
  where
    here : a ≡ k → (t a || any_of t (up_from (suc a) n)) ≡ true
    here q = rw (q, e)

    later : any_of t (up_from (suc a) n) ≡ true → (t a || any_of t (up_from (suc a) n)) ≡ true
    later m = rw m (or-true (t a))

any_found : (t : ℕ → Bool) (a n : ℕ) → any_of t (up_from a n) ≡ true → (k : ℕ) × (k < a + n) × (t k ≡ true)
unfolding any_of up_from
any_found t a zero e = absurd (false≢true e)
any_found t a (suc n) e = go (t a) refl e (any_found t (suc a) n)
  where
    go : (b : Bool) → t a ≡ b → (b || any_of t (up_from (suc a) n)) ≡ true → (any_of t (up_from (suc a) n) ≡ true → (k : ℕ) × (k < suc a + n) × (t k ≡ true))
        → (k : ℕ) × (k < a + suc n) × (t k ≡ true)
    go true q e f = (a, omega arith, q)
    go false q e f = let r = f e in (r.0, omega (arith, r.1), r.2)

module _ (w : List ℕ) (t : ℕ → Bool) where
  -- in a ward without pairs
  pub pairs_none : pair_count w ≡ 0 → any_of t (pair_numbers w) ≡ t 0
  unfolding any_of pair_numbers
  pairs_none e = rw (eq-eqb (pair_count w) 0 e) (or-false (t 0))

  -- in a ward with pairs
  pub pairs_all : {count : ℕ} → count ≡ pair_count w → (count ≡ 0 → ⊥) → any_of t (up_from 1 count) ≡ any_of t (pair_numbers w)
  unfolding pair_numbers
  pairs_all e f = rw (ne_eqb (pair_count w) 0 (λ z. f (e ∙ z)), e)

  -- a number that fits is one of them
  pub pairs_has : (i p k : ℕ) → pair_fits w i p k ≡ true → t k ≡ true → any_of t (pair_numbers w) ≡ true
  unfolding pair_numbers pair_fits
  pairs_has i p zero f e = pairs_none (eqb-true (pair_count w) 0 f) ∙ e
  pairs_has i p (suc k) f e =
      let l : suc k ≤ pair_count w = leb-true (suc k) (pair_count w) (and_parts (leb (suc k) (pair_count w)) _ (rw (ne_eqb (suc k) 0 (λ z. omega arith)) at f)).0 in
      rw (ne_eqb (pair_count w) 0 (λ z. omega arith)) (any_there t 1 (pair_count w) (suc k) (omega arith) (omega arith) e)

  pub pairs_some : any_of t (pair_numbers w) ≡ true → (k : ℕ) × (k ≤ pair_count w) × (t k ≡ true)
  pairs_some e = go (eqb (pair_count w) 0) refl
    where
      go : (b : Bool) → eqb (pair_count w) 0 ≡ b → (k : ℕ) × (k ≤ pair_count w) × (t k ≡ true)
      go true q = (0, omega arith, sym (pairs_none (eqb-true (pair_count w) 0 q)) ∙ e)
      go false q =
          let r = any_found t 1 (pair_count w) (pairs_all refl (λ z. false≢true (sym q ∙ eq-eqb (pair_count w) 0 z)) ∙ e) in
          (r.0, omega (arith, r.1), r.2)
