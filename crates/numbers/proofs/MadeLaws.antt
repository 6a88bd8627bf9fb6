-- An array that is made by a closure, place by place.
use Rattle.std.specs.Prelude.{◌⊎◌, get_or}
use Rattle.std.proofs.Common.{◌≡◌, ℕ, zero, suc, ◌+◌, ◌<◌, ◌≤◌, List, length, replicate, refl, sym, ◌∙◌, subst, arith, inl, inr, eq-or-lt_of_le}
use Rattle.std.proofs.lemmas.List.{ext_get_or, get_or-replicate, length-replicate}
use Rattle.std.specs.Array.{IsFromFnResultFrom, IsFromFnResult, AllOfLen}
use Rattle.std.specs.Fn.{Called}
use denote.Param.Members.{Mut}

-- where the closure gives `at` of each place, so does the array
module _ {F B : Type 0} {g : Mut F (ℕ × Unit {0}) B} {f : F} {m : ℕ} (ys : List B) (at : ℕ → B) (z : B)
    (gives : (x : ℕ) (y : B) (q : F) → x < m → Called g f (x, tt) y q → (q ≡ f) × (y ≡ at x)) where
  made_from : (n i : ℕ) (p : F) → p ≡ f → i + n ≤ m → IsFromFnResultFrom g p ys i n → (j : ℕ) → i ≤ j → j < i + n → get_or ys j z ≡ at j
  made_from zero i p e b w j l h = absurd (omega arith)
  made_from (suc n) i p e b w j l h =
      let told = gives i w.1 w.0 (omega arith) (subst (λ (x : F). Called g x (i, tt) w.1 w.0) e w.3) in
      go (eq-or-lt_of_le l) told.1 (λ d. made_from n (i + 1) w.0 told.0 (omega arith) w.4 j (omega arith) (omega arith))
    where
      go : (i ≡ j) ⊎ (i < j) → w.1 ≡ at i → (i < j → get_or ys j z ≡ at j) → get_or ys j z ≡ at j
      go (inl q) t rest = subst (λ (x : ℕ). get_or ys x z ≡ at x) q (w.2.1 z ∙ t)
      go (inr d) t rest = rest d

  pub made_at : IsFromFnResult g f ys m → (j : ℕ) → j < m → get_or ys j z ≡ at j
  made_at r j h = made_from m 0 f refl (omega arith) r.each j (omega arith) (omega arith)

-- where it gives the elements of s, the array is s
module _ {F B : Type 0} {g : Mut F (ℕ × Unit {0}) B} {f : F} {m : ℕ} (ys s : List B) (z : B)
    (gives : (x : ℕ) (y : B) (q : F) → x < m → Called g f (x, tt) y q → (q ≡ f) × (y ≡ get_or s x z)) where
  pub made : IsFromFnResult g f ys m → length s ≡ m → ys ≡ s
  made r l = ext_get_or z ys s (r.long ∙ sym l) (λ j h. made_at ys (λ x. get_or s x z) z gives r j (omega (arith, r.long)))

-- an array of numbers made by default is all zeros
pub made_zero : {n : ℕ} (xs : List ℕ) → AllOfLen (λ (x : ℕ). x ≡ 0) xs n → xs ≡ replicate n 0
made_zero {n} xs r = ext_get_or 0 xs (replicate n 0) (r.long ∙ sym (length-replicate n 0)) (λ i h. r.at i 0 (omega (arith, r.long)) ∙ sym (get_or-replicate n i 0 0 (omega (arith, r.long))))
