-- Question 9 by day: its place is the number of the first nurse whose list does not end within the places.
use Rattle.std.specs.Prelude.{ℕ, zero, suc, ◌+◌, ◌≤◌, ◌<◌, ◌≡◌, refl, Bool, true, false, cond, ◌↔◌, ◌⊎◌, List, leb, eqb, length}
use Rattle.std.proofs.Common.{sym, ap, ◌∙◌, subst, inl, inr, eq-or-lt_of_le, zero-add, arith, le-leb, leb-true, leb-false, ne_eqb}
use Rattle.std.proofs.lemmas.Bool.{lt-leb, eqb-false}
use Rattle.daylists.specs.Lists.{up_to, first_over}
use Rattle.daylists.proofs.ListsLaws.{up_none, up_mono}
use Rattle.refusals.specs.Refusals.{unless}
use Rattle.history.proofs.FirstLaws.{Answers, answers_same, unless_answers}
use Rattle.phases.specs.Phases.{lists_fit}

module _ (f : ℕ → List ℕ) (places : ℕ) where
  -- list i begins within the places, and does not end within them
  record Over (m i : ℕ) : Type 0 where
    below : i < m
    begins : length (up_to f i) ≤ places
    ends : places < length (up_to f (suc i))

  -- among k lists from i on, of which the first begins within the places, the first over is one that is over, if it is one of them
  over_is : (i k : ℕ) → length (up_to f i) ≤ places → (first_over f places i k ≡ i + k → ⊥) → Over (i + k) (first_over f places i k)
  unfolding first_over
  over_is i zero l n = absurd (n (omega arith))
  over_is i (suc k) l n = go (leb (length (up_to f (suc i))) places) refl (λ h. over_is (suc i) k h)
    where
      up : suc i + k ≡ i + suc k
      up = omega arith

      go : (b : Bool) → leb (length (up_to f (suc i))) places ≡ b
          → (length (up_to f (suc i)) ≤ places → (first_over f places (suc i) k ≡ suc i + k → ⊥) → Over (suc i + k) (first_over f places (suc i) k))
          → Over (i + suc k) (cond (leb (length (up_to f (suc i))) places) (first_over f places (suc i) k) i)
      go true e rest =
          rw e (subst (λ (m : ℕ). Over m (first_over f places (suc i) k)) up (rest (leb-true (length (up_to f (suc i))) places e) (λ q. n (rw e (q ∙ up)))))
      go false e rest = rw e (record { below = omega arith; begins = l; ends = leb-false (length (up_to f (suc i))) places e })

  -- and there is no other
  over_only : (i k j : ℕ) → i ≤ j → Over (i + k) j → first_over f places i k ≡ j
  unfolding first_over
  over_only i zero j h o = absurd (omega (arith, o.below))
  over_only i (suc k) j h o = go (eq-or-lt_of_le h) (λ l p. over_only (suc i) k j l p)
    where
      go : (i ≡ j) ⊎ (i < j) → (suc i ≤ j → Over (suc i + k) j → first_over f places (suc i) k ≡ j)
          → cond (leb (length (up_to f (suc i))) places) (first_over f places (suc i) k) i ≡ j
      go (inl q) rest = rw (lt-leb (length (up_to f (suc i))) places (rw q o.ends)) q
      go (inr l) rest =
          rw (le-leb (length (up_to f (suc i))) places (omega (arith, up_mono f (suc i) j l, o.begins)))
          (rest l (record { below = omega (arith, o.below); begins = o.begins; ends = o.ends }))

module _ (lists : ℕ → List ℕ) (m places : ℕ) where
  abbrev over : ℕ
  over = first_over lists places 0 m

  abbrev Beyond : ℕ → Type 0
  Beyond p = (i : ℕ) × (p ≡ suc i) × (i < m) × (length (up_to lists i) ≤ places) × (places < length (up_to lists (suc i)))

  same : (p : ℕ) → ((p ≡ suc over) × (eqb over m ≡ false)) ↔ Beyond p
  same p = (
    λ w.
        let o : Over lists places (0 + m) over = over_is lists places 0 m (rw (up_none lists) (omega arith)) (λ q. eqb-false over m w.1 (q ∙ zero-add m)) in
        (over, w.0, omega (arith, o.below), o.begins, o.ends),
    λ w.
        let q : over ≡ w.0 = over_only lists places 0 m w.0 (omega arith) (record { below = omega (arith, w.2); begins = w.3; ends = w.4 }) in
        (w.1 ∙ ap suc (sym q), ne_eqb over m (λ z. let x : ⊥ = omega (arith, w.2) in x)),
  )

  pub over_answers : Answers (lists_fit lists m places) 9 (λ p. (i : ℕ) × (p ≡ suc i) × (i < m) × (length (up_to lists i) ≤ places) × (places < length (up_to lists (suc i))))
  unfolding lists_fit
  over_answers =
      answers_same (unless (eqb over m) 9 (suc over)) 9 (λ p. (p ≡ suc over) × (eqb over m ≡ false)) Beyond same
      (unless_answers (eqb over m) 9 (suc over) (eqb over m ≡ false) (λ e. e, λ e. e))
