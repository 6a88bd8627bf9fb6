-- What the record of a history rests on, whatever the penalties were under which its steps were chosen.
use Rattle.std.specs.Prelude.{ℕ, zero, suc, ◌≤◌, ◌<◌, min, ◌≡◌, refl, Bool, true, false, cond, ◌&&◌, ◌||◌, List, [], ◌∷◌, eqb, length, take}
use Rattle.std.proofs.Common.{sym, ap, ◌∙◌, ⊎_elim, arith, length-take, eqb-true, eq-eqb, ne_eqb, lt-ltb}
use Rattle.std.proofs.lemmas.Bool.{false≢true, or_cases, or_left, or_right}
use Rattle.std.proofs.Math.Option.{none, some}
use Rattle.std.proofs.Math.Seq.{take-nil}
use mathlib.Core.List.Memᴰ
use mathlib.Core.List.{Memᴰ}
use Rattle.numbers.specs.Range.{up_from, all}
use Rattle.history.specs.Phase.{Step, Phase, holds}
use Rattle.history.specs.History.{History, in_use, given_up}
use Rattle.history.specs.Record.{removals, record_of, among, hers, all_name, sound}
use Rattle.history.proofs.TestLaws.{some_not_none}

-- ---- question 11's tests

pub among_member : (l : List ℕ) (p : ℕ) → Memᴰ p l → among l p ≡ true
among_member [] p m = absurd (Memᴰ.not-nil m)
among_member (q ∷ l) p m =
    ⊎_elim (λ e. or_left (eqb q p) (among l p) (eq-eqb q p (sym e))) (λ m. or_right (eqb q p) (among l p) (among_member l p m)) (Memᴰ.cases_cons m)

pub member_among : (l : List ℕ) (p : ℕ) → among l p ≡ true → Memᴰ p l
member_among [] p e = absurd (false≢true e)
member_among (q ∷ l) p e =
    ⊎_elim (λ a. Memᴰ.head (sym (eqb-true q p a))) (λ a. Memᴰ.tail (member_among l p a)) (or_cases (eqb q p) (among l p) e)

pub all_members : (t : ℕ → Bool) (xs : List ℕ) → ((i : ℕ) → Memᴰ i xs → t i ≡ true) → all t xs ≡ true
unfolding all
all_members t [] e = refl
all_members t (x ∷ xs) e = rw (e x (Memᴰ.head refl), all_members t xs (λ i m. e i (Memᴰ.tail m)))

-- ---- what a history fits by

pub record Fit (P : Phase) (h : History) : Type 0 where
  -- what each nurse has in use is hers, and nobody but the ward's nurses is placed
  pub own : (i : ℕ) → hers P i (in_use h i) ≡ true
  pub none_past : (i : ℕ) → P.nurses ≤ i → in_use h i ≡ none
  -- each removal names a nurse, with one of hers or with none
  pub names : (n : ℕ) → all_name P (take n (removals h)) ≡ true
  -- an unplaced nurse has nothing barred
  pub unbarred : (i : ℕ) → in_use h i ≡ none → (n p : ℕ) → given_up n h i p ≡ false

given_up_fresh : (n i p : ℕ) → given_up n [] i p ≡ false
given_up_fresh zero i p = refl
given_up_fresh (suc n) i p = refl

pub fit_fresh : (P : Phase) → Fit P []
fit_fresh P = record { own = λ i. refl; none_past = λ i l. refl; names = λ n. rw take-nil; unbarred = λ i e n p. given_up_fresh n i p }

module _ (P : Phase) (h : History) (f : Fit P h) (s : Step) (nurse : s.nurse < P.nurses) (pattern : Memᴰ s.pattern (P.patterns s.nurse)) where
  own_more : (i : ℕ) (b : Bool) → eqb i s.nurse ≡ b → hers P i (cond b (some s.pattern) (in_use h i)) ≡ true
  own_more i true e = rw (eqb-true i s.nurse e) (among_member (P.patterns s.nurse) s.pattern pattern)
  own_more i false e = f.own i

  names_more : (n : ℕ) → all_name P (take n (removals (s ∷ h))) ≡ true
  names_more zero = refl
  names_more (suc n) = rw (lt-ltb s.nurse P.nurses nurse, f.own s.nurse, f.names n)

  past_more : (i : ℕ) → P.nurses ≤ i → in_use (s ∷ h) i ≡ none
  past_more i l = rw (ne_eqb i s.nurse (λ e. let z : ⊥ = omega arith in z)) (f.none_past i l)

  unbarred_more : (i : ℕ) (b : Bool) → eqb i s.nurse ≡ b → cond b (some s.pattern) (in_use h i) ≡ none → (n p : ℕ)
      → ((b && holds (in_use h i) p) || given_up n h i p) ≡ false
  unbarred_more i true e u n p = absurd (some_not_none s.pattern u)
  unbarred_more i false e u n p = f.unbarred i u n p

  unbarred_then : (i : ℕ) → in_use (s ∷ h) i ≡ none → (n p : ℕ) → given_up n (s ∷ h) i p ≡ false
  unbarred_then i u zero p = refl
  unbarred_then i u (suc n) p = unbarred_more i (eqb i s.nurse) refl u n p

  pub fit_more : Fit P (s ∷ h)
  fit_more = record { own = λ i. own_more i (eqb i s.nurse) refl; none_past = past_more; names = names_more; unbarred = unbarred_then }

-- a pattern in use is hers
pub fit_own : (P : Phase) (h : History) → Fit P h → (i p : ℕ) → in_use h i ≡ some p → Memᴰ p (P.patterns i)
fit_own P h f i p e = member_among (P.patterns i) p (sym (ap (hers P i) e) ∙ f.own i)

-- ---- question 11 of its record

length_removals : (h : History) → length (removals h) ≡ length h
length_removals [] = refl
length_removals (s ∷ h) = ap suc (length_removals h)

module _ (P : Phase) where
  pub removals_held : (h : History) → length (take P.tabu (removals h)) ≡ min (length h) P.tabu
  removals_held h = omega (arith, length-take P.tabu (removals h), length_removals h)

  pub sound_record : (h : History) → Fit P h → sound P (record_of P h) ≡ true
  unfolding sound record_of
  sound_record h f =
      rw (
        all_members (λ i. hers P i (in_use h i)) (up_from 0 P.nurses) (λ i m. f.own i),
        f.names P.tabu,
        eq-eqb (length (take P.tabu (removals h))) (min (length h) P.tabu) (removals_held h),
      )
