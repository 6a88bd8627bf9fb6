-- An unplaced nurse costs more than all else, so each step places one while there is one.
use Rattle.std.specs.Prelude.{ℕ, zero, suc, ◌+◌, ◌-◌, ◌*◌, ◌≤◌, ◌<◌, ◌≡◌, refl, Bool, true, false, cond, ◌≢◌, List, [], ◌∷◌, ◌++◌, eqb, length}
use Rattle.std.proofs.Common.{sym, ⊎_elim, arith, not-suc-le-zero, le_of_suc-le-suc, eq-or-lt_of_le, eq-eqb, ne_eqb}
use Rattle.std.proofs.Math.Option.{none, some}
use mathlib.Core.List.{Memᴰ}
use Rattle.numbers.specs.Sum.{sum_to, count_to, one_if}
use Rattle.numbers.proofs.SumLaws.{count_le}
use Rattle.history.specs.Slot.{Slot, is_none, exchanged}
use Rattle.history.specs.Phase.{Step, Phase, unplaced}
use Rattle.history.specs.History.{History, in_use, penalty, allowed}
use Rattle.history.specs.Claim.{Allowed, Least}
use Rattle.history.proofs.Lawful.{Lawful}
use Rattle.history.proofs.AllowedLaws.{allowed_of}
use Rattle.history.proofs.FitLaws.{Fit}
use Rattle.history.proofs.GrewLaws.{Grew, start, more, Grown, fresh, and, fit_grew, grown_fit}

-- how many of the first n nurses are unplaced
abbrev unplaced_to : (ℕ → Slot) → ℕ → ℕ
unplaced_to slots n = count_to n (λ i. is_none (slots i))

-- a nurse who is not placed
record Missing (slots : ℕ → Slot) (n : ℕ) : Type 0 where
  at : ℕ
  within : at < n
  missing : slots at ≡ none

find_step : (slots : ℕ → Slot) (n : ℕ) → (0 < unplaced_to slots n → Missing slots n) → 0 < unplaced_to slots n + one_if (is_none (slots n)) → (s : Slot) → slots n ≡ s → Missing slots (suc n)
find_step slots n f h none e = record { at = n; within = omega arith; missing = e }
find_step slots n f h (some p) e =
    let z : one_if (is_none (slots n)) ≡ 0 = rw e in
    let m = f (omega arith) in
    record { at = m.at; within = omega (arith, m.within); missing = m.missing }

find : (slots : ℕ → Slot) (n : ℕ) → 0 < unplaced_to slots n → Missing slots n
unfolding sum_to
find slots zero h = absurd (not-suc-le-zero h)
find slots (suc n) h = find_step slots n (find slots n) h (slots n) refl

none_unplaced : (slots : ℕ → Slot) (n i : ℕ) → unplaced_to slots n ≤ 0 → i < n → slots i ≢ none
unfolding sum_to
none_unplaced slots zero i u h e = not-suc-le-zero h
none_unplaced slots (suc n) i u h e =
    ⊎_elim
    (λ q. let z : one_if (is_none (slots n)) ≡ 1 = rw (← q, e) in let y : ⊥ = omega arith in y)
    (λ l. none_unplaced slots n i (omega arith) l e)
    (eq-or-lt_of_le (le_of_suc-le-suc h))

-- to place a nurse leaves no more unplaced, and one less if she was not placed
module _ (slots : ℕ → Slot) (s : Step) where
  at_most : (i : ℕ) (b : Bool) → one_if (is_none (cond b (some s.pattern) (slots i))) ≤ one_if (is_none (slots i))
  at_most i true = omega arith
  at_most i false = omega arith

  exchange_fewer : (n : ℕ) → unplaced_to (exchanged slots s.nurse s.pattern) n ≤ unplaced_to slots n
  unfolding sum_to
  exchange_fewer zero = omega arith
  exchange_fewer (suc n) = omega (arith, exchange_fewer n, at_most n (eqb n s.nurse))

  exchange_past : (n : ℕ) → n ≤ s.nurse → unplaced_to (exchanged slots s.nurse s.pattern) n ≡ unplaced_to slots n
  unfolding sum_to
  exchange_past zero l = refl
  exchange_past (suc n) l =
      let d : n ≢ s.nurse = λ e. let z : ⊥ = omega arith in z in
      rw (exchange_past n (omega arith), ne_eqb n s.nurse d)

  exchange_places : (n : ℕ) → s.nurse < n → slots s.nurse ≡ none → suc (unplaced_to (exchanged slots s.nurse s.pattern) n) ≡ unplaced_to slots n
  unfolding sum_to
  exchange_places zero l e = absurd (not-suc-le-zero l)
  exchange_places (suc n) l e =
      ⊎_elim
      (λ q.
      let a : one_if (is_none (slots n)) ≡ 1 = rw (← q, e) in
      let b : one_if (is_none (exchanged slots s.nurse s.pattern n)) ≡ 0 = rw (eq-eqb n s.nurse (sym q)) in
      omega (arith, exchange_past n (omega arith)))
      (λ m.
      let d : n ≢ s.nurse = λ e. let z : ⊥ = omega arith in z in
      let b : one_if (is_none (exchanged slots s.nurse s.pattern n)) ≡ one_if (is_none (slots n)) = rw (ne_eqb n s.nurse d) in
      omega (arith, exchange_places n m e))
      (eq-or-lt_of_le (le_of_suc-le-suc l))

some_member : (l : List ℕ) → l ≢ [] → (p : ℕ) × Memᴰ p l
some_member [] n = absurd (n refl)
some_member (p ∷ l) n = (p, Memᴰ.head refl)

module _ (P : Phase) (w : Lawful P) where
  penalty_is : (h : History) → penalty P h ≡ 10000000 * unplaced P (in_use h) + w.rest (in_use h)
  unfolding penalty
  penalty_is h = w.flat (in_use h)

  -- placing an unplaced nurse is allowed
  place : (h : History) → Fit P h → (i : ℕ) → i < P.nurses → in_use h i ≡ none → (t : Step) × Allowed P h t × (t.nurse ≡ i)
  unfolding allowed
  place h fit i l e =
      let m = some_member (P.patterns i) (w.some_pattern i l) in
      let t : Step = record { nurse = i; pattern = m.0 } in
      (t, allowed_of P h t l m.1 (rw (e, fit.unbarred i e P.tabu m.0)), refl)

  pub fewer : {h : History} {s : Step} → Fit P h → Least P h s → unplaced P (in_use (s ∷ h)) ≤ unplaced P (in_use h) - 1
  fewer {h} {s} fit f = go (unplaced P (in_use h)) refl
    where
      go : (k : ℕ) → unplaced P (in_use h) ≡ k → unplaced P (in_use (s ∷ h)) ≤ unplaced P (in_use h) - 1
      go zero e = omega (arith, exchange_fewer (in_use h) s P.nurses)
      go (suc k) e =
          let m = find (in_use h) P.nurses (omega arith) in
          let t = place h fit m.at m.within m.missing in
          omega (
            arith,
            (f.least t.0 t.1).penalty,
            penalty_is (s ∷ h),
            penalty_is (t.0 ∷ h),
            w.rest_below (in_use (t.0 ∷ h)),
            exchange_places (in_use h) t.0 P.nurses (omega (arith, m.within, t.2)) (rw t.2 m.missing),
          )

  -- by the steps of an advance
  pub fewer_grew : (past_zero : Bool) (h : History) → Fit P h → {new : History} → Grew P past_zero h new → unplaced P (in_use (new ++ h)) ≤ unplaced P (in_use h) - length new
  fewer_grew past_zero h fit start = omega arith
  fewer_grew past_zero h fit (more {s = s} {new = new} g d f) =
      omega (arith, fewer_grew past_zero h fit g, fewer {h = new ++ h} {s = s} (fit_grew P past_zero h fit g) f)

  -- from fresh
  fewer_left : {h : History} → Grown P h → unplaced P (in_use h) ≤ P.nurses - length h
  fewer_left fresh = omega (arith, count_le P.nurses (λ i. is_none (in_use [] i)))
  fewer_left (and {s = s} {h = h} g f) = omega (arith, fewer_left g, fewer {h = h} {s = s} (grown_fit P g) f)

  pub all_placed : {h : History} → Grown P h → P.nurses ≤ length h → (i : ℕ) → i < P.nurses → in_use h i ≢ none
  all_placed {h} g m i l = none_unplaced (in_use h) P.nurses i (omega (arith, fewer_left g)) l
