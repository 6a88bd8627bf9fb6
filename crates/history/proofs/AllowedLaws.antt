-- The test `allowed` is the statement `Allowed`, and `next` is the step to take of all that are allowed.
use Rattle.std.specs.Prelude.{ℕ, zero, suc, ◌<◌, ◌≡◌, refl, true, not, ◌&&◌, [], ◌∷◌, ◌++◌, eqb, length}
use Rattle.std.proofs.Common.{sym, ap, ⊎_elim, arith, not-suc-le-zero, eqb-true, eq-eqb}
use Rattle.std.proofs.lemmas.Bool.{false≢true, and_parts, or_cases, not-true, not_from_false, false_from_ne_true, or_left, or_right, and_from}
use Rattle.std.proofs.Math.Option.{none, some}
use mathlib.Core.List.Memᴰ
use mathlib.Core.List.{Memᴰ}
use Rattle.history.specs.Phase.{Step, Phase, holds, exchanges}
use Rattle.numbers.specs.Range.{up_from}
use Rattle.history.specs.History.{History, in_use, given_up, penalty, allowed, next}
use Rattle.history.specs.Claim.{Allowed, Least}
use Rattle.history.proofs.TestLaws.{not_both, holds_true, holds_some}
use Rattle.history.proofs.ChooseLaws.{least_none, least_first, offers_only, offers_all, range_only, range_all}

module _ (i p : ℕ) where
  -- where she gave p up
  record GaveUp (n : ℕ) (h : History) : Type 0 where
    later : History
    earlier : History
    at : Step
    here : h ≡ later ++ (at ∷ earlier)
    recent : length later < n
    nurse : at.nurse ≡ i
    pattern : in_use earlier i ≡ some p

  gave_up_later : (n : ℕ) (s : Step) (h : History) → GaveUp n h → GaveUp (suc n) (s ∷ h)
  gave_up_later n s h g =
      record {
        later = s ∷ g.later;
        earlier = g.earlier;
        at = g.at;
        here = ap {B = History} (λ l. s ∷ l) g.here;
        recent = omega (arith, g.recent);
        nurse = g.nurse;
        pattern = g.pattern;
      }

  given_up_true : (n : ℕ) (h : History) → given_up n h i p ≡ true → GaveUp n h
  given_up_true zero h e = absurd (false≢true e)
  given_up_true (suc n) [] e = absurd (false≢true e)
  given_up_true (suc n) (s ∷ h) e =
      ⊎_elim
      (λ a. let b = and_parts (eqb i s.nurse) (holds (in_use h i) p) a in
      record {
        later = [];
        earlier = h;
        at = s;
        here = refl;
        recent = omega arith;
        nurse = sym (eqb-true i s.nurse b.0);
        pattern = holds_true (in_use h i) p b.1;
      })
      (λ a. gave_up_later n s h (given_up_true n h a))
      (or_cases (eqb i s.nurse && holds (in_use h i) p) (given_up n h i p) e)

  given_up_at : (n : ℕ) (later : History) (t : Step) (earlier : History) → length later < n → t.nurse ≡ i → in_use earlier i ≡ some p
      → given_up n (later ++ (t ∷ earlier)) i p ≡ true
  given_up_at zero later t earlier l e u = absurd (not-suc-le-zero l)
  given_up_at (suc n) [] t earlier l e u =
      or_left (eqb i t.nurse && holds (in_use earlier i) p) (given_up n earlier i p)
      (and_from (eqb i t.nurse) (holds (in_use earlier i) p) (eq-eqb i t.nurse (sym e)) (holds_some (in_use earlier i) p u))
  given_up_at (suc n) (s ∷ later) t earlier l e u =
      or_right (eqb i s.nurse && holds (in_use (later ++ (t ∷ earlier)) i) p) (given_up n (later ++ (t ∷ earlier)) i p)
      (given_up_at n later t earlier (omega arith) e u)

module _ (P : Phase) (h : History) where
  pub allowed_true : (s : Step) → Allowed P h s → allowed P h s.nurse s.pattern ≡ true
  unfolding allowed
  allowed_true s a =
      and_from (not (holds (in_use h s.nurse) s.pattern)) (not (given_up P.tabu h s.nurse s.pattern))
      (not_from_false _ (false_from_ne_true _ (λ e. a.not_in_use (holds_true (in_use h s.nurse) s.pattern e))))
      (not_from_false _ (false_from_ne_true _ (λ e.
      let g = given_up_true s.nurse s.pattern P.tabu h e in
      a.not_given_up g.later g.earlier g.at g.here g.recent g.nurse g.pattern)))

  pub allowed_of : (s : Step) → s.nurse < P.nurses → Memᴰ s.pattern (P.patterns s.nurse) → allowed P h s.nurse s.pattern ≡ true → Allowed P h s
  unfolding allowed
  allowed_of s l m e =
      let b = and_parts (not (holds (in_use h s.nurse) s.pattern)) (not (given_up P.tabu h s.nurse s.pattern)) e in
      record {
        nurse = l;
        hers = m;
        not_in_use = λ u. not_both (holds_some (in_use h s.nurse) s.pattern u) (not-true _ b.0);
        not_given_up = λ later earlier t q r n u.
            not_both {b = given_up P.tabu h s.nurse s.pattern} (rw q (given_up_at s.nurse s.pattern P.tabu later t earlier r n u)) (not-true _ b.1);
      }

  listed : (t : Step) → Allowed P h t → Memᴰ t (exchanges P (allowed P h))
  listed t a =
      offers_all P.patterns (allowed P h) (up_from 0 P.nurses) t (range_all 0 P.nurses t.nurse (omega arith) (omega (arith, a.nurse)))
      a.hers (allowed_true t a)

  unlisted : (t : Step) → Memᴰ t (exchanges P (allowed P h)) → Allowed P h t
  unlisted t m =
      let o = offers_only P.patterns (allowed P h) (up_from 0 P.nurses) t m in
      allowed_of t (omega (arith, range_only 0 P.nurses t.nurse o.0)) o.1 o.2

  pub next_none : next P h ≡ none → (t : Step) → Allowed P h t → ⊥
  unfolding next
  next_none e t a = Memᴰ.not-nil (rw (least_none (λ s. penalty P (s ∷ h)) (exchanges P (allowed P h)) e) at (listed t a))

  pub next_some : (s : Step) → next P h ≡ some s → Least P h s
  unfolding next
  next_some s e =
      let f = least_first (λ s. penalty P (s ∷ h)) (exchanges P (allowed P h)) s e in
      record { allowed = unlisted s f.member; least = λ t a. f.first t (listed t a) }
