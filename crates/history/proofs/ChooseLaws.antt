-- What `least` takes is in its list, and goes before all else in it; `offers` lists exactly the may patterns.
use Rattle.std.specs.Prelude.{ℕ, zero, suc, ◌+◌, ◌≤◌, ◌<◌, ◌≡◌, refl, Bool, true, false, cond, ◌&&◌, ◌||◌, ◌≢◌, ◌⊎◌, List, [], ◌∷◌, ltb, eqb}
use Rattle.std.proofs.Common.{sym, ap, subst, inl, inr, ⊎_elim, arith, ltb-true, ltb-false, eqb-true, eq-eqb}
use Rattle.std.proofs.lemmas.Bool.{eqb-false, and_parts, or_cases, or_parts, cases_Bool}
use Rattle.std.proofs.Math.Option.{Option, none, some, none-ne-some, some-ne-none, some-injective}
use mathlib.Core.List.Memᴰ
use mathlib.Core.List.{Memᴰ}
use Rattle.history.specs.Phase.{Step, before, lesser, least, offers_to, offers}
use Rattle.numbers.specs.Range.{up_from}
use Rattle.history.specs.Claim.{NotAfter}
use Rattle.history.proofs.TestLaws.{and_false_right, not_both}

pub step_path : (s t : Step) → s.nurse ≡ t.nurse → s.pattern ≡ t.pattern → s ≡ t
step_path s t p q = λ i. record { nurse = p i; pattern = q i }

pub not_after_refl : (c : ℕ) (s : Step) → NotAfter c c s s
not_after_refl c s = omega arith

pub not_after_trans : {c d e : ℕ} {s t u : Step} → NotAfter c d s t → NotAfter d e t u → NotAfter c e s u
not_after_trans {c} {d} {e} {s} {t} {u} p q =
    record {
      penalty = omega arith;
      nurse = λ ce. omega (arith, p.nurse (omega arith), q.nurse (omega arith));
      number = λ ce su.
          let m : s.nurse ≤ t.nurse = p.nurse (omega arith) in
          let n : t.nurse ≤ u.nurse = q.nurse (omega arith) in
          omega (arith, p.number (omega arith) (omega arith), q.number (omega arith) (omega arith));
    }

module _ (c d : ℕ) (s t : Step) where
  abbrev by_number : Bool
  by_number = eqb s.nurse t.nurse && ltb s.pattern t.pattern

  abbrev by_nurse : Bool
  by_nurse = ltb s.nurse t.nurse || by_number

  before_true : before c d s t ≡ true → NotAfter c d s t
  before_true e = ⊎_elim
      (λ l. omega (arith, ltb-true c d l))
      (λ r. let q = and_parts (eqb c d) by_nurse r in
      ⊎_elim
      (λ l. omega (arith, eqb-true c d q.0, ltb-true s.nurse t.nurse l))
      (λ n. let a = and_parts (eqb s.nurse t.nurse) (ltb s.pattern t.pattern) n in
      omega (arith, eqb-true c d q.0, eqb-true s.nurse t.nurse a.0, ltb-true s.pattern t.pattern a.1))
      (or_cases (ltb s.nurse t.nurse) by_number q.1))
      (or_cases (ltb c d) (eqb c d && by_nurse) e)

  before_false : before c d s t ≡ false → NotAfter d c t s
  before_false e =
      let r = or_parts (ltb c d) (eqb c d && by_nurse) e in
      let n : d ≡ c → (ltb s.nurse t.nurse ≡ false) × (by_number ≡ false) = λ q. or_parts (ltb s.nurse t.nurse) by_number (and_false_right (eqb c d) by_nurse r.1 (eq-eqb c d (sym q))) in
      record {
        penalty = ltb-false c d r.0;
        nurse = λ q. ltb-false s.nurse t.nurse (n q).0;
        number = λ q m.
            ltb-false s.pattern t.pattern
            (and_false_right (eqb s.nurse t.nurse) (ltb s.pattern t.pattern) (n q).1 (eq-eqb s.nurse t.nurse (sym m)));
      }

-- s is in l, and goes before all else in it
pub record First (cost : Step → ℕ) (s : Step) (l : List Step) : Type 0 where
  pub member : Memᴰ s l
  pub first : (t : Step) → Memᴰ t l → NotAfter (cost s) (cost t) s t

-- s goes before t, which is first in l: s is first in s ∷ l. Or after it: t is
module _ (cost : Step → ℕ) where
  first_head : (s : Step) (l : List Step) → ((t : Step) → Memᴰ t l → NotAfter (cost s) (cost t) s t) → First cost s (s ∷ l)
  first_head s l f =
      record {
        member = Memᴰ.head refl;
        first = λ t m. ⊎_elim (λ e. subst (λ (x : Step). NotAfter (cost s) (cost x) s x) (sym e) (not_after_refl (cost s) s)) (f t) (Memᴰ.cases_cons m);
      }

  first_tail : (s t : Step) (l : List Step) → NotAfter (cost t) (cost s) t s → First cost t l → First cost t (s ∷ l)
  first_tail s t l n f =
      record {
        member = Memᴰ.tail f.member;
        first = λ u m. ⊎_elim (λ e. subst (λ (x : Step). NotAfter (cost t) (cost x) t x) (sym e) n) (f.first u) (Memᴰ.cases_cons m);
      }

  lesser_first : (s : Step) (l : List Step) (o : Option Step) → (o ≡ none → l ≡ []) → ((t : Step) → o ≡ some t → First cost t l)
      → First cost (lesser cost s o) (s ∷ l)
  lesser_first s l none n f = first_head s l (λ t m. absurd (Memᴰ.not-nil (rw (n refl) at m)))
  lesser_first s l (some t) n f = go (before (cost t) (cost s) t s) refl
    where
      go : (b : Bool) → before (cost t) (cost s) t s ≡ b → First cost (cond b t s) (s ∷ l)
      go true e = first_tail s t l (before_true (cost t) (cost s) t s e) (f t refl)
      go false e = first_head s l (λ u m. not_after_trans (before_false (cost t) (cost s) t s e) ((f t refl).first u m))

  pub least_none : (l : List Step) → least cost l ≡ none → l ≡ []
  least_none [] e = refl
  least_none (s ∷ l) e = absurd (some-ne-none _ e)

  pub least_first : (l : List Step) (s : Step) → least cost l ≡ some s → First cost s l
  least_first [] s e = absurd (none-ne-some s e)
  least_first (x ∷ l) s e =
      rw (some-injective _ s e) at (lesser_first x l (least cost l) (least_none l) (λ t. least_first l t))

-- what `offers_to may i ps` holds
abbrev pub Offered : (ℕ → ℕ → Bool) → ℕ → List ℕ → Step → Type 0
Offered may i ps s = (s.nurse ≡ i) × Memᴰ s.pattern ps × (may i s.pattern ≡ true)

module _ (may : ℕ → ℕ → Bool) (i : ℕ) where
  pub offers_to_only : (ps : List ℕ) (s : Step) → Memᴰ s (offers_to may i ps) → Offered may i ps s
  offers_to_only [] s m = absurd (Memᴰ.not-nil m)
  offers_to_only (p ∷ ps) s m = go (λ m. offers_to_only ps s m) (may i p) refl m
    where
      deeper : Offered may i ps s → Offered may i (p ∷ ps) s
      deeper r = (r.0, Memᴰ.tail r.1, r.2)

      go : (Memᴰ s (offers_to may i ps) → Offered may i ps s) → (b : Bool) → may i p ≡ b
          → Memᴰ s (cond b (record { nurse = i; pattern = p } ∷ offers_to may i ps) (offers_to may i ps)) → Offered may i (p ∷ ps) s
      go ih true e m =
          ⊎_elim
          (λ q. (ap (λ (x : Step). x.nurse) q, Memᴰ.head (ap (λ (x : Step). x.pattern) q), rw q e))
          (λ m. deeper (ih m))
          (Memᴰ.cases_cons m)
      go ih false e m = deeper (ih m)

  offers_to_all : (ps : List ℕ) (p : ℕ) → Memᴰ p ps → may i p ≡ true → Memᴰ (record { nurse = i; pattern = p }) (offers_to may i ps)
  offers_to_all [] p m e = absurd (Memᴰ.not-nil m)
  offers_to_all (q ∷ ps) p m e = go (λ m. offers_to_all ps p m e) (may i q) refl (Memᴰ.cases_cons m)
    where
      go : (Memᴰ p ps → Memᴰ (record { nurse = i; pattern = p }) (offers_to may i ps)) → (b : Bool) → may i q ≡ b → (p ≡ q) ⊎ Memᴰ p ps
          → Memᴰ (record { nurse = i; pattern = p }) (cond b (record { nurse = i; pattern = q } ∷ offers_to may i ps) (offers_to may i ps))
      go ih true b (inl d) = Memᴰ.head (ap (λ (x : ℕ). record { nurse = i; pattern = x }) d)
      go ih true b (inr m) = Memᴰ.tail (ih m)
      go ih false b (inl d) = absurd (not_both e (rw d b))
      go ih false b (inr m) = ih m

module _ (patterns : ℕ → List ℕ) (may : ℕ → ℕ → Bool) where
  pub offers_only : (is : List ℕ) (s : Step) → Memᴰ s (offers patterns may is)
      → Memᴰ s.nurse is × Memᴰ s.pattern (patterns s.nurse) × (may s.nurse s.pattern ≡ true)
  offers_only [] s m = absurd (Memᴰ.not-nil m)
  offers_only (i ∷ is) s m =
      ⊎_elim
      (λ m. let o = offers_to_only may i (patterns i) s m in (Memᴰ.head o.0, rw o.0 o.1, rw o.0 o.2))
      (λ m. let o = offers_only is s m in (Memᴰ.tail o.0, o.1, o.2))
      (Memᴰ.append_cases (offers_to may i (patterns i)) m)

  pub offers_all : (is : List ℕ) (s : Step) → Memᴰ s.nurse is → Memᴰ s.pattern (patterns s.nurse) → may s.nurse s.pattern ≡ true
      → Memᴰ s (offers patterns may is)
  offers_all [] s n m e = absurd (Memᴰ.not-nil n)
  offers_all (i ∷ is) s n m e =
      ⊎_elim
      (λ q. Memᴰ.append_left (offers patterns may is) (subst (λ (j : ℕ). Memᴰ s (offers_to may j (patterns j))) q (offers_to_all may s.nurse (patterns s.nurse) s.pattern m e)))
      (λ n. Memᴰ.append_right (offers_to may i (patterns i)) (offers_all is s n m e))
      (Memᴰ.cases_cons n)

pub range_only : (a n i : ℕ) → Memᴰ i (up_from a n) → (a ≤ i) × (i < a + n)
unfolding up_from
range_only a zero i m = absurd (Memᴰ.not-nil m)
range_only a (suc n) i m = ⊎_elim (λ e. omega arith) (λ m. omega (arith, range_only (suc a) n i m)) (Memᴰ.cases_cons m)

pub range_all : (a n i : ℕ) → a ≤ i → i < a + n → Memᴰ i (up_from a n)
unfolding up_from
range_all a zero i l u = let z : ⊥ = omega arith in absurd z
range_all a (suc n) i l u =
    ⊎_elim
    (λ e. Memᴰ.head (eqb-true i a e))
    (λ e. let d : i ≢ a = eqb-false i a e in Memᴰ.tail (range_all (suc a) n i (omega arith) (omega arith)))
    (cases_Bool (eqb i a))
