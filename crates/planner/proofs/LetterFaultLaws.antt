-- Question 12 is a no exactly where its fault is.
use Rattle.std.specs.Prelude.{ℕ, zero, suc, ◌+◌, ◌<◌, ◌≡◌, refl, Bool, true, false, cond, List, [], ◌∷◌, eqb, length, get_or}
use Rattle.std.proofs.Common.{sym, ap, ◌∙◌, subst, arith, ne_eqb}
use Rattle.std.proofs.lemmas.Bool.{eqb-false}
use Rattle.std.proofs.Math.Option.{Option, none, some, none-ne-some}
use Rattle.history.proofs.TestLaws.{some_same}
use Rattle.letters.specs.Letters.{is_letter, first_bad, or_count, misplaced}
use Rattle.planner.specs.Faults.{LettersBefore, LettersFault, bad_letter, wrong_count}

-- a bad letter at k, and none before it
record FirstAt (cs : List ℕ) (k : ℕ) : Type 0 where
  inside : k < length cs
  bad : is_letter (get_or cs k 0) ≡ false
  before : LettersBefore cs k

before_more : (c : ℕ) (cs : List ℕ) (k : ℕ) → is_letter c ≡ true → LettersBefore cs k → LettersBefore (c ∷ cs) (suc k)
before_more c cs k e f zero l = e
before_more c cs k e f (suc j) l = f j (omega arith)

before_less : (c : ℕ) (cs : List ℕ) (k : ℕ) → LettersBefore (c ∷ cs) (suc k) → LettersBefore cs k
before_less c cs k f j l = f (suc j) (omega arith)

-- the first bad letter of those from the index `at` on
found_at : (at : ℕ) (cs : List ℕ) (p : ℕ) → first_bad at cs ≡ some p → (k : ℕ) × ((p ≡ at + k) × FirstAt cs k)
unfolding first_bad
found_at at [] p e = absurd (none-ne-some p e)
found_at at (c ∷ cs) p e = go (is_letter c) refl e (found_at (suc at) cs p)
  where
    go : (b : Bool) → is_letter c ≡ b → cond b (first_bad (suc at) cs) (some at) ≡ some p
        → (first_bad (suc at) cs ≡ some p → (k : ℕ) × ((p ≡ suc at + k) × FirstAt cs k)) → (k : ℕ) × ((p ≡ at + k) × FirstAt (c ∷ cs) k)
    go true q x f =
        let r = f x in
        (suc r.0, (omega (arith, r.1.0), record { inside = omega (arith, r.1.1.inside); bad = r.1.1.bad; before = before_more c cs r.0 q r.1.1.before }))
    go false q x f = (0, (omega (arith, some_same x), record { inside = omega arith; bad = q; before = λ j l. let z : ⊥ = omega arith in absurd z }))

at_found : (at : ℕ) (cs : List ℕ) (k : ℕ) → FirstAt cs k → first_bad at cs ≡ some (at + k)
unfolding first_bad
at_found at [] k f = let z : ⊥ = omega (arith, f.inside) in absurd z
at_found at (c ∷ cs) zero f = let q : at ≡ at + 0 = omega arith in rw f.bad (ap some q)
at_found at (c ∷ cs) (suc k) f =
    let rest : FirstAt cs k = record { inside = omega (arith, f.inside); bad = f.bad; before = before_less c cs k f.before } in
    let q : suc at + k ≡ at + suc k = omega arith in
    rw (f.before 0 (omega arith)) (at_found (suc at) cs k rest ∙ ap some q)

none_bad : (at : ℕ) (cs : List ℕ) → first_bad at cs ≡ none → LettersBefore cs (length cs)
unfolding first_bad
none_bad at [] e = λ j l. let z : ⊥ = omega arith in absurd z
none_bad at (c ∷ cs) e = go (is_letter c) refl e (none_bad (suc at) cs)
  where
    go : (b : Bool) → is_letter c ≡ b → cond b (first_bad (suc at) cs) (some at) ≡ none → (first_bad (suc at) cs ≡ none → LettersBefore cs (length cs))
        → LettersBefore (c ∷ cs) (suc (length cs))
    go true q x f = before_more c cs (length cs) q (f x)
    go false q x f = absurd (none-ne-some at (sym x))

bad_none : (at : ℕ) (cs : List ℕ) → LettersBefore cs (length cs) → first_bad at cs ≡ none
unfolding first_bad
bad_none at [] f = refl
bad_none at (c ∷ cs) f = rw (f 0 (omega arith)) (bad_none (suc at) cs (before_less c cs (length cs) f))

module _ (size : ℕ) (roster : List ℕ) where
  pub misplaced_fault : (p : ℕ) → misplaced size roster ≡ some p → LettersFault size roster p
  unfolding misplaced
  misplaced_fault p e = go (first_bad 0 roster) refl e
    where
      count : (b : Bool) → eqb (length roster) size ≡ b → LettersBefore roster (length roster) → cond b none (some (length roster)) ≡ some p → LettersFault size roster p
      count true q f x = absurd (none-ne-some p x)
      count false q f x = wrong_count (sym (some_same x)) f (eqb-false _ _ q)

      go : (o : Option ℕ) → first_bad 0 roster ≡ o → or_count o (length roster) size ≡ some p → LettersFault size roster p
      go (some k) q x =
          let r = found_at 0 roster p (q ∙ x) in
          let same : r.0 ≡ p = omega (arith, r.1.0) in
          let f = subst (FirstAt roster) same r.1.1 in
          bad_letter f.inside f.bad f.before
      go none q x = count (eqb (length roster) size) refl (none_bad 0 roster q) x

  pub fault_misplaced : (p : ℕ) → LettersFault size roster p → misplaced size roster ≡ some p
  unfolding misplaced
  fault_misplaced p (bad_letter l b f) =
      ap (λ (o : Option ℕ). or_count o (length roster) size) (at_found 0 roster p (record { inside = l; bad = b; before = f }))
      ∙ let q : 0 + p ≡ p = omega arith in ap some q
  fault_misplaced p (wrong_count e f n) =
      ap (λ (o : Option ℕ). or_count o (length roster) size) (bad_none 0 roster f)
      ∙ ap (λ (b : Bool). cond b none (some (length roster))) (ne_eqb (length roster) size n) ∙ ap some (sym e)
