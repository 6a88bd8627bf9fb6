-- `check` refuses a list of numbers exactly by the faults of specs/Faults, and takes what the layout takes.
use Rattle.std.specs.Prelude.{ℕ, zero, suc, ◌+◌, ◌≡◌, refl, ◌⊎◌, List, [], ◌∷◌, ◌++◌, length}
use Rattle.std.proofs.Common.{sym, ap, ◌∙◌, subst, inl, inr, append-nil, arith}
use Rattle.refusals.specs.declared.Refusal.{Refusal}
use Rattle.refusals.specs.Refusals.{numbered}
use Rattle.layout.specs.declared.Field.{Field}
use Rattle.layout.specs.Grammar.{Grammar, done, number, failed_by, Read, good, bad, prepend, on_pass, check}
use Rattle.layout.specs.Faults.{InRange, FitsBefore, Takes, none_yet, one_more, NumbersFault, missing, wrong_number, more_numbers, ListFault}
use Rattle.layout.proofs.GrammarLaws.{prepend_nil, prepend_more, check_good, check_failed}
use Rattle.layout.proofs.AcceptLaws.{first_let_through}
use Rattle.layout.proofs.AskedLaws.{asked_none, none_asked, asked_fault, fault_asked, fault_some}

-- ---- what it takes

pub check_takes : (g : Grammar) (i : ℕ) (ws vs : List ℕ) → check g i ws ≡ good vs → (vs ≡ ws) × Takes g ws done
unfolding check
check_takes done i [] vs e = (cc, none_yet)
check_takes done i (w ∷ ws) vs e = absurd (cc)
check_takes (number f k) i [] vs e = absurd (cc)
check_takes (number f k) i (w ∷ ws) vs e =
    let t = first_let_through f k i w ws vs e in
    let a = asked_none f w t.0 in
    let r = check_takes (k w) (i + 1) ws t.1.0 t.1.1 in
    (t.1.2 ∙ ap (λ (l : List ℕ). w ∷ l) r.0, one_more a.0 a.1 r.1)

-- after numbers that the layout takes, what is left of it is asked of the rest
check_on : (i : ℕ) (rest : List ℕ) {g : Grammar} {vs : List ℕ} {left : Grammar} → Takes g vs left → check g i (vs ++ rest) ≡ prepend vs (check left (i + length vs) rest)
check_on i rest (none_yet {left}) = prepend_nil (check left i rest) ∙ ap (λ (n : ℕ). prepend [] (check left n rest)) (omega arith)
check_on i rest (one_more {f} {k} {v} {vs} {left} r h t) =
    check_good (number f k) f i refl v (vs ++ rest) (none_asked f v r h)
    ∙ ap (prepend (v ∷ [])) (check_on (i + 1) rest t)
    ∙ prepend_more (v ∷ []) vs (check left (i + 1 + length vs) rest)
    ∙ ap (λ (n : ℕ). prepend (v ∷ vs) (check left n rest)) (omega arith)

pub takes_check : (g : Grammar) (i : ℕ) (ws : List ℕ) → Takes g ws done → check g i ws ≡ good ws
unfolding check
takes_check g i ws t = rw append-nil at (check_on i [] t)

-- ---- what it refuses

-- how a list comes to be refused: by its first number, or by the numbers after it
refused : (a at v : ℕ) (r : Read) (q x : ℕ) → on_pass a at (prepend (v ∷ []) r) ≡ bad (numbered q x) → ((a ≡ 0) × (r ≡ bad (numbered q x))) ⊎ ((p : ℕ) × (a ≡ suc p) × (bad (numbered (suc p) at) ≡ bad (numbered q x)))
refused zero at v (good us) q x e = absurd (cc)
refused zero at v (bad n) q x e = inl (refl, e)
refused (suc p) at v r q x e = inr (p, refl, e)

-- the refusal of a reading, or another
abbrev refusal_or : Refusal → Read → Refusal
refusal_or n (good us) = n
refusal_or n (bad m) = m

here : {g : Grammar} {ws : List ℕ} {a q : ℕ} (i x : ℕ) → bad (numbered a i) ≡ bad (numbered q x) → NumbersFault g ws a → (p : ℕ) × (x ≡ i + p) × ListFault g ws q p
here {g} {ws} {a} {q} i x e h =
    let n = ap (refusal_or (numbered a i)) e in
    let s : a ≡ q = ap (λ (m : Refusal). m.question) n in
    let t : i ≡ x = ap (λ (m : Refusal). m.place) n in
    (0, omega arith, record { taken = []; left = g; rest = ws; numbers = refl; place = refl; takes = none_yet; fault = subst (NumbersFault g ws) s h })

later : {f : Field} {k : ℕ → Grammar} {w : ℕ} {ws : List ℕ} {q : ℕ} (i x : ℕ) → InRange f w → FitsBefore f.after w
    → (p : ℕ) × (x ≡ i + 1 + p) × ListFault (k w) ws q p → (p : ℕ) × (x ≡ i + p) × ListFault (number f k) (w ∷ ws) q p
later {w = w} i x r h t =
    let l = t.2 in (
      suc t.0,
      omega (arith, t.1),
      record {
        taken = w ∷ l.taken;
        left = l.left;
        rest = l.rest;
        numbers = ap (λ (us : List ℕ). w ∷ us) l.numbers;
        place = ap suc l.place;
        takes = one_more r h l.takes;
        fault = l.fault;
      },
    )

pub check_fault : (g : Grammar) (i : ℕ) (ws : List ℕ) (q x : ℕ) → check g i ws ≡ bad (numbered q x) → (p : ℕ) × (x ≡ i + p) × ListFault g ws q p
unfolding check
check_fault done i [] q x e = absurd (cc)
check_fault done i (w ∷ ws) q x e = here i x e (more_numbers (λ n. absurd (cc)))
check_fault (number f k) i [] q x e = here i x e missing
check_fault (number f k) i (w ∷ ws) q x e = go (refused (failed_by f w) i w (check (k w) (i + 1) ws) q x e) (check_fault (k w) (i + 1) ws q x)
  where
    go : ((failed_by f w ≡ 0) × (check (k w) (i + 1) ws ≡ bad (numbered q x))) ⊎ ((p : ℕ) × (failed_by f w ≡ suc p) × (bad (numbered (suc p) i) ≡ bad (numbered q x)))
        → (check (k w) (i + 1) ws ≡ bad (numbered q x) → (p : ℕ) × (x ≡ i + 1 + p) × ListFault (k w) ws q p)
        → (p : ℕ) × (x ≡ i + p) × ListFault (number f k) (w ∷ ws) q p
    go (inl t) on = let a = asked_none f w t.0 in later i x a.0 a.1 (on t.1)
    go (inr t) on = here i x t.2 (wrong_number (asked_fault f w t.0 t.1))

fault_here : {g : Grammar} {ws : List ℕ} {q : ℕ} (i : ℕ) → NumbersFault g ws q → check g i ws ≡ bad (numbered q i)
unfolding check
fault_here i missing = refl
fault_here i (wrong_number {f} {k} {v} {q} {after} h) =
    let a = fault_asked f v q h in
    check_failed (number f k) f i refl v after (λ e. fault_some h (sym a ∙ e)) ∙ ap (λ (n : ℕ). bad (numbered n i)) a
fault_here i (more_numbers {ws = []} n) = absurd (n refl)
fault_here i (more_numbers {ws = w ∷ ws} n) = refl

pub fault_check : (g : Grammar) (i : ℕ) (ws : List ℕ) (q p : ℕ) → ListFault g ws q p → check g i ws ≡ bad (numbered q (i + p))
fault_check g i ws q p h =
    ap (check g i) h.numbers
    ∙ check_on i h.rest h.takes
    ∙ ap (prepend h.taken) (fault_here (i + length h.taken) h.fault)
    ∙ ap (λ (n : ℕ). bad (numbered q (i + n))) (sym h.place)
