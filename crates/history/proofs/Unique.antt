-- The claim's own words fix the answers and the session: whoever believes `Turns` need not read how they are computed.
use Rattle.std.specs.Prelude.{ℕ, ◌-◌, ◌≤◌, ◌≡◌, refl, Bool, true, false, ◌&&◌, ◌≢◌, List, [], ◌∷◌, ◌++◌, eqb, length}
use Rattle.std.proofs.Common.{sym, ap, ◌∙◌, ⊎_elim, arith, length-append, eqb-true}
use Rattle.std.proofs.lemmas.Bool.{eqb-false, cases_Bool}
use Rattle.std.proofs.Math.Nat.{sub-zero}
use Rattle.std.proofs.Math.Option.{Option, none, some}
use Rattle.history.specs.Phase.{Step, Phase, Call, Answer, ended, End, end_zero, end_asked, end_none, stops, given, in_turn}
use Rattle.history.specs.History.{History, in_use, penalty, next, extend, reply, advance}
use Rattle.history.specs.Session.{Operation, operation_return, Answered, advanced, stored, Session, keep_number, no13, act, answers, session}
use Rattle.history.specs.Claim.{Least, Made, Storable, Went, refuses, goes, keeps, keeps_not, returns, returns_not, Turns, done, turn, Determined}
use Rattle.history.proofs.StopLaws.{stops_when, goes_when}
use Rattle.history.proofs.AllowedLaws.{next_none, next_some}
use Rattle.history.proofs.RunLaws.{run_zero, run_asked, run_none_left, run_on}
use Rattle.history.proofs.FollowLaws.{advance_refused, advance_goes}
use Rattle.history.proofs.ChooseLaws.{step_path}
use Rattle.history.proofs.GrewLaws.{Grew, start, more, grew_of}
use Rattle.history.proofs.SessionLaws.{storable, storable_true, storable_false, kept_only, act_keeps, act_keeps_not, act_returns, act_nothing, act_returns_not}
use Rattle.history.proofs.DemandLaws.{no_next, given_letters, zero≢asked}

module _ (P : Phase) where
  next_is : (h : History) (s : Step) → Least P h s → next P h ≡ some s
  next_is h s f = go (next P h) refl
    where
      same : (t : Step) → Least P h t → t ≡ s
      same t g =
          let p = f.least t g.allowed in
          let q = g.least s f.allowed in
          let c : penalty P (t ∷ h) ≡ penalty P (s ∷ h) = omega (arith, p.penalty, q.penalty) in
          let n : t.nurse ≡ s.nurse = omega (arith, q.nurse c, p.nurse (sym c)) in
          step_path t s n (omega (arith, q.number c n, p.number (sym c) (sym n)))

      go : (o : Option Step) → next P h ≡ o → next P h ≡ some s
      go none e = absurd (next_none P h e s f.allowed)
      go (some t) e = e ∙ ap {B = Option Step} some (same t (next_some P h t e))

  module _ (past_zero : Bool) (h : History) where
    -- the run goes through the steps that h grew by
    extend_through : (k : ℕ) {new : History} → Grew P past_zero h new → length new ≤ k → extend P past_zero k h ≡ extend P past_zero (k - length new) (new ++ h)
    unfolding extend
    extend_through k start l = rw sub-zero
    extend_through k (more {s = s} {new = new} g d f) l =
        let q : k - length new - 1 ≡ k - length (s ∷ new) = omega arith in
        extend_through k g (omega arith)
        ∙ run_on (λ g. stops past_zero (penalty P g)) (next P) (λ s g. s ∷ g) (k - length new) (new ++ h) s (omega arith) (goes_when past_zero (penalty P (new ++ h)) d) (next_is (new ++ h) s f)
        ∙ ap (λ (j : ℕ). extend P past_zero j (s ∷ (new ++ h))) q

  -- an advance that was made ends there
  extend_ends : (c : Call) (h h' : History) (e : End) (n p : ℕ) (l : List ℕ) → Made P c h h' e n p l → extend P c.past_zero (c.steps - n) h' ≡ (h', e)
  unfolding extend
  extend_ends c h h' end_zero n p l m =
      let z = m.zero_when.0 refl in
      run_zero (λ g. stops c.past_zero (penalty P g)) (next P) (λ s g. s ∷ g) (c.steps - n) h' (stops_when c.past_zero (penalty P h') z.0 (sym m.after ∙ z.1))
  extend_ends c h h' end_asked n p l m =
      let z : c.steps - n ≡ 0 = omega (arith, m.asked refl) in
      rw z (run_asked (λ g. stops c.past_zero (penalty P g)) (next P) (λ s g. s ∷ g) h'
      (goes_when c.past_zero (penalty P h') (λ q x. zero≢asked (sym (m.zero_when.1 (q, m.after ∙ x))))))
  extend_ends c h h' end_none n p l m =
      let z = m.none_when.0 refl in
      run_none_left (λ g. stops c.past_zero (penalty P g)) (next P) (λ s g. s ∷ g) (c.steps - n) h' (omega (arith, z.1))
      (goes_when c.past_zero (penalty P h') (λ q x. z.2 q (m.after ∙ x))) (no_next P h' z.0)

  letters_are : (h : History) (c : ℕ) (l : List ℕ) → c ≡ penalty P h → (c ≡ 0 → l ≡ P.letters (in_use h)) × (c ≢ 0 → l ≡ []) → l ≡ given P (in_use h)
  unfolding penalty
  letters_are h c l e f =
      ⊎_elim
      (λ t. let z = eqb-true c 0 t in f.0 z ∙ sym ((given_letters P (in_use h)).0 (sym e ∙ z)))
      (λ t. let z = eqb-false c 0 t in f.1 z ∙ sym ((given_letters P (in_use h)).1 (λ q. z (e ∙ q))))
      (cases_Bool (eqb c 0))

  made_is : (c : Call) (h h' : History) (e : End) (n p : ℕ) (l : List ℕ) → Made P c h h' e n p l → (ended e n p l, h') ≡ reply P h (extend P c.past_zero c.steps h)
  unfolding reply
  made_is c h h' e n p l m =
      let k : length m.new ≡ n = sym m.steps in
      let x : extend P c.past_zero c.steps h ≡ (h', e) =
      extend_through c.past_zero h c.steps (grew_of P c.past_zero h m.new m.each) (omega (arith, m.at_most))
      ∙ ap (λ (j : ℕ). extend P c.past_zero (c.steps - j) (m.new ++ h)) k
      ∙ ap (extend P c.past_zero (c.steps - n)) (sym m.added)
      ∙ extend_ends c h h' e n p l m in
      let y : n ≡ length h' - length h = omega (arith, ap length m.added, length-append m.new h, m.steps) in
      rw (x, y, m.after, letters_are h' p l m.after m.letters)

  module _ (room : Bool) where
    not_returned : (s : Session History) (n : ℕ) → (Storable room n → s.kept n ≡ none) → act (advance P) room (operation_return n) s ≡ (stored no13, s)
    not_returned s n f = go (room && keep_number n) refl
      where
        go : (b : Bool) → (room && keep_number n) ≡ b → act (advance P) room (operation_return n) s ≡ (stored no13, s)
        go true e = act_nothing (advance P) room n s (f (storable room n e))
        go false e = act_returns_not (advance P) room n s e

    went_is : (s : Session History) (o : Operation) (a : Answered) (s' : Session History) → Went P room s o a s' → (a, s') ≡ act (advance P) room o s
    unfolding act
    went_is s o a s' (refuses {c = c} {n = n} e) =
        sym (ap (λ (x : Answer × History). (advanced x.0, record { in_hand = x.1; kept = s.kept })) (advance_refused P c s.in_hand n e))
    went_is s o a s' (goes {c = c} {h' = h'} {e = e} {n = n} {p = p} {l = l} q m) =
        ap (λ (x : Answer × History). (advanced x.0, record { in_hand = x.1; kept = s.kept })) (made_is c s.in_hand h' e n p l m ∙ sym (advance_goes P c s.in_hand q))
    went_is s o a s' (keeps {n = n} {kept = kept} e own others) =
        ap (λ (k : ℕ → Option History). (stored none, record { in_hand = s.in_hand; kept = k })) (kept_only s.kept n s.in_hand kept own others)
        ∙ sym (act_keeps (advance P) room n s (storable_true room n e))
    went_is s o a s' (keeps_not {n = n} e) = sym (act_keeps_not (advance P) room n s (storable_false room n e))
    went_is s o a s' (returns {n = n} e q) = sym (act_returns (advance P) room n s (storable_true room n e) q)
    went_is s o a s' (returns_not {n = n} f) = sym (not_returned s n f)

    turns_are : {ops : List Operation} {l : List Answered} {s s' : Session History} → Turns P room ops l s s' → (l, s') ≡ in_turn (act (advance P) room) ops s
    turns_are done = refl
    turns_are (turn {o = o} {os = os} {a = a} {s = s} {s' = s'} w t) = rw (← (went_is s o a s' w), ← (turns_are t))

pub determined : Determined
unfolding answers session
determined P room ops l s t =
    let e = turns_are P room t in
    (ap (λ (x : List Answered × Session History). x.0) e, ap (λ (x : List Answered × Session History). x.1) e)
