-- Demand 3 holds of every list of operations.
use Rattle.std.specs.Prelude.{ℕ, suc, ◌+◌, ◌-◌, ◌≤◌, ◌<◌, ◌≡◌, refl, Bool, true, false, ◌≢◌, ◌↔◌, List, [], ◌∷◌, ◌++◌, length}
use Rattle.std.proofs.Common.{sym, ap, ◌∙◌, subst, arith, length-append, eq-eqb, ne_eqb}
use Rattle.std.proofs.Math.Option.{Option, none, some}
use Rattle.history.specs.Slot.{Slot}
use Rattle.history.specs.Phase.{Step, Phase, unplaced, Call, Answer, End, end_zero, end_asked, end_none, stops, refusal, given, in_turn}
use Rattle.refusals.specs.declared.Refusal.{Refusal}
use Rattle.history.specs.History.{History, in_use, penalty, next, extend, reply, advance}
use Rattle.history.specs.Record.{Record, record_of, fresh as fresh-one}
use Rattle.history.specs.Session.{Operation, operation_advance, operation_keep, operation_return, Answered, Session, begun, known, act, answers, session}
use Rattle.history.specs.Claim.{Allowed, Least, Made, Went, refuses, goes, keeps, keeps_not, returns, returns_not, Turns, done, turn, Demand3}
use Rattle.history.proofs.Lawful.{Lawful}
use Rattle.history.proofs.StopLaws.{stops_at, goes_on_at}
use Rattle.history.proofs.AllowedLaws.{next_none, next_some}
use Rattle.history.proofs.RunLaws.{by_turns}
use Rattle.history.proofs.FollowLaws.{fresh_record, advance_refused, advance_goes}
use Rattle.history.proofs.FitLaws.{Fit, fit_fresh}
use Rattle.history.proofs.GrewLaws.{Grew, start, more, Grown, fresh, each_of, fit_grew, grown_grew, grown_steps, grown_part}
use Rattle.history.proofs.PlacedLaws.{fewer_grew, all_placed}
use Rattle.history.proofs.SessionLaws.{storable, not_storable, kept_own, kept_others, act_keeps, act_keeps_not, act_returns, act_nothing, act_returns_not, Acts, advancing, keeping, not_keeping, returning, nothing_kept, not_returning, acts, Every, every_begun, every_act, every_turns, known_then, turns_alike}

pub zero≢asked : end_zero ≢ end_asked
zero≢asked e = let z : ◌≡◌ {A = ℕ} 0 1 = cc in omega arith

zero≢none : end_zero ≢ end_none
zero≢none e = let z : ◌≡◌ {A = ℕ} 0 1 = cc in omega arith

asked≢none : end_asked ≢ end_none
asked≢none e = let z : ◌≡◌ {A = ℕ} 0 1 = cc in omega arith

-- ---- the steps of an advance

module _ (P : Phase) (past_zero : Bool) (h : History) where
  -- what up to k steps more come to, after the steps `before` since h
  record Ran (before : History) (k : ℕ) (r : History × End) : Type 0 where
    new : History
    added : r.0 ≡ new ++ h
    grew : Grew P past_zero h new
    longer : length before ≤ length new
    at_most : length new ≤ length before + k
    asked : r.1 ≡ end_asked → length new ≡ length before + k
    zero_when : (r.1 ≡ end_zero) ↔ ((past_zero ≡ false) × (penalty P r.0 ≡ 0))
    none_when : (r.1 ≡ end_none) ↔ ((next P r.0 ≡ none) × (length new < length before + k) × (past_zero ≡ false → penalty P r.0 ≢ 0))

  abbrev goes_at : History → Type 0
  goes_at g = stops past_zero (penalty P g) ≡ false

  ends_zero : (before : History) (k : ℕ) (g : History) → g ≡ before ++ h → Grew P past_zero h before → stops past_zero (penalty P g) ≡ true → Ran before k (g, end_zero)
  ends_zero before k g q w e =
      let z = stops_at past_zero (penalty P g) e in
      record {
        new = before;
        added = q;
        grew = w;
        longer = omega arith;
        at_most = omega arith;
        asked = λ x. absurd (zero≢asked x);
        zero_when = (λ x. z, λ x. refl);
        none_when = (λ x. absurd (zero≢none x), λ x. absurd (x.2 z.0 z.1));
      }

  ends_asked : (before g : History) → g ≡ before ++ h → Grew P past_zero h before → goes_at g → Ran before 0 (g, end_asked)
  ends_asked before g q w n =
      record {
        new = before;
        added = q;
        grew = w;
        longer = omega arith;
        at_most = omega arith;
        asked = λ x. omega arith;
        zero_when = (λ x. absurd (zero≢asked (sym x)), λ x. absurd (goes_on_at past_zero (penalty P g) n x.0 x.1));
        none_when = (λ x. absurd (asked≢none x), λ x. let z : ⊥ = omega (arith, x.1) in absurd z);
      }

  ends_none : (before : History) (k : ℕ) (g : History) → g ≡ before ++ h → Grew P past_zero h before → goes_at g → next P g ≡ none → Ran before (suc k) (g, end_none)
  ends_none before k g q w n b =
      record {
        new = before;
        added = q;
        grew = w;
        longer = omega arith;
        at_most = omega arith;
        asked = λ x. absurd (asked≢none (sym x));
        zero_when = (λ x. absurd (zero≢none (sym x)), λ x. absurd (goes_on_at past_zero (penalty P g) n x.0 x.1));
        none_when = (λ x. (b, omega arith, goes_on_at past_zero (penalty P g) n), λ x. refl);
      }

  goes_on : (before : History) (k : ℕ) (s : Step) (r : History × End) → Ran (s ∷ before) k r → Ran before (suc k) r
  goes_on before k s r f =
      record {
        new = f.new;
        added = f.added;
        grew = f.grew;
        longer = omega (arith, f.longer);
        at_most = omega (arith, f.at_most);
        asked = λ x. omega (arith, f.asked x);
        zero_when = f.zero_when;
        none_when = (
          λ x. let m = f.none_when.0 x in (m.0, omega (arith, m.1), m.2),
          λ x. f.none_when.1 (x.0, omega (arith, x.1), x.2),
        );
      }

  grew_more : (before g : History) (s : Step) → g ≡ before ++ h → Grew P past_zero h before → goes_at g → next P g ≡ some s → Grew P past_zero h (s ∷ before)
  grew_more before g s q w n b =
      more w (subst (λ (x : History). past_zero ≡ false → penalty P x ≢ 0) q (goes_on_at past_zero (penalty P g) n)) (subst (λ (x : History). Least P x s) q (next_some P g s b))

  ran_from : (k : ℕ) (g : History) → (before : History) → g ≡ before ++ h → Grew P past_zero h before → Ran before k (extend P past_zero k g)
  unfolding extend
  ran_from =
      by_turns (λ g. stops past_zero (penalty P g)) (next P) (λ s g. s ∷ g) (λ k g r. (before : History) → g ≡ before ++ h → Grew P past_zero h before → Ran before k r)
      (λ k g e before q w. ends_zero before k g q w e)
      (λ g n before q w. ends_asked before g q w n)
      (λ k g n b before q w. ends_none before k g q w n b)
      (λ k g s r n b f before q w. goes_on before k s r (f (s ∷ before) (ap {B = History} (λ x. s ∷ x) q) (grew_more before g s q w n b)))

  ran : (k : ℕ) → Ran [] k (extend P past_zero k h)
  ran k = ran_from k h [] refl start

-- ---- one advance

module _ (P : Phase) where
  pub no_next : (h : History) → ((t : Step) → Allowed P h t → ⊥) → next P h ≡ none
  no_next h f = go (next P h) refl
    where
      go : (o : Option Step) → next P h ≡ o → next P h ≡ none
      go none e = e
      go (some s) e = absurd (f s (next_some P h s e).allowed)

  pub given_letters : (l : ℕ → Slot) → (P.cost l ≡ 0 → given P l ≡ P.letters l) × (P.cost l ≢ 0 → given P l ≡ [])
  unfolding given
  given_letters l = (λ e. rw (eq-eqb (P.cost l) 0 e), λ n. rw (ne_eqb (P.cost l) 0 n))

module _ (P : Phase) (w : Lawful P) where
  made : (c : Call) (h : History) → Fit P h → (r : History × End) → Ran P c.past_zero h [] c.steps r
      → Made P c h r.0 r.1 (length r.0 - length h) (penalty P r.0) (given P (in_use r.0))
  unfolding penalty
  made c h fit r f =
      let n : length r.0 - length h ≡ length f.new = omega (arith, ap length f.added, length-append f.new h) in
      let u = fewer_grew P w c.past_zero h fit f.grew in
      record {
        new = f.new;
        added = f.added;
        steps = n;
        after = refl;
        at_most = omega (arith, f.at_most);
        each = λ later s earlier q. each_of P c.past_zero h later s earlier (subst (Grew P c.past_zero h) q f.grew);
        asked = λ q. omega (arith, f.asked q);
        zero_when = f.zero_when;
        none_when = (
          λ q. let m = f.none_when.0 q in (next_none P r.0 m.0, omega (arith, m.1), m.2),
          λ q. f.none_when.1 (no_next P r.0 q.0, omega (arith, q.1), q.2),
        );
        letters = given_letters P (in_use r.0);
        fewer = subst (λ (g : History). unplaced P (in_use g) ≤ unplaced P (in_use h) - (length r.0 - length h)) (sym f.added) (omega (arith, u));
      }

  -- ---- one operation

  module _ (room : Bool) where
    abbrev acted : Operation → Session History → Answered × Session History
    acted = act (advance P) room

    went_advance : (c : Call) (s : Session History) → Fit P s.in_hand → (o : Option Refusal) → refusal P c (length s.in_hand) ≡ o
        → Went P room s (operation_advance c) (acted (operation_advance c) s).0 (acted (operation_advance c) s).1
    unfolding act reply
    went_advance c s fit none e =
        let h = s.in_hand in
        rw (advance_goes P c h e) (goes e (made c h fit (extend P c.past_zero c.steps h) (ran P c.past_zero h c.steps)))
    went_advance c s fit (some n) e = rw (advance_refused P c s.in_hand n e) (refuses e)

    went : (o : Operation) (s : Session History) → Fit P s.in_hand → Went P room s o (acted o s).0 (acted o s).1
    went o s fit = go o (acts (advance P) room s o)
      where
        go : (o : Operation) → Acts (advance P) room s o → Went P room s o (acted o s).0 (acted o s).1
        go (operation_advance c) advancing = went_advance c s fit (refusal P c (length s.in_hand)) refl
        go (operation_keep n) (keeping e) = rw (act_keeps (advance P) room n s e) (keeps (storable room n e) (kept_own s.kept n s.in_hand) (kept_others s.kept n s.in_hand))
        go (operation_keep n) (not_keeping e) = rw (act_keeps_not (advance P) room n s e) (keeps_not (not_storable room n e))
        go (operation_return n) (returning h e q) = rw (act_returns (advance P) room n s e q) (returns (storable room n e) q)
        go (operation_return n) (nothing_kept q) = rw (act_nothing (advance P) room n s q) (returns_not (λ x. q))
        go (operation_return n) (not_returning e) = rw (act_returns_not (advance P) room n s e) (returns_not (λ x. absurd (not_storable room n e x)))

-- ---- a list of operations

module _ (P : Phase) where
  -- what an advance adds keeps what is kept by steps that are the ones to take
  advance_by : (I : History → Type 0) → ((past_zero : Bool) (h new : History) → I h → Grew P past_zero h new → I (new ++ h)) → (c : Call) (h : History) → I h → I (advance P c h).1
  unfolding reply
  advance_by I more-keeps c h i = go (refusal P c (length h)) refl
    where
      go : (o : Option Refusal) → refusal P c (length h) ≡ o → I (advance P c h).1
      go none e =
          let r = ran P c.past_zero h c.steps in
          rw (advance_goes P c h e) (subst I (sym r.added) (more-keeps c.past_zero h r.new i r.grew))
      go (some n) e = rw (advance_refused P c h n e) i

  pub advance_fit : (c : Call) (h : History) → Fit P h → Fit P (advance P c h).1
  advance_fit = advance_by (Fit P) (λ past_zero h new. fit_grew P past_zero h {new = new})

  advance_grown : (c : Call) (h : History) → Grown P h → Grown P (advance P c h).1
  advance_grown = advance_by (Grown P) (λ past_zero h new. grown_grew P past_zero h {new = new})

  -- a search whose advances follow those of the history, from the record of any history that fits: f says how it holds a record
  pub session_follows : (room : Bool) {U : Type 0} (adv : Call → U → Answer × U) (f : Record → U)
      → ((c : Call) (h : History) → Fit P h → adv c (f (record_of P h)) ≡ ((advance P c h).0, f (record_of P (advance P c h).1))) → (ops : List Operation)
      → in_turn (act adv room) ops (begun (f fresh-one)) ≡ (answers P room ops, known f (known (record_of P) (session P room ops)))
  unfolding answers session
  session_follows room adv f one ops =
      ap (λ (r : Record). in_turn (act adv room) ops (begun (f r))) (fresh_record P)
      ∙ turns_alike (advance P) adv room (λ h. f (record_of P h)) (Fit P) advance_fit one ops (begun []) (every_begun (Fit P) [] (fit_fresh P))
      ∙ ap (λ (s : Session _). ((in_turn (act (advance P) room) ops (begun [])).0, s)) (sym (known_then f (record_of P) (in_turn (act (advance P) room) ops (begun [])).1))

  module _ (w : Lawful P) (room : Bool) where
    turns : (ops : List Operation) (s : Session History) → Every (Fit P) s
        → Turns P room ops (in_turn (act (advance P) room) ops s).0 s (in_turn (act (advance P) room) ops s).1
    turns [] s each = done
    turns (o ∷ os) s each = turn (went P w room o s each.in_hand) (turns os (act (advance P) room o s).1 (every_act (advance P) room (Fit P) advance_fit o s each))

    -- of any search that follows the session
    pub demand3_of : {M : Type 0} (first : M) (perform : Operation → M → Answered × M) (image : Session Record → M) (ops : List Operation)
        → in_turn perform ops first ≡ (answers P room ops, image (known (record_of P) (session P room ops))) → Demand3 P room first perform image ops
    unfolding answers session
    demand3_of first perform image ops e =
        let g = (every_turns (advance P) room (Grown P) advance_grown ops (begun []) (every_begun (Grown P) [] fresh)).in_hand in
        record {
          follows = e;
          each = turns ops (begun []) (every_begun (Fit P) [] (fit_fresh P));
          steps = grown_steps P g;
          placed = λ later earlier q. all_placed P w (grown_part P later earlier (subst (Grown P) q g));
        }
