-- An advance over stored records, as a loop of steps makes it; and sessions of such advances follow the history.
use Rattle.std.specs.Prelude.{ℕ, suc, ◌+◌, ◌-◌, ◌≤◌, ◌<◌, min, ◌≡◌, refl, Bool, true, false, cond, ◌&&◌, ◌≢◌, List, [], Option as StoredOption, Some, None, eqb, length}
use Rattle.std.proofs.Common.{sym, ap, ap₂, ◌∙◌, subst, add-zero, arith, eqb-true}
use Rattle.std.proofs.lemmas.Bool.{false≢true, and_parts}
use Rattle.std.proofs.Math.Nat.{sub-zero}
use Rattle.std.proofs.Math.Option.{Option, none, some}
use Rattle.std.specs.Option.{is_some, unwrap_or}
use Rattle.numbers.specs.Range.{Ascending, up_from}
use Rattle.numbers.proofs.AllLaws.{all_each}
use Rattle.refusals.proofs.OrderLaws.{first_last}
use Rattle.refusals.specs.Refusals.{numbered}
use Rattle.refusals.specs.Questions as question
use Rattle.history.specs.Slot.{Slot}
use Rattle.history.specs.Phase.{Step, Phase, Call, Answer, refused, ended, End, end_zero, end_asked, end_none, exchanges, run, stops, refusal, given, in_turn}
use Rattle.refusals.specs.declared.Refusal.{Refusal}
use Rattle.history.specs.History.{History, penalty, extend, reply, advance}
use Rattle.history.specs.Record.{Record, record_of, may_take, cost_after, total, best, stepped, proceed, among, hers, all_name, sound, reply_of}
use Rattle.history.specs.Session.{Operation, begun, known, act, answers, session}
use Rattle.history.specs.Claim.{Without, or_ten}
use Rattle.history.proofs.Lawful.{Lawful}
use Rattle.search.specs.Stored.{store, view, view_of, all_zero, unused_zero, sound_stored, refusal_stored, reply_stored, advance_stored, Sized}
use Rattle.search.proofs.Fits.{Fits}
use Rattle.best.specs.CodeBest.{Best, best_over, found}
use Rattle.search.specs.CodeSteps.{exchanged_in, stepped_of}
use Rattle.search.specs.declared.Record.{Record as Stored}
use Rattle.search.specs.declared.Stepped.{Stepped}
use Rattle.best.specs.declared.Exchange.{Exchange}
use Rattle.history.proofs.ChooseLaws.{least_first, offers_only, range_only}
use Rattle.history.proofs.RunLaws.{run_zero, run_asked, run_none_left, run_on}
use Rattle.history.proofs.FollowLaws.{lacking_none, advance_refused, advance_goes, proceed_extend}
use Rattle.history.proofs.FitLaws.{Fit, among_member, removals_held, sound_record}
use Rattle.history.proofs.DemandLaws.{session_follows}
use Rattle.history.proofs.WithoutLaws.{lacking_lowest}
use Rattle.best.proofs.BestLaws.{found_best}
use Rattle.search.proofs.StoredLaws.{Held, Whole, view_store, store_fresh, unused_store, view_exchanged, exchanged_whole, store_view}

-- ---- an exchange to take names a nurse of the phase

pub best_nurse : (P : Phase) (R : Record) (s : Step) → best P R ≡ some s → s.nurse < P.nurses
unfolding best
best_nurse P R s e =
    let f = least_first (cost_after P R) (exchanges P (may_take R)) s e in
    omega (arith, range_only 0 P.nurses s.nurse (offers_only P.patterns (may_take R) (up_from 0 P.nurses) s f.member).0)

pub best_hers : (P : Phase) (R : Record) (s : Step) → best P R ≡ some s → among (P.patterns s.nurse) s.pattern ≡ true
unfolding best
best_hers P R s e =
    let f = least_first (cost_after P R) (exchanges P (may_take R)) s e in
    among_member (P.patterns s.nurse) s.pattern (offers_only P.patterns (may_take R) (up_from 0 P.nurses) s f.member).1

-- question 11's yes, of one nurse
pub sound_own : (P : Phase) (R : Record) → sound P R ≡ true → (i : ℕ) → i < P.nurses → hers P i (R.slots i) ≡ true
unfolding sound
sound_own P R e i l =
    all_each (λ j. hers P j (R.slots j)) P.nurses i (and_parts _ (all_name P R.removals && eqb (length R.removals) (min R.steps P.tabu)) e).0 l

-- everyone's slot is her own after an exchange of hers
exchanged_own : (P : Phase) (R : Record) (s : Step) → among (P.patterns s.nurse) s.pattern ≡ true → ((i : ℕ) → i < P.nurses → hers P i (R.slots i) ≡ true)
    → (i : ℕ) → i < P.nurses → hers P i ((stepped P.tabu s R).slots i) ≡ true
unfolding stepped
exchanged_own P R s e f i l = go (eqb i s.nurse) refl
  where
    go : (b : Bool) → eqb i s.nurse ≡ b → hers P i (cond b (some s.pattern) (R.slots i)) ≡ true
    go true q = rw (eqb-true i s.nurse q) e
    go false q = f i l

-- ---- the loop

-- After `made` steps of an advance of k from r₀ the record is r: what is left to run is the rest of the run.
pub record Running (P : Phase) (past_zero : Bool) (k : ℕ) (r₀ r : Stored) (made : ℕ) : Type 0 where
  pub at_most : made ≤ k
  pub counted : r.steps ≡ r₀.steps + made
  pub whole : Whole P.nurses P.tabu r
  pub own : (i : ℕ) → i < P.nurses → hers P i ((view_of P r).slots i) ≡ true
  pub left : proceed P past_zero k (view_of P r₀) ≡ proceed P past_zero (k - made) (view_of P r)

module _ (P : Phase) (past_zero : Bool) (k : ℕ) (r₀ : Stored) where
  pub running_start : Sized r₀ → sound_stored P r₀ ≡ true → Running P past_zero k r₀ r₀ 0
  unfolding sound_stored
  running_start s e =
      let a = and_parts (sound P (view_of P r₀)) (unused_zero P.nurses P.tabu r₀) e in
      record {
        at_most = omega arith;
        counted = sym (add-zero r₀.steps);
        whole = record { sized = s; unused = a.1 };
        own = λ i l. sound_own P (view_of P r₀) a.0 i l;
        left = rw sub-zero;
      }

-- a turn of the loop in a phase: where it is, and the penalty there
pub record Turn (P : Phase) (past_zero : Bool) (k : ℕ) (r₀ r : Stored) (made pen : ℕ) : Type 0 where
  pub running : Running P past_zero k r₀ r made
  pub fits : Fits P
  pub cost : pen ≡ P.cost (view_of P r).slots

module _ {P : Phase} {past_zero : Bool} {k : ℕ} {r₀ r : Stored} {made pen : ℕ} (t : Turn P past_zero k r₀ r made pen) where
  abbrev slots_of : ℕ → Slot
  slots_of = (view_of P r).slots

  -- whether the run stops here
  abbrev stop_here : Record → Bool
  stop_here x = stops past_zero (total P x)

  abbrev letters_at : ℕ → List ℕ
  letters_at c = cond (eqb c 0) (P.letters slots_of) []

  stop_is : {b : Bool} → stops past_zero pen ≡ b → stop_here (view_of P r) ≡ b
  unfolding total
  stop_is e = ap (stops past_zero) (sym t.cost) ∙ e

  ends : (e : End) → proceed P past_zero (k - made) (view_of P r) ≡ (view_of P r, e) → reply_stored P past_zero k r₀ ≡ (ended e made pen (letters_at pen), r)
  unfolding reply_stored reply_of total view given
  ends e q =
      let n : r.steps - r₀.steps ≡ made = omega (arith, t.running.counted) in
      rw (t.running.left ∙ q, store_view P.nurses P.tabu r t.running.whole.sized t.fits.tabu_at_most t.running.whole.unused, n)
      (ap (λ (c : ℕ). (ended e made c (letters_at c), r)) (sym t.cost))

  -- where it stops it ends with "zero"
  pub ends_zero : {b : Bool} → b ≡ stops past_zero pen → b ≡ true → reply_stored P past_zero k r₀ ≡ (ended end_zero made pen (letters_at pen), r)
  unfolding proceed
  ends_zero s z = ends end_zero (run_zero stop_here (best P) (stepped P.tabu) (k - made) (view_of P r) (stop_is (sym s ∙ z)))

  -- else k made, with "asked"
  pub ends_asked : {b : Bool} → b ≡ stops past_zero pen → b ≡ false → made ≡ k → reply_stored P past_zero k r₀ ≡ (ended end_asked made pen (letters_at pen), r)
  unfolding proceed
  ends_asked s n m =
      let d : k - made ≡ 0 = omega arith in
      ends end_asked (rw d (run_asked stop_here (best P) (stepped P.tabu) (view_of P r) (stop_is (sym s ∙ n))))

  -- else no exchange, with "none"
  ends_none : stops past_zero pen ≡ false → made < k → best P (view_of P r) ≡ none → reply_stored P past_zero k r₀ ≡ (ended end_none made pen (letters_at pen), r)
  unfolding proceed
  ends_none n l b = ends end_none (run_none_left stop_here (best P) (stepped P.tabu) (k - made) (view_of P r) (omega arith) (stop_is n) b)

  -- else one step more
  goes_on : stops past_zero pen ≡ false → made < k → (s : Step) → best P (view_of P r) ≡ some s
      → Running P past_zero k r₀ (exchanged_in P.tabu r s.nurse s.pattern) (made + 1)
  unfolding proceed exchanged_in
  goes_on n l s b =
      let i : s.nurse < P.nurses = best_nurse P (view_of P r) s b in
      let d : k - made - 1 ≡ k - (made + 1) = omega arith in
      let view_then = view_exchanged P.nurses P.tabu r t.running.whole t.fits.nurses_most t.fits.tabu_at_most s.nurse s.pattern i in
      record {
        at_most = omega arith;
        counted = omega (arith, t.running.counted);
        whole = exchanged_whole P.nurses P.tabu r t.running.whole t.fits.nurses_most t.fits.tabu_at_most s.nurse s.pattern i;
        own = λ j m. rw (view_then) (exchanged_own P (view_of P r) s (best_hers P (view_of P r) s b) t.running.own j m);
        left = t.running.left ∙ run_on stop_here (best P) (stepped P.tabu) (k - made) (view_of P r) s (omega arith) (stop_is n) b
            ∙ ap₂ (λ (j : ℕ) (R : Record). run stop_here (best P) (stepped P.tabu) j R) d
            (sym view_then);
      }

-- ---- a step as its own function

some_step : Stepped → StoredOption Stepped
some_step x = Some x

pub step_none : (P : Phase) (r : Stored) → best P (view_of P r) ≡ none → None ≡ stepped_of P r
unfolding stepped_of
step_none P r e = sym (rw (e, stepped_of))

pub step_some : (P : Phase) (r : Stored) (s : Step) {x : Stepped} → best P (view_of P r) ≡ some s → x.after ≡ exchanged_in P.tabu r s.nurse s.pattern
    → x.penalty ≡ cost_after P (view_of P r) s → Some x ≡ stepped_of P r
unfolding stepped_of some_step
step_some P r s {x} e q c = ap₂ (λ (r' : Stored) (pen : ℕ). some_step (record { after = r'; penalty = pen })) q c ∙ sym (rw (e, stepped_of))

-- by the best exchange that loops over the nurses found
module _ (P : Phase) (r : Stored) (up : (i : ℕ) → i < P.nurses → Ascending (P.patterns i)) {b : Best} (e : b ≡ best_over P (view_of P r) P.nurses) where
  best_found : best P (view_of P r) ≡ found b
  best_found = sym (ap found e ∙ found_best P (view_of P r) up)

  pub takes_none : b ≡ None → None ≡ stepped_of P r
  takes_none q = step_none P r (best_found ∙ ap found q)

  pub takes_some : {y : Exchange} {x : Stepped} → b ≡ Some y → x.after ≡ exchanged_in P.tabu r y.nurse y.pattern
      → x.penalty ≡ cost_after P (view_of P r) (record { nurse = y.nurse; pattern = y.pattern }) → Some x ≡ stepped_of P r
  takes_some {y} q f g = step_some P r (record { nurse = y.nurse; pattern = y.pattern }) (best_found ∙ ap found q) f g

  pub takes_nurse : {y : Exchange} → b ≡ Some y → y.nurse < P.nurses
  takes_nurse {y} q = best_nurse P (view_of P r) (record { nurse = y.nurse; pattern = y.pattern }) (best_found ∙ ap found q)

-- what a step says: that there is none to make
pub step_stays : (P : Phase) (r : Stored) → None ≡ stepped_of P r → best P (view_of P r) ≡ none
step_stays P r e = go (best P (view_of P r)) refl
  where
    go : (o : Option Step) → best P (view_of P r) ≡ o → best P (view_of P r) ≡ none
    go none q = q
    go (some s) q = absurd (false≢true (ap (λ (o : StoredOption Stepped). is_some o) (e ∙ sym (step_some P r s q refl refl))))

-- or the exchange, the record after it and its penalty
pub record Moves (P : Phase) (r : Stored) (x : Stepped) : Type 0 where
  pub exchange : Step
  pub chosen : best P (view_of P r) ≡ some exchange
  pub after_is : x.after ≡ exchanged_in P.tabu r exchange.nurse exchange.pattern
  pub penalty_is : x.penalty ≡ cost_after P (view_of P r) exchange

pub step_moves : (P : Phase) (r : Stored) {x : Stepped} → Some x ≡ stepped_of P r → Moves P r x
step_moves P r {x} e = go (best P (view_of P r)) refl
  where
    go : (o : Option Step) → best P (view_of P r) ≡ o → Moves P r x
    go none q = absurd (false≢true (ap (λ (o : StoredOption Stepped). is_some o) (step_none P r q ∙ sym e)))
    go (some s) q =
        let as-stepped = ap (λ (o : StoredOption Stepped). unwrap_or o x) (e ∙ sym (step_some P r s q refl refl)) in
        record {
          exchange = s;
          chosen = q;
          after_is = ap (λ (y : Stepped). y.after) as-stepped;
          penalty_is = ap (λ (y : Stepped). y.penalty) as-stepped;
        }

-- the loop's last two cases, by the step that it made
module _ {P : Phase} {past_zero : Bool} {k : ℕ} {r₀ r : Stored} {made pen : ℕ} (t : Turn P past_zero k r₀ r made pen) {b : Bool} (s : b ≡ stops past_zero pen) (n : b ≡ false) (l : made ≢ k)
    {o : StoredOption Stepped} (q : o ≡ stepped_of P r) where
  below : made < k
  below = omega (arith, t.running.at_most, l)

  pub stays_none : o ≡ None → reply_stored P past_zero k r₀ ≡ (ended end_none made pen (cond (eqb pen 0) (P.letters (view_of P r).slots) []), r)
  stays_none m = ends_none t (sym s ∙ n) below (step_stays P r (sym m ∙ q))

  -- the next turn: the penalty carried on is that of the record after the step
  pub turn_on : {x : Stepped} → o ≡ Some x → Turn P past_zero k r₀ x.after (made + 1) x.penalty
  unfolding stepped
  turn_on m =
      let y = step_moves P r (sym m ∙ q) in
      let i = best_nurse P (view_of P r) y.exchange y.chosen in
      let then = view_exchanged P.nurses P.tabu r t.running.whole t.fits.nurses_most t.fits.tabu_at_most y.exchange.nurse y.exchange.pattern i in
      record {
        running = subst (λ (z : Stored). Running P past_zero k r₀ z (made + 1)) (sym y.after_is) (goes_on t (sym s ∙ n) below y.exchange y.chosen);
        fits = t.fits;
        cost = y.penalty_is ∙ sym (ap (λ (z : Stored). P.cost (view_of P z).slots) y.after_is ∙ ap (λ (R : Record). P.cost R.slots) then);
      }

-- ---- one advance

module _ (P : Phase) (c : Call) (r : Stored) where
  pub stored_refused : (n : Refusal) → refusal_stored P c r ≡ some n → advance_stored P c r ≡ (refused n, r)
  unfolding advance_stored
  stored_refused n e = rw (e, advance_stored)

  pub stored_goes : refusal_stored P c r ≡ none → advance_stored P c r ≡ reply_stored P c.past_zero c.steps r
  unfolding advance_stored
  stored_goes e = rw (e, advance_stored)

  -- where a nurse has no pattern
  pub stored_without : (i : ℕ) → Without P i → advance_stored P c r ≡ (refused (or_ten i (refusal P c r.steps)), r)
  unfolding refusal_stored
  stored_without i w = go (refusal P c r.steps) refl
    where
      go : (o : Option Refusal) → refusal P c r.steps ≡ o → advance_stored P c r ≡ (refused (or_ten i o), r)
      go none e = stored_refused (numbered question.patterns (suc i)) (rw (e, lacking_lowest P i w))
      go (some n) e = stored_refused n (rw e)

-- ---- advances over stored records follow the history

stored_steps : (P : Phase) (h : History) → (store (record_of P h)).steps ≡ length h
unfolding store record_of
stored_steps P h = refl

module _ (P : Phase) (w : Lawful P) (f : Fits P) where
  module _ (h : History) (fit : Fit P h) where
    record_of_held : Held P.nurses P.tabu (record_of P h)
    unfolding record_of
    record_of_held = record { none_past = fit.none_past; count = removals_held P h }

    back : view_of P (store (record_of P h)) ≡ record_of P h
    back = view_store P.nurses P.tabu (record_of P h) record_of_held f.nurses_most

    sound_stored_lem : sound_stored P (store (record_of P h)) ≡ true
    unfolding sound_stored
    sound_stored_lem =
        ap₂ (λ (a b : Bool). a && b) (ap (sound P) back ∙ sound_record P h fit) (unused_store P.nurses P.tabu (record_of P h) record_of_held)

    refusal_stored_lem : (c : Call) → refusal_stored P c (store (record_of P h)) ≡ refusal P c (length h)
    unfolding refusal_stored
    refusal_stored_lem c =
        rw (lacking_none P w, sound_stored_lem) (first_last (refusal P c (store (record_of P h)).steps) ∙ ap (refusal P c) (stored_steps P h))

    reply_stored_lem : (past_zero : Bool) (k : ℕ)
        → reply_stored P past_zero k (store (record_of P h)) ≡ ((reply P h (extend P past_zero k h)).0, store (record_of P (reply P h (extend P past_zero k h)).1))
    unfolding reply_stored reply_of reply record_of total penalty
    reply_stored_lem past_zero k = rw (back, proceed_extend P past_zero h k)

  follows : (c : Call) (h : History) → Fit P h → advance_stored P c (store (record_of P h)) ≡ ((advance P c h).0, store (record_of P (advance P c h).1))
  follows c h fit = go (refusal P c (length h)) refl
    where
      go : (o : Option Refusal) → refusal P c (length h) ≡ o → advance_stored P c (store (record_of P h)) ≡ ((advance P c h).0, store (record_of P (advance P c h).1))
      go none e =
          stored_goes P c (store (record_of P h)) (refusal_stored_lem h fit c ∙ e) ∙ reply_stored_lem h fit c.past_zero c.steps
          ∙ ap (λ (x : Answer × History). (x.0, store (record_of P x.1))) (sym (advance_goes P c h e))
      go (some n) e =
          stored_refused P c (store (record_of P h)) n (refusal_stored_lem h fit c ∙ e)
          ∙ ap (λ (x : Answer × History). (x.0, store (record_of P x.1))) (sym (advance_refused P c h n e))

  -- and so does a session of stored records
  pub session_stored : (room : Bool) (ops : List Operation)
      → in_turn (act (advance_stored P) room) ops (begun all_zero) ≡ (answers P room ops, known store (known (record_of P) (session P room ops)))
  session_stored room ops =
      ap (λ (r : Stored). in_turn (act (advance_stored P) room) ops (begun r)) (sym store_fresh) ∙ session_follows P room (advance_stored P) store follows ops
