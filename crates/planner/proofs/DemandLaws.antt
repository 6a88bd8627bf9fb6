-- Demand 3 holds by night and by day, and the check says yes to every roster that a day advance gives out.
use Rattle.std.specs.Prelude.{ℕ, ◌+◌, ◌*◌, ◌<◌, ◌≡◌, refl, Bool, true, false, cond, ◌&&◌, List, [], ◌∷◌, map, leb, eqb}
use Rattle.std.proofs.Common.{sym, ap, ◌∙◌, subst, true≢false, ⊎_elim, eqb-true, arith}
use Rattle.std.proofs.lemmas.Bool.{and_parts}
use Rattle.std.proofs.Math.Option.{none, some}
use Rattle.std.specs.declared.result.Result.TheVariants.{Ok}
use mathlib.Core.List.Memᴰ
use mathlib.Core.List.{Memᴰ}
use Rattle.numbers.specs.Range.{filter, up_from, all}
use Rattle.numbers.specs.Digits.{has}
use Rattle.numbers.specs.Patterns.{unpaired, days_of}
use Rattle.numbers.proofs.PatternLaws.{days_of_pattern}
use Rattle.numbers.proofs.AllLaws.{all_each}
use Rattle.fields.specs.Fields.{Accepted, body_of, nurses, days}
use Rattle.layout.specs.Grammar.{Read, good, bad}
use Rattle.ward.specs.Answers.{read_ward}
use Rattle.ward.proofs.ReadingLaws.{read_accepted}
use Rattle.nights.specs.Own.{own_pattern}
use Rattle.days.specs.Days.{day_rule_of, day_list}
use Rattle.history.specs.Slot.{Slot, is_none}
use Rattle.penalty.specs.Penalty.{worked_in, at_day, night_penalty, day_penalty}
use Rattle.penalty.specs.Held.{DayHeld}
use Rattle.penalty.proofs.HeldLaws.{day_zero, day_held}
use Rattle.history.specs.Phase.{Phase, Call, Answer, End, refusal, refused, ended, in_turn}
use Rattle.history.specs.Record.{Record, record_of, fresh}
use Rattle.history.specs.Session.{Operation, Answered, Session, begun, known, act, answers, session}
use Rattle.refusals.specs.declared.Refusal.{Refusal}
use Rattle.refusals.specs.Refusals.{first, unless}
use Rattle.refusals.specs.Questions as question
use Rattle.history.specs.History.{History, in_use, penalty}
use Rattle.history.specs.Claim.{Made, refuses, goes, keeps, keeps_not, returns, returns_not, Turns, done, turn, Demand3, Without, or_ten, turned_away, AllRefused, Refusing}
use Rattle.removals.specs.Removals.{pattern_of}
use Rattle.search.specs.Stored.{all_zero, store, advance_stored, Sized}
use Rattle.search.specs.declared.Record.{Record as Stored}
use Rattle.history.proofs.Lawful.{Lawful}
use Rattle.history.proofs.FitLaws.{Fit, fit_fresh, fit_own}
use Rattle.history.proofs.SessionLaws.{Every, every_begun}
use Rattle.history.proofs.DemandLaws.{demand3_of}
use Rattle.history.proofs.TurnLaws.{went_fit}
use Rattle.history.proofs.WithoutLaws.{all_refused}
use Rattle.search.proofs.Fits.{Fits}
use Rattle.search.proofs.StoredLaws.{store_fresh}
use Rattle.search.proofs.SizedLaws.{fresh_sized, advanced_sized}
use Rattle.search.proofs.AdvanceLaws.{stored_without, session_stored}
use Rattle.keeping.specs.Storage.{has_room}
use Rattle.keeping.specs.Operations.{perform, held as held_by}
use Rattle.keeping.proofs.OperationLaws.{performed}
use Rattle.refusals.proofs.OrderLaws.{first_none, unless_none}
use Rattle.letters.specs.Letters.{misplaced}
use Rattle.rostercheck.specs.CodeCheck.{holds}
use Rattle.rostercheck.proofs.GivenLaws.{duty_alike, members_alike, Patterns, placed_all, given_at_zero}
use Rattle.phases.specs.Phases.{night_phase, nights_open, lists_fit, day_list_over, day_patterns_over, day_phase, night_of}
use Rattle.planner.specs.Advances.{advance_over, advance_nights, advance_days}
use Rattle.outcomes.specs.declared.Verdict.TheVariants.{Passed}
use Rattle.planner.specs.Answers.{check_letters, check_over, check_says}
use Rattle.planner.specs.Demand3.{NightPatterns, DayPatterns, Rightly, Settled, UnlessRefused, Each, DayDemand, start_of, image_of, Demanded}
use Rattle.phases.proofs.PhaseLaws.{night_fits, night_lawful, day_fits, day_lawful}

-- ---- what is kept passes the test

filtered_front : (t : ℕ → Bool) (y x : ℕ) (rest : List ℕ) (b : Bool) → t y ≡ b → (Memᴰ x rest → t x ≡ true) → Memᴰ x (cond b (y ∷ rest) rest) → t x ≡ true
filtered_front t y x rest true e f m = ⊎_elim (λ q. ap t q ∙ e) f (Memᴰ.cases_cons m)
filtered_front t y x rest false e f m = f m

pub member_filtered : (t : ℕ → Bool) (xs : List ℕ) (x : ℕ) → Memᴰ x (filter t xs) → t x ≡ true
unfolding filter
member_filtered t [] x m = absurd (Memᴰ.not-nil m)
member_filtered t (y ∷ ys) x m = filtered_front t y x (filter t ys) (t y) refl (λ r. member_filtered t ys x r) m

-- ---- the roster

placed_as : (s : Slot) → is_none s ≡ false → s ≡ some (pattern_of s)
placed_as none e = absurd (true≢false e)
placed_as (some p) e = refl

-- a pattern with no pair is in a list with no pairs where its days are
member_days : (xs : List ℕ) (p : ℕ) → Memᴰ p (map unpaired xs) → Memᴰ (days_of p) xs
member_days [] p m = absurd (Memᴰ.not-nil m)
member_days (x ∷ xs) p (Memᴰ.head e) = Memᴰ.head (ap days_of e ∙ days_of_pattern x 0 (omega arith))
member_days (x ∷ xs) p (Memᴰ.tail m) = Memᴰ.tail (member_days xs p m)

module _ (w : List ℕ) (nights : ℕ → ℕ) where
  pub nights_open_lem : (c : Call) (steps : ℕ) → refusal (day_phase w nights) c steps ≡ none → nights_open w nights ≡ true
  unfolding refusal day_phase
  nights_open_lem c steps e =
      let eight = unless (nights_open w nights) question.nights 0 in
      let nine = lists_fit (day_list_over w nights) (nurses w) c.places in
      let seven = unless (leb c.steps 10000 && leb (steps + c.steps) 1000000) question.steps 0 in
      unless_none (nights_open w nights) question.nights 0 (first_none eight nine (first_none seven (first eight nine) e).1).0

  settled : nights_open w nights ≡ true → Settled w nights
  unfolding nights_open
  settled o =
      let parts = and_parts (all (λ i. own_pattern w i (nights i)) (up_from 0 (nurses w))) (eqb (night_penalty w (λ i. some (nights i))) 0) o in
      record { hers = λ i l. all_each (λ j. own_pattern w j (nights j)) (nurses w) i parts.0 l; at_zero = eqb-true _ 0 parts.1 }

  pub each_settled : {room : Bool} {ops : List Operation} {l : List Answered} {s s'' : Session History} → Turns (day_phase w nights) room ops l s s'' → Each (UnlessRefused (Settled w nights)) l
  each_settled done = tt
  each_settled (turn (refuses e) ts) = (tt, each_settled ts)
  each_settled (turn (goes {c = c} e m) ts) = (settled (nights_open_lem c _ e), each_settled ts)
  each_settled (turn (keeps e own others) ts) = each_settled ts
  each_settled (turn (keeps_not e) ts) = each_settled ts
  each_settled (turn (returns e q) ts) = each_settled ts
  each_settled (turn (returns_not e) ts) = each_settled ts

  module _ (a : Accepted w) where
    -- everyone's slot at penalty zero is placed, so the penalty is that of the patterns alone
    module _ (slots : ℕ → Slot) (zero_is : day_penalty w slots ≡ 0) where
      held : DayHeld w slots
      held = day_zero w slots a zero_is

      abbrev patterns : ℕ → ℕ
      patterns i = pattern_of (slots i)

      placed : (i : ℕ) → i < nurses w → slots i ≡ some (patterns i)
      placed i l = placed_as (slots i) (held.placed i l)

      alike : (d i : ℕ) → i < nurses w → at_day w (placed_all patterns) d i ≡ at_day w slots d i
      alike d i l = ap (λ (s : Slot). has (days_of (worked_in w i s)) d) (sym (placed i l))

      held_alike : DayHeld w (placed_all patterns)
      held_alike = record {
        worked = λ d l. record {
          need_held = rw (duty_alike w (at_day w (placed_all patterns) d) (at_day w slots d) (alike d)) (held.worked d l).need_held;
          low_held = λ g m. rw (members_alike w (at_day w (placed_all patterns) d) (at_day w slots d) (alike d) g) ((held.worked d l).low_held g m);
        };
        highs = λ d l g m. rw (members_alike w (at_day w (placed_all patterns) d) (at_day w slots d) (alike d) g) (held.highs d l g m);
        placed = λ i l. refl;
      }

      penalty_alike : day_penalty w (placed_all patterns) ≡ 0
      penalty_alike = day_held w (placed_all patterns) held_alike

    -- letters to which the check says yes
    abbrev YesTo : List ℕ → Type 0
    YesTo l = (misplaced (nurses w * days w) l ≡ none) × (holds w l ≡ true)

    -- slots at penalty zero that hold patterns of hers, over nights that question 8 lets through
    pub yes_at_zero : (slots : ℕ → Slot) → nights_open w nights ≡ true → day_penalty w slots ≡ 0
        → ((i p : ℕ) → slots i ≡ some p → Memᴰ p (day_patterns_over w nights i)) → YesTo ((day_phase w nights).letters slots)
    unfolding day_phase nights_open day_list
    yes_at_zero slots o z own =
        let parts = and_parts (all (λ i. own_pattern w i (nights i)) (up_from 0 (nurses w))) (eqb (night_penalty w (λ i. some (nights i))) 0) o in
        let all_hers : Patterns w nights (patterns slots z) = record {
          nights_hers = λ i l. all_each (λ j. own_pattern w j (nights j)) (nurses w) i parts.0 l;
          days_hers = λ i l.
              member_filtered (day_rule_of w i (nights i)) _ (days_of (patterns slots z i)) (member_days (day_list_over w nights i) (patterns slots z i) (own i (patterns slots z i) (placed slots z i l)));
        } in
        let g = given_at_zero w nights (patterns slots z) a all_hers (eqb-true _ 0 parts.1) (penalty_alike slots z) in
        (g.placed, g.yes_said)

    module _ (file : List ℕ) (reads : (l : List ℕ) → check_says file l ≡ check_letters w l) where
      check_yes : (l : List ℕ) → YesTo l → check_says file l ≡ Ok Passed
      unfolding check_over check_letters
      check_yes l y = reads l ∙ rw (y.0, check_letters, y.1)

      -- one advance that is not refused
      right_made : {c : Call} {e : End} {n p : ℕ} {h h' : History} {l : List ℕ} → nights_open w nights ≡ true → Fit (day_phase w nights) h' → Made (day_phase w nights) c h h' e n p l
          → Rightly file (ended e n p l)
      unfolding penalty day_phase
      right_made {h' = h'} {l = l} o f m = (
        λ z.
            let y = yes_at_zero (in_use h') o (sym m.after ∙ z) (fit_own (day_phase w nights) h' f) in
            check_yes l (subst YesTo (sym (m.letters.0 z)) y),
        m.letters.1,
      )

      each_right : {room : Bool} {ops : List Operation} {l : List Answered} {s s'' : Session History} → Every (Fit (day_phase w nights)) s
          → Turns (day_phase w nights) room ops l s s'' → Each (Rightly file) l
      each_right each done = tt
      each_right each (turn (refuses e) ts) = (tt, each_right each ts)
      each_right {room = room} each (turn (goes {c = c} e m) ts) =
          let after = went_fit (day_phase w nights) {room = room} each (goes e m) in
          (right_made (nights_open_lem c _ e) after.in_hand m, each_right after ts)
      each_right {room = room} each (turn (keeps e own others) ts) = each_right (went_fit (day_phase w nights) {room = room} each (keeps e own others)) ts
      each_right each (turn (keeps_not e) ts) = each_right each ts
      each_right {room = room} each (turn (returns e q) ts) = each_right (went_fit (day_phase w nights) {room = room} each (returns e q)) ts
      each_right each (turn (returns_not e) ts) = each_right each ts

-- ---- demand 3

-- an advance over a file that reads as ws is the search's over the ward's body
pub advance_read : (phase : List ℕ → Phase) (file ws : List ℕ) → read_ward file ≡ good ws → (λ c r. advance_over phase (read_ward file) c r) ≡ advance_stored (phase (body_of ws))
unfolding advance_over
advance_read phase file ws e = ap (advance_over phase) e

-- and so is the check
check_read : (file ws l : List ℕ) → read_ward file ≡ good ws → check_says file l ≡ check_letters (body_of ws) l
unfolding check_over
check_read file ws l e = ap (λ (x : Read). check_over x l) e

-- one advance where a nurse has no pattern
pub advance_without : (phase : List ℕ → Phase) (file ws : List ℕ) → read_ward file ≡ good ws → (i : ℕ) → Without (phase (body_of ws)) i → (c : Call)
    → advance_over phase (read_ward file) c all_zero ≡ (refused (or_ten i (refusal (phase (body_of ws)) c 0)), all_zero)
advance_without phase file ws reads i h c =
    ap (λ (adv : Call → Stored → Answer × Stored). adv c all_zero) (advance_read phase file ws reads) ∙ stored_without (phase (body_of ws)) c all_zero i h

-- a file that is not read
pub advance_unread : (phase : List ℕ → Phase) (file : List ℕ) (n : Refusal) (c : Call) (r : Stored) → read_ward file ≡ bad n
    → advance_over phase (read_ward file) c r ≡ (refused n, r)
unfolding advance_over
advance_unread phase file n c r e = rw e

-- a search over the file, in memory with so many words of storage: `phase` is the phase of a ward
module _ (phase : List ℕ → Phase) (file : List ℕ) (words : ℕ) where
  abbrev adv : Call → Stored → Answer × Stored
  adv = advance_over phase (read_ward file)

  -- its operations are those of the session, and so is the memory
  through : ((c : Call) (r : Stored) → Sized r → Sized (adv c r).1) → (ops : List Operation) (l : List Answered) (s : Session Record)
      → in_turn (act adv (has_room words)) ops (begun all_zero) ≡ (l, known store s) → in_turn (perform adv) ops (start_of words) ≡ (l, image_of words s)
  through sized ops l s e = performed adv words sized all_zero fresh_sized ops ∙ ap (λ (x : List Answered × Session Stored). (x.0, held_by words x.1)) e

  -- where every advance from fresh is refused
  away : ((c : Call) (r : Stored) → Sized r → Sized (adv c r).1) → (why : Call → Refusal) → ((c : Call) → adv c all_zero ≡ (refused (why c), all_zero))
      → (ops : List Operation) → AllRefused (has_room words) (start_of words) (perform adv) (image_of words) why ops
  away sized why one ops =
      let r = in_turn (act (turned_away why) (has_room words)) ops (begun fresh) in
      through sized ops r.0 r.1
      (ap (λ (r : Stored). in_turn (act adv (has_room words)) ops (begun r)) (sym store_fresh)
      ∙ all_refused (has_room words) adv store why (λ c. subst (λ (r : Stored). adv c r ≡ (refused (why c), r)) (sym store_fresh) (one c)) ops)

  module _ (ws : List ℕ) (reads : read_ward file ≡ good ws) (fits : Fits (phase (body_of ws))) where
    abbrev searched : Phase
    searched = phase (body_of ws)

    pub read_sized : (c : Call) (r : Stored) → Sized r → Sized (adv c r).1
    read_sized c r z = subst (λ (f : Call → Stored → Answer × Stored). Sized (f c r).1) (sym (advance_read phase file ws reads)) (advanced_sized searched fits c r z)

    demanded : Lawful searched → (ops : List Operation) → Demand3 searched (has_room words) (start_of words) (perform adv) (image_of words) ops
    demanded lawful ops =
        demand3_of searched lawful (has_room words) (start_of words) (perform adv) (image_of words) ops
        (through read_sized ops (answers searched (has_room words) ops) (known (record_of searched) (session searched (has_room words) ops))
        (ap (λ (f : Call → Stored → Answer × Stored). in_turn (act f (has_room words)) ops (begun all_zero)) (advance_read phase file ws reads)
        ∙ session_stored searched lawful fits (has_room words) ops))

    without : Refusing searched (has_room words) (start_of words) (perform adv) (image_of words)
    without i h = away read_sized (λ c. or_ten i (refusal searched c 0)) (advance_without phase file ws reads i h)

  pub unread_sized : (n : Refusal) → read_ward file ≡ bad n → (c : Call) (r : Stored) → Sized r → Sized (adv c r).1
  unread_sized n e c r z = subst (λ (x : Answer × Stored). Sized x.1) (sym (advance_unread phase file n c r e)) z

  unread_away : (n : Refusal) → read_ward file ≡ bad n → (ops : List Operation) → AllRefused (has_room words) (start_of words) (perform adv) (image_of words) (λ c. n) ops
  unread_away n e = away (unread_sized n e) (λ c. n) (λ c. advance_unread phase file n c all_zero e)

module _ (file ws : List ℕ) (reads : read_ward file ≡ good ws) (a : Accepted (body_of ws)) (words : ℕ) where
  abbrev w : List ℕ
  w = body_of ws

  night_demand : NightPatterns w → (ops : List Operation) → Demand3 (night_phase w) (has_room words) (start_of words) (perform (advance_nights file)) (image_of words) ops
  night_demand has = demanded night_phase file words ws reads (night_fits w a) (night_lawful w a has)

  day_demand : (nights : List ℕ) → DayPatterns w (night_of nights) → (ops : List Operation)
      → DayDemand file w nights (has_room words) (start_of words) (perform (advance_days file nights)) (image_of words) ops
  day_demand nights has ops =
      let P = day_phase w (night_of nights) in
      let d = demanded (λ v. day_phase v (night_of nights)) file words ws reads (day_fits w (night_of nights) a) (day_lawful w (night_of nights) a has) ops in
      record {
        claim = d;
        rosters = rw d.follows (each_right w (night_of nights) a file (λ l. check_read file ws l reads) (every_begun (Fit P) [] (fit_fresh P)) d.each);
        settled = rw d.follows (each_settled w (night_of nights) d.each);
      }

pub demand : Demanded
demand = record {
  accepted = λ file ws bytes e words.
      let a = read_accepted file ws bytes e in
      record {
        nights = night_demand file ws e a words;
        no_nights = without night_phase file words ws e (night_fits (body_of ws) a);
        days = day_demand file ws e a words;
        no_days = λ nights. without (λ v. day_phase v (night_of nights)) file words ws e (day_fits (body_of ws) (night_of nights) a);
      };
  unread = λ file n e words. record {
    nights = unread_away night_phase file words n e;
    days = λ nights. unread_away (λ v. day_phase v (night_of nights)) file words n e;
  };
}
