-- Demand 3 holds through the C interface: a record kept as words goes alike.
use Rattle.std.specs.Prelude.{ℕ, ◌≡◌, refl, Bool, true, false, cond, List, replicate}
use Rattle.std.proofs.Common.{sym, ap, ◌∙◌, subst}
use Rattle.std.proofs.Math.Option.{Option, none, some}
use Rattle.numbers.specs.Patterns.{days_of, pair_of}
use Rattle.fields.specs.Fields.{body_of}
use Rattle.layout.specs.Grammar.{Read, good, bad}
use Rattle.ward.specs.Answers.{read_ward}
use Rattle.ward.proofs.ReadingLaws.{read_accepted}
use Rattle.history.specs.Phase.{Phase, Call, Answer, in_turn}
use Rattle.refusals.specs.declared.Refusal.{Refusal}
use Rattle.history.specs.Record.{reply_of}
use Rattle.history.specs.Session.{Operation, operation_advance, operation_keep, operation_return, Answered, advanced, stored}
use Rattle.history.proofs.SessionLaws.{in_turn_alike}
use Rattle.search.specs.Stored.{all_zero, refusal_stored, reply_stored, advance_stored, Sized}
use Rattle.search.specs.declared.Record.{Record as Stored}
use Rattle.search.proofs.AdvanceLaws.{stored_refused, stored_goes}
use Rattle.search.proofs.SizedLaws.{fresh_sized}
use Rattle.keeping.specs.Storage.{may_return, kept_in, record_at, return_no, keep_no}
use Rattle.keeping.proofs.EntryLaws.{returned_as}
use Rattle.keeping.specs.Operations.{perform}
use Rattle.keeping.proofs.AssuranceLaws.{return_sized}
use Rattle.phases.specs.Phases.{night_phase, day_phase, night_of}
use Rattle.phases.proofs.PhaseLaws.{night_fits, day_fits}
use Rattle.planner.specs.Advances.{advance_over, advance_days}
use Rattle.planner.specs.Demand3.{Rightly, Settled, UnlessRefused, Each, start_of}
use Rattle.planner.proofs.DemandLaws.{read_sized, unread_sized, demand}
use Rattle.recordwords.specs.Words.{record_words, words_of_record}
use Rattle.recordwords.proofs.BackLaws.{read_back}
use Rattle.pantheryl.specs.Answers.{words_left, returned_words}
use Rattle.pantheryl.specs.Demand3.{by_words, perform_words, as_words, WordsDemanded}

-- ---- the words that an advance leaves are those of the record that it hands back

module _ (P : Phase) where
  reply_left : (past_zero : Bool) (k : ℕ) (r : Stored) (before : List ℕ) → words_left (reply_stored P past_zero k r) before ≡ words_of_record (reply_stored P past_zero k r).1
  unfolding reply_stored reply_of words_left
  reply_left past_zero k r before = refl

  stored_left : (c : Call) (r : Stored) → words_left (advance_stored P c r) (words_of_record r) ≡ words_of_record (advance_stored P c r).1
  unfolding words_left
  stored_left c r = go (refusal_stored P c r) refl
    where
      go : (o : Option Refusal) → refusal_stored P c r ≡ o → words_left (advance_stored P c r) (words_of_record r) ≡ words_of_record (advance_stored P c r).1
      go none e = rw (stored_goes P c r e) (reply_left c.past_zero c.steps r (words_of_record r))
      go (some n) e = rw (stored_refused P c r n e)

words_left_lem : (phase : List ℕ → Phase) (read : Read) (c : Call) (r : Stored)
    → words_left (advance_over phase read c r) (words_of_record r) ≡ words_of_record (advance_over phase read c r).1
unfolding advance_over words_left
words_left_lem phase (bad n) c r = refl
words_left_lem phase (good ws) c r = stored_left (phase (body_of ws)) c r

-- ---- one operation

cond_words : (b : Bool) (r s : Stored) → cond b (words_of_record r) (words_of_record s) ≡ words_of_record (cond b r s)
cond_words true r s = refl
cond_words false r s = refl

module _ (phase : List ℕ → Phase) (file : List ℕ) (sized : (c : Call) (r : Stored) → Sized r → Sized (advance_over phase (read_ward file) c r).1) where
  abbrev adv : Call → Stored → Answer × Stored
  adv = advance_over phase (read_ward file)

  by_advance : (c : Call) (r : Stored) → Sized r → by_words adv c (words_of_record r) ≡ ((adv c r).0, words_of_record (adv c r).1)
  by_advance c r z =
      ap (λ (x : Stored). ((adv c x).0, words_left (adv c x) (words_of_record r))) (read_back.same r z)
      ∙ ap (λ (l : List ℕ). ((adv c r).0, l)) (words_left_lem phase (read_ward file) c r)

  abbrev InHandSized : Stored × List ℕ → Type 0
  InHandSized m = Sized m.0

  one : (o : Operation) (m : Stored × List ℕ) → InHandSized m → perform_words adv o (as_words m) ≡ ((perform adv o m).0, as_words (perform adv o m).1)
  unfolding perform_words perform returned_words
  one (operation_advance c) (r, storage) z = ap (λ (x : Answer × List ℕ). (advanced x.0, (x.1, storage))) (by_advance c r z)
  one (operation_keep n) (r, storage) z = ap (λ (x : Stored). (stored (keep_no storage n), (words_of_record r, kept_in storage n x))) (read_back.same r z)
  one (operation_return n) (r, storage) z = ap (λ (l : List ℕ). (stored (return_no storage n), (l, storage))) (cond_words (may_return storage n) (record_at storage n) r ∙ ap words_of_record (sym (returned_as storage n r)))

  keeps : (o : Operation) (m : Stored × List ℕ) → InHandSized m → InHandSized (perform adv o m).1
  unfolding perform
  keeps (operation_advance c) (r, storage) z = sized c r z
  keeps (operation_keep n) (r, storage) z = z
  keeps (operation_return n) (r, storage) z = return_sized storage n r z

  -- ---- a list of them, from fresh

  fresh_words : words_of_record all_zero ≡ replicate record_words 0
  unfolding words_of_record days_of pair_of
  fresh_words = refl

  by_words_lem : (size : ℕ) (ops : List Operation)
      → in_turn (perform_words adv) ops (replicate record_words 0, replicate size 0) ≡ ((in_turn (perform adv) ops (start_of size)).0, as_words (in_turn (perform adv) ops (start_of size)).1)
  by_words_lem size ops =
      ap (λ (l : List ℕ). in_turn (perform_words adv) ops (l, replicate size 0)) (sym fresh_words)
      ∙ in_turn_alike (perform adv) (perform_words adv) as_words InHandSized keeps one ops (start_of size) fresh_sized

  pub words_follow : (size : ℕ) (ops : List Operation) {l : List Answered} {m : Stored × List ℕ} → in_turn (perform adv) ops (start_of size) ≡ (l, m)
      → in_turn (perform_words adv) ops (replicate record_words 0, replicate size 0) ≡ (l, as_words m)
  words_follow size ops e = by_words_lem size ops ∙ ap (λ (x : List Answered × (Stored × List ℕ)). (x.0, as_words x.1)) e

  pub same_answers : (size : ℕ) (ops : List Operation)
      → (in_turn (perform adv) ops (start_of size)).0 ≡ (in_turn (perform_words adv) ops (replicate record_words 0, replicate size 0)).0
  same_answers size ops = sym (ap (λ (x : List Answered × (List ℕ × List ℕ)). x.0) (by_words_lem size ops))

pub words_demand : WordsDemanded
words_demand = record {
  accepted = λ file ws bytes e size.
      let w = body_of ws in
      let a = read_accepted file ws bytes e in
      let d = demand.accepted file ws bytes e size in
      let by_night = read_sized night_phase file size ws e (night_fits w a) in
      let by_day : (nights : List ℕ) (c : Call) (r : Stored) → Sized r → Sized (advance_days file nights c r).1 = λ nights. read_sized (λ v. day_phase v (night_of nights)) file size ws e (day_fits w (night_of nights) a) in
      record {
        nights = λ has ops.
            let b = d.nights has ops in
            record { follows = words_follow night_phase file by_night size ops b.follows; each = b.each; steps = b.steps; placed = b.placed };
        no_nights = λ i h ops. words_follow night_phase file by_night size ops (d.no_nights i h ops);
        days = λ nights has ops.
            let b = d.days nights has ops in
            let c = b.claim in
            let same = same_answers (λ v. day_phase v (night_of nights)) file (by_day nights) size ops in
            record {
              claim = record { follows = words_follow (λ v. day_phase v (night_of nights)) file (by_day nights) size ops c.follows; each = c.each; steps = c.steps; placed = c.placed };
              rosters = subst (Each (Rightly file)) same b.rosters;
              settled = subst (Each (UnlessRefused (Settled w (night_of nights)))) same b.settled;
            };
        no_days = λ nights i h ops. words_follow (λ v. day_phase v (night_of nights)) file (by_day nights) size ops (d.no_days nights i h ops);
      };
  unread = λ file n e size.
      let d = demand.unread file n e size in
      record {
        nights = λ ops. words_follow night_phase file (unread_sized night_phase file size n e) size ops (d.nights ops);
        days = λ nights ops. words_follow (λ v. day_phase v (night_of nights)) file (unread_sized (λ v. day_phase v (night_of nights)) file size n e) size ops (d.days nights ops);
      };
}
