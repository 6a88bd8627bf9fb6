-- Laws of the night advance: its questions in order, its list in the buffer, and what it hands back.
use Rattle.std.specs.Prelude.{ℕ, ◌+◌, ◌-◌, ◌^◌, ◌≤◌, min, Bool, true, false, cond, ◌&&◌, ◌≡◌, refl, List, [], ◌++◌, leb, eqb, length, take}
use Rattle.std.proofs.Common.{sym, ap, ◌∙◌, arith, le-leb, leb-true, leb-false}
use Rattle.std.proofs.lemmas.Bool.{lt-leb, and_parts}
use Rattle.std.proofs.Math.Option.{Option}
use Rattle.numbers.specs.Range.{up_from}
use Rattle.refusals.specs.declared.Refusal.{Refusal}
use Rattle.refusals.specs.Refusals.{refusal_in, unless, first}
use Rattle.std.specs.declared.result.Result.{Result}
use Rattle.std.specs.declared.result.Result.TheVariants.{Ok}
use Rattle.outcomes.proofs.OutcomeLaws.{list_front}
use Rattle.refusals.specs.Questions as question
use Rattle.refusals.proofs.OrderLaws.{first_assoc, first_none, unless_none}
use Rattle.fields.specs.Fields.{Accepted, nurses}
use Rattle.nights.specs.Nights.{common_of}
use Rattle.nights.specs.Own.{pattern_list}
use Rattle.nights.proofs.OwnLaws.{own_of_common}
use Rattle.nightlists.proofs.CommonLaws.{common_short}
use Rattle.history.specs.declared.Search.TheVariants.{Nights as NightSearch}
use Rattle.history.specs.Phase.{refusal}
use Rattle.history.proofs.SearchLaws.{nights≢days}
use Rattle.history.specs.Record.{lacking}
use Rattle.search.specs.declared.Record.{Record as Stored}
use Rattle.search.specs.declared.Advanced.{Advanced}
use Rattle.search.specs.Stored.{refusal_stored, sound_stored}
use Rattle.search.specs.CodeSeek.{answer_of, Lists, Seeks}
use Rattle.phases.specs.Phases.{night_phase, common_fits}
use Rattle.search.specs.declared.Searched.TheVariants.{Nights}
use Rattle.phases.specs.CodeQuestions.{phase_of}
use Rattle.outcomes.specs.Outcomes.{letters_of, call_of}
use Rattle.phases.proofs.PhaseLaws.{night_ascending}

-- ---- the questions

-- 9, by the list counted to one more than the places
pub common_asked_lem : (w : List ℕ) (places : ℕ) {need cap : ℕ} → Accepted w → cap ≡ min (places + 1) (2 ^ 64 - 1) → need ≡ min cap (length (common_of w)) → unless (leb need places) question.lists 0 ≡ common_fits w places
unfolding common_fits
common_asked_lem w places {need} {cap} a c q = go (leb (length (common_of w)) places) refl
  where
    go : (b : Bool) → leb (length (common_of w)) places ≡ b → unless (leb need places) question.lists 0 ≡ unless (leb (length (common_of w)) places) question.lists 0
    go true e = rw (e, le-leb need places (omega (arith, leb-true (length (common_of w)) places e)))
    go false e = rw (e, lt-leb need places (omega (arith, common_short w a, leb-false (length (common_of w)) places e)))

-- all of them, in order
module _ (w : List ℕ) (r : Stored) (k places : ℕ) where
  abbrev asks_steps : Option Refusal
  asks_steps = unless (leb k 10000 && leb (r.steps + k) 1000000) question.steps 0

  abbrev asks_patterns : Option Refusal
  asks_patterns = lacking (pattern_list w) (up_from 0 (nurses w))

  abbrev asks_record : Option Refusal
  asks_record = unless (sound_stored (phase_of Nights w) r) question.record_sound 0

  pub in_order : (past_zero : Bool) → first asks_steps (first (common_fits w places) (first asks_patterns asks_record)) ≡ refusal_stored (night_phase w) (call_of k past_zero places) r
  unfolding refusal_stored refusal night_phase phase_of
  in_order past_zero = sym (first_assoc asks_steps (common_fits w places) (first asks_patterns asks_record))

-- ---- an advance that no question refuses

pub record Clear (w : List ℕ) (r : Stored) (k places : ℕ) : Type 0 where
  steps_fit : r.steps + k ≤ 1000000
  pub room : length (common_of w) ≤ places
  sound : sound_stored (night_phase w) r ≡ true

pub clear : (w : List ℕ) (r : Stored) (k places : ℕ) (past_zero : Bool) {a : Result (Unit {0}) Refusal} {u : Unit {0}} → refusal_in a ≡ refusal_stored (night_phase w) (call_of k past_zero places) r → a ≡ Ok u → Clear w r k places
unfolding refusal_stored refusal night_phase common_fits
clear w r k places past_zero asked went =
    let a = first_none (refusal (night_phase w) (call_of k past_zero places) r.steps) _ (sym asked ∙ ap refusal_in went) in
    let b = first_none (unless (leb k 10000 && leb (r.steps + k) 1000000) question.steps 0) (unless (leb (length (common_of w)) places) question.lists 0) a.0 in
    let c = first_none (lacking (night_phase w).patterns (up_from 0 (night_phase w).nurses)) _ a.1 in
    let s = and_parts (leb k 10000) (leb (r.steps + k) 1000000) (unless_none _ question.steps 0 b.0) in
    record {
      steps_fit = leb-true _ _ s.1;
      room = leb-true _ _ (unless_none _ question.lists 0 b.1);
      sound = unless_none _ question.record_sound 0 c.1;
    }

-- by night no letters are given out
no_letters : (b : Bool) → [] ≡ cond {A = List ℕ} b [] []
no_letters true = refl
no_letters false = refl

pub night_letters : (w : List ℕ) (x : Advanced) → [] ≡ letters_of (answer_of (night_phase w) x)
unfolding night_phase
night_letters w x = no_letters (eqb x.penalty 0)

-- the common list in the buffer, as the search over it needs it
module _ (w ends : List ℕ) {lists : List ℕ} (e : lists ≡ common_of w) where
  night_lists : Lists NightSearch w lists ends
  night_lists = record { common_list = λ q. e; begins = λ q. absurd (nights≢days q); finishes = λ q. absurd (nights≢days q) }

  night_seeks : Accepted w → Seeks NightSearch w lists ends (night_phase w)
  unfolding night_phase
  night_seeks a = record {
    nurses_are = refl;
    tabu_is = refl;
    cost_is = λ slots. refl;
    patterns_are = λ i h. rw e (own_of_common w i (omega (arith, a.pairs_most)));
    ascending = night_ascending w a;
  }

-- what the search needs of the call, and of the list where the code finds it
pub record Ready (w : List ℕ) (r : Stored) (k : ℕ) (lists ends : List ℕ) : Type 0 where
  pub steps_fit : r.steps + k ≤ 1000000
  pub sound : sound_stored (night_phase w) r ≡ true
  pub lists_are : Lists NightSearch w lists ends
  pub seeks : Seeks NightSearch w lists ends (night_phase w)

pub ready : (w : List ℕ) (r : Stored) (k places : ℕ) (past_zero : Bool) (ends rest : List ℕ) {a : Result (Unit {0}) Refusal} {u : Unit {0}} {buf : List ℕ} {n : ℕ} → Accepted w
    → refusal_in a ≡ refusal_stored (night_phase w) (call_of k past_zero places) r → a ≡ Ok u → n ≡ length (common_of w) → buf ≡ common_of w ++ rest → Ready w r k (take n buf) ends
ready w r k places past_zero ends rest acc asked went e q =
    let ok = clear w r k places past_zero asked went in
    let front = list_front (common_of w) rest q e in
    record { steps_fit = ok.steps_fit; sound = ok.sound; lists_are = night_lists w ends front; seeks = night_seeks w ends front acc }
