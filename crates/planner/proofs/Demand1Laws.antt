-- Demand 1: each call refuses exactly by its first fault.
use Rattle.std.specs.Prelude.{ℕ, ◌+◌, ◌*◌, ◌≤◌, ◌<◌, ◌≡◌, refl, Bool, true, false, ◌&&◌, ◌≢◌, ◌↔◌, ◌⊎◌, List, leb, ltb, eqb, length}
use Rattle.std.proofs.Common.{sym, ap, ap₂, ◌∙◌, subst, true≢false, inl, inr, leb-false, eqb-true, ltb-true, lt-ltb}
use Rattle.std.proofs.lemmas.Bool.{lt-leb, eqb-false, and_parts, false_from_ne_true}
use Rattle.std.proofs.Math.Option.{Option, none, some, none-ne-some, some-injective}
use Rattle.std.specs.declared.result.Result.TheVariants.{Err}
use Rattle.numbers.specs.Range.{up_from, all}
use Rattle.numbers.proofs.AllLaws.{all_stop, all_fails}
use Rattle.fields.specs.Fields.{Accepted, body_of, nurses, days}
use Rattle.layout.specs.Grammar.{Read, good, bad, bytes_of}
use Rattle.layout.specs.Layout.{ward}
use Rattle.layout.specs.Faults.{FileFault, ListFault}
use Rattle.layout.proofs.LongestLaws.{longest_file, longest_there}
use Rattle.ward.specs.Answers.{read_ward, reading_of, counted, check_ward, writing_of, left_of}
use Rattle.ward.specs.declared.Ward.{Ward}
use Rattle.codec.proofs.NumberLaws.{all_bytes}
use Rattle.ward.proofs.FaultLaws.{file_fault, fault_file, file_good, good_file, list_fault, fault_list, list_good, good_list, good_accepted}
use Rattle.nights.specs.Nights.{common_of}
use Rattle.nights.specs.Own.{own_pattern}
use Rattle.nights.specs.NightRule.{PatternHers}
use Rattle.nights.proofs.PairRuleLaws.{pattern_rule}
use Rattle.penalty.specs.Penalty.{night_penalty}
use Rattle.letters.specs.Letters.{misplaced}
use Rattle.history.specs.Phase.{Phase, Call, Answer, refused, ended, refusal}
use Rattle.refusals.proofs.OrderLaws.{first_last}
use Rattle.refusals.specs.declared.Refusal.{Refusal}
use Rattle.refusals.specs.Refusals.{numbered, first, unless}
use Rattle.refusals.specs.Questions as question
use Rattle.history.specs.Record.{lacking, reply_of}
use Rattle.history.specs.Questions.{Questions, end, ask, FirstNo}
use Rattle.history.proofs.TestLaws.{false_when}
use Rattle.history.proofs.FirstLaws.{Answers, AnswersAll, none_answers, first_answers, assoc_answers, unless_answers, lacking_answers}
use Rattle.search.specs.Stored.{sound_stored, refusal_stored, advance_stored, reply_stored, Sized}
use Rattle.search.proofs.Fits.{Fits}
use Rattle.search.specs.declared.Record.{Record as Stored}
use Rattle.search.proofs.SoundLaws.{sound_when}
use Rattle.search.proofs.AdvanceLaws.{stored_refused, stored_goes}
use Rattle.phases.specs.Phases.{night_phase, day_phase, nights_open, common_fits, lists_fit, day_list_over, night_of}
use Rattle.outcomes.specs.Outcomes.{advance_of, left_by, call_of}
use Rattle.phases.proofs.FitLaws.{over_answers}
use Rattle.phases.proofs.PhaseLaws.{night_fits, day_fits}
use Rattle.planner.specs.Advances.{advance_over, advance_nights, advance_days}
use Rattle.planner.specs.Answers.{check_letters, check_over, check_says}
use Rattle.planner.specs.Left.{list_of, night_left, lists_of, day_left}
use Rattle.planner.specs.Faults.{StepsFault, NightsFault, CommonFault, ListsFault, PatternFault, RecordFault, LettersFault, night_questions, day_questions, check_questions, FileNo, in_file, in_call, WriterNo, in_numbers, in_buffer}
use Rattle.planner.specs.Demand1.{Refuses, Bytes, no_in_result, no_in_handed, handed_by, ReadRefuses, WriteRefuses, NightsRefuse, DaysRefuse, CheckRefuses, Demand1}
use Rattle.planner.proofs.LetterFaultLaws.{misplaced_fault, fault_misplaced}
use Rattle.planner.proofs.KeepFaultLaws.{keep_refuses, return_refuses}

-- ---- each question of an advance

steps_when : (steps k : ℕ) → ((leb k 10000 && leb (steps + k) 1000000) ≡ false) ↔ ((10000 < k) ⊎ (1000000 < steps + k))
steps_when steps k = (λ e. forth (leb k 10000) refl e, back)
  where
    forth : (b : Bool) → leb k 10000 ≡ b → (b && leb (steps + k) 1000000) ≡ false → (10000 < k) ⊎ (1000000 < steps + k)
    forth true q e = inr (leb-false _ _ e)
    forth false q e = inl (leb-false _ _ q)

    back : (10000 < k) ⊎ (1000000 < steps + k) → (leb k 10000 && leb (steps + k) 1000000) ≡ false
    back (inl l) = rw (lt-leb k 10000 l)
    back (inr l) = false_from_ne_true (leb k 10000 && leb (steps + k) 1000000) (λ e. true≢false (sym (and_parts (leb k 10000) (leb (steps + k) 1000000) e).1 ∙ lt-leb (steps + k) 1000000 l))

common_when : (w : List ℕ) (places : ℕ) → (leb (length (common_of w)) places ≡ false) ↔ (places < length (common_of w))
common_when w places = (λ e. leb-false _ _ e, λ l. lt-leb _ _ l)

module _ (w : List ℕ) (a : Accepted w) (nights : ℕ → ℕ) where
  abbrev Shut : Type 0
  Shut = ((i : ℕ) × (i < nurses w) × (PatternHers w i (nights i) → ⊥)) ⊎ (night_penalty w (λ i. some (nights i)) ≢ 0)

  abbrev own : ℕ → Bool
  own i = own_pattern w i (nights i)

  not_hers : (i : ℕ) → (own i ≡ false) ↔ (PatternHers w i (nights i) → ⊥)
  not_hers i = false_when (own i) (pattern_rule w i (nights i) a.run_some)

  open_when : (nights_open w nights ≡ false) ↔ Shut
  unfolding nights_open
  open_when = (λ e. forth (all own (up_from 0 (nurses w))) refl e, back)
    where
      forth : (b : Bool) → all own (up_from 0 (nurses w)) ≡ b → (b && eqb (night_penalty w (λ i. some (nights i))) 0) ≡ false → Shut
      forth true q e = inr (eqb-false _ 0 e)
      forth false q e = let f = all_fails own (nurses w) q in inl (f.0, f.1.0, (not_hers f.0).0 f.1.1)

      back : Shut → (all own (up_from 0 (nurses w)) && eqb (night_penalty w (λ i. some (nights i))) 0) ≡ false
      back (inl f) = rw (all_stop own (nurses w) f.0 f.1 ((not_hers f.0).1 f.2))
      back (inr n) =
          false_from_ne_true (all own (up_from 0 (nurses w)) && eqb (night_penalty w (λ i. some (nights i))) 0)
          (λ e. n (eqb-true _ 0 (and_parts (all own (up_from 0 (nurses w))) _ e).1))

-- ---- the questions of an advance, in their order

module _ (c : Call) (r : Stored) (sized : Sized r) where
  abbrev no7 : Option Refusal
  no7 = unless (leb c.steps 10000 && leb (r.steps + c.steps) 1000000) question.steps 0

  seven : Answers no7 question.steps (StepsFault r.steps c.steps)
  seven = unless_answers (leb c.steps 10000 && leb (r.steps + c.steps) 1000000) question.steps 0 _ (steps_when r.steps c.steps)

  -- the last two, of any phase
  module _ (P : Phase) (fits : Fits P) where
    abbrev no10 : Option Refusal
    no10 = lacking P.patterns (up_from 0 P.nurses)

    abbrev no11 : Option Refusal
    no11 = unless (sound_stored P r) question.record_sound 0

    abbrev asks11 : Questions
    asks11 = ask question.record_sound (RecordFault P r) end

    eleven : AnswersAll no11 asks11
    eleven =
        subst (λ (o : Option Refusal). AnswersAll o asks11) (first_last no11)
        (first_answers no11 none question.record_sound (RecordFault P r) end (unless_answers (sound_stored P r) question.record_sound 0 _ (false_when (sound_stored P r) (sound_when P r sized fits))) none_answers)

    last_two : AnswersAll (first no10 no11) (ask question.patterns (PatternFault P) asks11)
    last_two = first_answers no10 no11 question.patterns (PatternFault P) asks11 (lacking_answers P) eleven

  night_asked : (w : List ℕ) → Accepted w → AnswersAll (refusal_stored (night_phase w) c r) (night_questions c r w)
  unfolding refusal_stored refusal night_phase common_fits
  night_asked w a =
      let P = night_phase w in
      let fits = night_fits w a in
      let rest = first (no10 P fits) (no11 P fits) in
      let asks10 = ask question.patterns (PatternFault P) (asks11 P fits) in
      let no9 = unless (leb (length (common_of w)) c.places) question.lists 0 in
      let nine = unless_answers (leb (length (common_of w)) c.places) question.lists 0 _ (common_when w c.places) in
      assoc_answers no7 no9 rest (night_questions c r w)
      (first_answers no7 (first no9 rest) question.steps (StepsFault r.steps c.steps) (ask question.lists (CommonFault w c.places) asks10) seven
      (first_answers no9 rest question.lists (CommonFault w c.places) asks10 nine (last_two P fits)))

  day_asked : (nights : ℕ → ℕ) (w : List ℕ) → Accepted w → AnswersAll (refusal_stored (day_phase w nights) c r) (day_questions nights c r w)
  unfolding refusal_stored refusal day_phase
  day_asked nights w a =
      let P = day_phase w nights in
      let fits = day_fits w nights a in
      let rest = first (no10 P fits) (no11 P fits) in
      let asks10 = ask question.patterns (PatternFault P) (asks11 P fits) in
      let Over = ListsFault (day_list_over w nights) (nurses w) c.places in
      let no8 = unless (nights_open w nights) question.nights 0 in
      let no9 = lists_fit (day_list_over w nights) (nurses w) c.places in
      let eight = unless_answers (nights_open w nights) question.nights 0 _ (open_when w a nights) in
      let nine = over_answers (day_list_over w nights) (nurses w) c.places in
      let asks8 = ask question.nights (NightsFault w nights) (ask question.lists Over asks10) in
      assoc_answers no7 (first no8 no9) rest (day_questions nights c r w)
      (first_answers no7 (first (first no8 no9) rest) question.steps (StepsFault r.steps c.steps) asks8 seven
      (assoc_answers no8 no9 rest asks8
      (first_answers no8 (first no9 rest) question.nights (NightsFault w nights) (ask question.lists Over asks10) eight
      (first_answers no9 rest question.lists Over asks10 nine (last_two P fits)))))

-- ---- over a file

some_no : {n m : Refusal} → some n ≡ some m → n ≡ m
some_no {n} {m} e = some-injective n m e

-- the refusal in an advance's answer
abbrev pub no_in : Answer → Option Refusal
no_in (refused n) = some n
no_in (ended e steps penalty roster) = none

-- what an advance answers, and the record that it hands back, where `Fault` is what it refuses by
pub record AnswerRefuses (Fault : ℕ → ℕ → Type 0) (a : Answer × Stored) (r : Stored) : Type 0 where
  pub only : (q p : ℕ) → no_in a.0 ≡ some (numbered q p) → Fault q p
  pub always : (q p : ℕ) → Fault q p → a ≡ (refused (numbered q p), r)

-- an advance over a ward that was read is refused by its questions alone
module _ (P : Phase) (c : Call) (r : Stored) where
  pub stored_no : (n : Refusal) → no_in (advance_stored P c r).0 ≡ some n → refusal_stored P c r ≡ some n
  unfolding reply_stored reply_of
  stored_no n e = go (refusal_stored P c r) refl
    where
      go : (o : Option Refusal) → refusal_stored P c r ≡ o → refusal_stored P c r ≡ some n
      go none q = absurd (none-ne-some n (sym (ap (λ (x : Answer × Stored). no_in x.0) (stored_goes P c r q)) ∙ e))
      go (some m) q = q ∙ sym (ap (λ (x : Answer × Stored). no_in x.0) (stored_refused P c r m q)) ∙ e

module _ (file : List ℕ) (bytes : Bytes file) (questions : List ℕ → Questions) where
  unread : (n m : Refusal) → read_ward file ≡ bad m → some m ≡ some n → FileNo file questions n.question n.place
  unread n m e x =
      subst (λ (l : Refusal). FileNo file questions l.question l.place) (some_no x) (in_file (file_fault file (all_bytes file bytes) m.question m.place e))

  module _ (phase : List ℕ → Phase) (c : Call) (r : Stored) (asks : (w : List ℕ) → Accepted w → AnswersAll (refusal_stored (phase w) c r) (questions w)) where
    advance_only : (n : Refusal) → no_in (advance_over phase (read_ward file) c r).0 ≡ some n → FileNo file questions n.question n.place
    unfolding advance_over
    advance_only n e = go (read_ward file) refl e
      where
        go : (x : Read) → read_ward file ≡ x → no_in (advance_over phase x c r).0 ≡ some n → FileNo file questions n.question n.place
        go (bad m) s x = unread n m s x
        go (good w) s x =
            let g = file_good file w (all_bytes file bytes) s in
            in_call w g ((asks (body_of w) (good_accepted file w g) n).0 (stored_no (phase (body_of w)) c r n x))

    advance_always : (q p : ℕ) → FileNo file questions q p → advance_over phase (read_ward file) c r ≡ (refused (numbered q p), r)
    unfolding advance_over
    advance_always q p (in_file f) = rw (fault_file file q p f)
    advance_always q p (in_call w g f) =
        rw (good_file file w g) (stored_refused (phase (body_of w)) c r (numbered q p) ((asks (body_of w) (good_accepted file w g) (numbered q p)).1 f))

    answer_refuses : AnswerRefuses (FileNo file questions) (advance_over phase (read_ward file) c r) r
    answer_refuses = record { only = λ q p. advance_only (numbered q p); always = advance_always }

-- ---- the calls

pub advance_no : (a : Answer × Stored) → no_in_handed (advance_of a) ≡ no_in a.0
unfolding advance_of
advance_no (refused n, r) = refl
advance_no (ended e steps penalty roster, r) = refl

-- an advance whose answer refuses so: what it gives, and what it leaves where `list` is what it would write
module _ (Fault : ℕ → ℕ → Type 0) (a : Answer × Stored) (r : Stored) (list buffer : List ℕ) (f : AnswerRefuses Fault a r) where
  refuses : Refuses Fault (advance_of a) no_in_handed (handed_by r) ((a.1 ≡ r) × (left_by a.0 list buffer ≡ buffer))
  unfolding advance_of left_by
  refuses = record {
    only = λ q p e. f.only q p (sym (advance_no a) ∙ e);
    always = λ q p w.
        let s = f.always q p w in
        (ap advance_of s, (ap (λ (x : Answer × Stored). x.1) s, ap (λ (x : Answer × Stored). left_by x.0 list buffer) s));
  }

module _ (file : List ℕ) (bytes : Bytes file) (r : Stored) (sized : Sized r) (c : Call) where
  pub nights_answer : AnswerRefuses (FileNo file (night_questions c r)) (advance_nights file c r) r
  nights_answer = answer_refuses file bytes (night_questions c r) night_phase c r (night_asked c r sized)

  pub days_answer : (nights : List ℕ) → AnswerRefuses (FileNo file (day_questions (night_of nights) c r)) (advance_days file nights c r) r
  days_answer nights =
      answer_refuses file bytes (day_questions (night_of nights) c r) (λ w. day_phase w (night_of nights)) c r (day_asked c r sized (night_of nights))

nights_refuse : (file : List ℕ) → Bytes file → (r : Stored) → Sized r → (k : ℕ) (past_zero : Bool) (buffer : List ℕ) → NightsRefuse file r k past_zero buffer
unfolding night_left
nights_refuse file bytes r sized k past_zero buffer =
    let c = call_of k past_zero (length buffer) in
    refuses (FileNo file (night_questions c r)) (advance_nights file c r) r (list_of (read_ward file)) buffer (nights_answer file bytes r sized c)

days_refuse : (file : List ℕ) → Bytes file → (nights : List ℕ) (r : Stored) → Sized r → (k : ℕ) (past_zero : Bool) (buffer : List ℕ) → DaysRefuse file nights r k past_zero buffer
unfolding day_left
days_refuse file bytes nights r sized k past_zero buffer =
    let c = call_of k past_zero (length buffer) in
    refuses (FileNo file (day_questions (night_of nights) c r)) (advance_days file nights c r) r (lists_of (read_ward file) nights) buffer
    (days_answer file bytes r sized c nights)

check_refuses : (file : List ℕ) → Bytes file → (roster : List ℕ) → CheckRefuses file roster
unfolding check_over check_letters FirstNo
check_refuses file bytes roster = record { only = only; always = λ q p f. (always q p f, tt) }
  where
    letters_no : (w : List ℕ) (n : Refusal) (o : Option ℕ) → misplaced (nurses w * days w) roster ≡ o → no_in_result (check_letters w roster) ≡ some n
        → FirstNo (check_questions roster w) n.question n.place
    letters_no w n none q e = absurd (none-ne-some n (sym (rw (q, check_letters) refl) ∙ e))
    letters_no w n (some place) q e =
        let x : some (numbered question.letters place) ≡ some n = sym (rw (q, check_letters)) ∙ e in
        let same : numbered question.letters place ≡ n = some_no x in
        inl (sym (ap (λ (m : Refusal). m.question) same), subst (LettersFault (nurses w * days w) roster) (ap (λ (m : Refusal). m.place) same) (misplaced_fault (nurses w * days w) roster place q))

    only : (q p : ℕ) → no_in_result (check_says file roster) ≡ some (numbered q p) → FileNo file (check_questions roster) q p
    only q p e = go (read_ward file) refl e
      where
        go : (x : Read) → read_ward file ≡ x → no_in_result (check_over x roster) ≡ some (numbered q p) → FileNo file (check_questions roster) q p
        go (bad m) s x = unread file bytes (check_questions roster) (numbered q p) m s x
        go (good w) s x =
            let b = body_of w in
            in_call w (file_good file w (all_bytes file bytes) s) (letters_no b (numbered q p) (misplaced (nurses b * days b) roster) refl x)

    always : (q p : ℕ) → FileNo file (check_questions roster) q p → check_says file roster ≡ Err (numbered q p)
    always q p (in_file f) = ap (λ (x : Read). check_over x roster) (fault_file file q p f)
    always q p (in_call w g (inl f)) =
        ap (λ (x : Read). check_over x roster) (good_file file w g) ∙ rw (fault_misplaced (nurses (body_of w) * days (body_of w)) roster p f.1, check_letters)
        (ap (λ (k : ℕ). Err (numbered k p)) (sym f.0))
    always q p (in_call w g (inr f)) = absurd f.1

read_refuses : (file : List ℕ) → Bytes file → ReadRefuses file
unfolding reading_of
read_refuses file bytes = record {
  only = λ q p e. go (read_ward file) refl q p e;
  always = λ q p f. (ap reading_of (fault_file file q p f), tt);
}
  where
    go : (x : Read) → read_ward file ≡ x → (q p : ℕ) → no_in_result (reading_of x) ≡ some (numbered q p) → FileFault ward file q p
    go (good w) s q p e = absurd (none-ne-some _ e)
    go (bad m) s q p e =
        let f = file_fault file (all_bytes file bytes) m.question m.place s in
        subst (λ (l : Refusal). FileFault ward file l.question l.place) (some_no e) f

-- the writer's questions of the numbers ws, with so many places
module _ (ws buffer : List ℕ) where
  abbrev Says : Read → ℕ → ℕ → Type 0
  Says x q p = no_in_result (writing_of (length buffer) x) ≡ some (numbered q p)

  room : (vs : List ℕ) (b : Bool) → ltb (length buffer) (length (bytes_of vs)) ≡ b → check_ward ws ≡ good vs → (q p : ℕ) → Says (good vs) q p → WriterNo ws (length buffer) q p
  unfolding writing_of
  room vs true e s q p x =
      let n : some (numbered question.bytes 0) ≡ some (numbered q p) = sym (rw e) ∙ x in
      let same = some_no n in
      let g = list_good ws vs s in
      in_buffer (sym (ap (λ (m : Refusal). m.question) same))
      (sym (ap (λ (m : Refusal). m.place) same), g.1, subst (λ (l : List ℕ). length buffer < length (bytes_of l)) g.0 (ltb-true _ _ e))
  room vs false e s q p x = absurd (none-ne-some _ (sym (rw e) ∙ x))

  write_only : (x : Read) → check_ward ws ≡ x → (q p : ℕ) → Says x q p → WriterNo ws (length buffer) q p
  unfolding writing_of
  write_only (good vs) s q p e = room vs (ltb (length buffer) (length (bytes_of vs))) refl s q p e
  write_only (bad m) s q p e =
      in_numbers (subst (λ (l : Refusal). ListFault ward ws l.question l.place) (some_no e) (list_fault ws m.question m.place s))

  write_always : (q p : ℕ) → WriterNo ws (length buffer) q p
      → (writing_of (length buffer) (check_ward ws) ≡ Err (numbered q p)) × (left_of buffer (check_ward ws) ≡ buffer)
  unfolding writing_of left_of
  write_always q p (in_numbers f) = rw (fault_list ws q p f) (refl, refl)
  write_always q p (in_buffer e f) =
      rw (good_list ws f.1, lt-ltb (length buffer) (length (bytes_of ws)) f.2)
      (ap₂ (λ (a b : ℕ). Err (numbered a b)) (sym e) (sym f.0), refl)

write_refuses : (w : Ward) (buffer : List ℕ) → WriteRefuses w buffer
write_refuses w buffer = record { only = λ q p e. write_only (counted w) buffer (check_ward (counted w)) refl q p e; always = write_always (counted w) buffer }

pub demand1 : Demand1
demand1 = record {
  read = read_refuses;
  write = write_refuses;
  nights = nights_refuse;
  days = days_refuse;
  check = check_refuses;
  keep = keep_refuses;
  bring_back = return_refuses;
  longest = λ file w g. subst (λ (l : List ℕ). length l ≤ 4203) (sym g.bytes) (longest_file w g.takes);
  longest_there = let l = longest_there in (bytes_of l.0, l.0, record { bytes = refl; takes = l.1 }, l.2);
}
