-- Laws of the day advance: its questions in order, its roster, its lists in the buffer, and what it hands back.
use Rattle.std.specs.Prelude.{ℕ, zero, suc, ◌+◌, ◌-◌, ◌≤◌, ◌<◌, ◌≡◌, refl, Bool, true, false, cond, ◌&&◌, ◌≢◌, List, [], ◌∷◌, ◌++◌, map, leb, ltb, length, get_or, take, replicate}
use Rattle.std.proofs.Common.{sym, ap, ap₂, ◌∙◌, subst, true≢false, append-nil, add-one, arith, length-append, leb-true, lt-ltb, le-ltb, eq-eqb, ne_eqb, ltb-true, ltb-false}
use Rattle.std.proofs.lemmas.Bool.{and_parts}
use Rattle.std.proofs.Math.Option.{Option, none, some}
use Rattle.std.specs.declared.result.Result.{Result}
use Rattle.std.specs.declared.result.Result.TheVariants.{Ok, Err}
use Rattle.fields.specs.Sizes.{nurse_places, letter_places}
use Rattle.numbers.specs.Range.{up_from}
use Rattle.numbers.specs.Patterns.{unpaired, days_of}
use Rattle.fields.specs.Fields.{Accepted, nurses}
use Rattle.daylists.specs.Lists.{up_to}
use Rattle.daylists.specs.declared.lists.Over.{Over}
use Rattle.daylists.specs.CodeLists.{AllFit, FirstOver, Counted}
use Rattle.daylists.proofs.ListsLaws.{up_length, up_mono, stretch_is}
use Rattle.history.specs.declared.Search.TheVariants.{Days as DaySearch}
use Rattle.history.specs.Slot.{Slot}
use Rattle.history.specs.Phase.{Phase, Answer, refusal}
use Rattle.refusals.specs.declared.Refusal.{Refusal}
use Rattle.refusals.specs.Refusals.{numbered, refusal_in, unless, first}
use Rattle.refusals.specs.Questions as question
use Rattle.refusals.proofs.OrderLaws.{first_none, first_yes, unless_none}
use Rattle.history.specs.Record.{Record, lacking, reply_of, proceed}
use Rattle.history.proofs.SearchLaws.{days≢nights}
use Rattle.removals.specs.Removals.{slot, pattern_of, flag_of}
use Rattle.search.specs.Stored.{slot_at, view, view_of, store, refusal_stored, reply_stored, sound_stored}
use Rattle.search.specs.CodeSeek.{answer_of, Lists, Seeks}
use Rattle.search.specs.declared.Record.{Record as Stored}
use Rattle.search.specs.declared.Advanced.{Advanced}
use Rattle.search.proofs.StoredLaws.{get_or_below}
use Rattle.letters.specs.Letters.{letters, row_letters}
use Rattle.letters.specs.CodeRoster.{Written}
use Rattle.letters.specs.declared.written.Roster.{Roster}
use Rattle.letters.proofs.RowLaws.{letters_length}
use Rattle.phases.specs.Phases.{nights_open, lists_fit, day_list_over, day_phase, night_of}
use Rattle.search.specs.declared.Searched.TheVariants.{Days}
use Rattle.phases.specs.CodeQuestions.{phase_of, EndsOf, UnplacedZero}
use Rattle.outcomes.specs.Outcomes.{roster_of, letters_of, call_of}
use Rattle.outcomes.proofs.OutcomeLaws.{list_front}
use Rattle.phases.proofs.PhaseLaws.{day_ascending}

-- ---- the questions in order

regroup : (a b c d : Option Refusal) → first (first a (first b c)) d ≡ first a (first b (first c d))
regroup none none c d = refl
regroup none (some n) c d = refl
regroup (some n) b c d = refl

-- a list is empty exactly where it is with no pairs
lacking_unpaired : (lists : ℕ → List ℕ) (is : List ℕ) → lacking (λ i. map unpaired (lists i)) is ≡ lacking lists is
lacking_unpaired lists [] = refl
lacking_unpaired lists (i ∷ is) = go (lists i) refl (lacking_unpaired lists is)
  where
    go : (l : List ℕ) → lists i ≡ l → lacking (λ j. map unpaired (lists j)) is ≡ lacking lists is
        → lacking (λ j. map unpaired (lists j)) (i ∷ is) ≡ lacking lists (i ∷ is)
    go [] q e = rw (q, lacking)
    go (p ∷ ps) q e = rw (q, lacking) e

-- where the lists that fit end
ends_of : {f : ℕ → List ℕ} {m places n : ℕ} {ends : List ℕ} → AllFit f m places ends → n ≡ m → EndsOf f n ends
unfolding EndsOf
ends_of c e k l = c.ends_are k (omega arith)

-- all of them, the record's asked of the phase over these nights
module _ (w nights : List ℕ) (r : Stored) (k places : ℕ) where
  abbrev over_nights : ℕ → ℕ
  over_nights = night_of nights

  abbrev asks_steps : Option Refusal
  asks_steps = unless (leb k 10000 && leb (r.steps + k) 1000000) question.steps 0

  abbrev asks_nights : Option Refusal
  asks_nights = unless (nights_open w over_nights) question.nights 0

  abbrev asks_room : Option Refusal
  asks_room = lists_fit (day_list_over w over_nights) (nurses w) places

  abbrev asks_lists : Option Refusal
  asks_lists = lacking (day_list_over w over_nights) (up_from 0 (nurses w))

  abbrev asks_record : Option Refusal
  asks_record = unless (sound_stored (day_phase w over_nights) r) question.record_sound 0

  pub in_order : (past_zero : Bool) → first asks_steps (first asks_nights (first asks_room (first asks_lists asks_record))) ≡ refusal_stored (day_phase w over_nights) (call_of k past_zero places) r
  unfolding refusal_stored refusal day_phase
  in_order past_zero =
      sym (ap (λ (l : Option Refusal). first (first asks_steps (first asks_nights asks_room)) (first l asks_record))
      (lacking_unpaired (day_list_over w over_nights) (up_from 0 (nurses w)))
      ∙ regroup asks_steps asks_nights asks_room (first asks_lists asks_record))

  -- what is left to ask once the first two are answered yes, and the first three
  module _ {X Y : Type 0} {x : X} {y : Y} {a : Result X Refusal} {b : Result Y Refusal} (past_zero : Bool) (steps : refusal_in a ≡ asks_steps) (steps_yes : a ≡ Ok x)
      (open_nights : refusal_in b ≡ asks_nights) (open_yes : b ≡ Ok y) where
    pub after_nights : first asks_room (first asks_lists asks_record) ≡ refusal_stored (day_phase w over_nights) (call_of k past_zero places) r
    after_nights = first_yes _ open_nights open_yes ∙ first_yes _ steps steps_yes ∙ in_order past_zero

    pub after_room : {Z : Type 0} {z : Z} {c : Result Z Refusal} → refusal_in c ≡ asks_room → c ≡ Ok z → first asks_lists asks_record ≡ refusal_stored (day_phase w over_nights) (call_of k past_zero places) r
    after_room room room_yes = first_yes _ room room_yes ∙ after_nights

  -- question 10 as the code asks it, of so many nurses
  pub lists_asked : {m : ℕ} {ends : List ℕ} {d : Option Refusal} → m ≡ nurses w → AllFit (day_list_over w over_nights) (nurses w) places ends
      → ((lists : ℕ → List ℕ) → EndsOf lists m ends → d ≡ lacking lists (up_from 0 m)) → d ≡ asks_lists
  lists_asked e fit asked = asked (day_list_over w over_nights) (ends_of fit e) ∙ ap (λ (n : ℕ). lacking (day_list_over w over_nights) (up_from 0 n)) e

-- question 11, of the phase as the code hands it on
pub record_of_days : (w : List ℕ) (nights : _) (r : Stored) {a : Option Refusal} → a ≡ unless (sound_stored (phase_of (Days nights) w) r) question.record_sound 0
    → a ≡ unless (sound_stored (day_phase w (night_of nights.now)) r) question.record_sound 0
unfolding phase_of
record_of_days w nights r e = e

-- ---- question 9 by the count

module _ (f : ℕ → List ℕ) (m places : ℕ) where
  over_fit : {over : Over} → FirstOver f m places over → some (numbered question.lists (over.nurse + 1)) ≡ lists_fit f m places
  unfolding lists_fit
  over_fit {over} c = rw (← c.over_is, ne_eqb over.nurse m (λ (q : over.nurse ≡ m). omega (arith, c.below)), add-one over.nurse)

  all_fit : {ends : List ℕ} → AllFit f m places ends → none ≡ lists_fit f m places
  unfolding lists_fit
  all_fit c = rw (← c.none_over, eq-eqb m m refl)

  -- what the code answers by the count
  pub counted_asked : (counted : Result (List ℕ) Over) {r : Result (List ℕ) Refusal} → Counted f m places counted → ((ends : List ℕ) → counted ≡ Ok ends → r ≡ Ok ends)
      → ((over : Over) → counted ≡ Err over → r ≡ Err (numbered question.lists (over.nurse + 1))) → refusal_in r ≡ lists_fit f m places
  counted_asked (Ok ends) c fit over_by = ap refusal_in (fit ends refl) ∙ all_fit c
  counted_asked (Err over) c fit over_by = ap refusal_in (over_by over refl) ∙ over_fit c

-- ---- question 10 by where the lists end

module _ (lists : ℕ → List ℕ) (m : ℕ) (ends : List ℕ) (e : EndsOf lists m ends) (i : ℕ) (l : i < m) where
  list_long : get_or ends (i + 1) 0 ≡ get_or ends i 0 + length (lists i)
  unfolding EndsOf
  list_long = e (i + 1) (omega arith) ∙ up_length lists i ∙ ap (λ (n : ℕ). n + length (lists i)) (sym (e i (omega arith)))

  pub stretch_some : {b : Bool} → b ≡ ltb (get_or ends i 0) (get_or ends (i + 1) 0) → b ≡ ltb 0 (length (lists i))
  stretch_some h = h ∙ go (ltb (get_or ends i 0) (get_or ends (i + 1) 0)) refl
    where
      go : (b : Bool) → ltb (get_or ends i 0) (get_or ends (i + 1) 0) ≡ b → b ≡ ltb 0 (length (lists i))
      go true e = sym (lt-ltb 0 (length (lists i)) (omega (arith, list_long, ltb-true _ _ e)))
      go false e = sym (le-ltb 0 (length (lists i)) (omega (arith, list_long, ltb-false _ _ e)))

-- ---- the roster at zero

written_roster : (w : List ℕ) (ps qs : ℕ → ℕ) {r : Roster} → Written w ps qs r → r ≡ roster_of (letters w ps qs (nurses w))
unfolding roster_of
written_roster w ps qs v =
    let n = letters_length w ps qs (nurses w) in
    ap₂ (λ (l : List ℕ) (k : ℕ). record { letters = l; count = k })
    (v.given ∙ ap (λ (k : ℕ). letters w ps qs (nurses w) ++ replicate (letter_places - k) 0) (sym n)) (v.counted ∙ sym n)

letters_alike : (w : List ℕ) (ps qs qs' : ℕ → ℕ) (k : ℕ) → ((i : ℕ) → i < k → qs i ≡ qs' i) → letters w ps qs k ≡ letters w ps qs' k
unfolding letters
letters_alike w ps qs qs' zero f = refl
letters_alike w ps qs qs' (suc k) f =
    ap₂ (λ (a b : List ℕ). a ++ b) (letters_alike w ps qs qs' k (λ i h. f i (omega arith))) (ap (λ (q : ℕ). row_letters w k (ps k) q) (f k (omega arith)))

slot_pattern : (b : Bool) (p : ℕ) → (b ≡ false → p ≡ 0) → p ≡ pattern_of (slot b p)
slot_pattern true p f = refl
slot_pattern false p f = f refl

-- the letters that the phase gives for a record, by its patterns
letters_of_lem : (w : List ℕ) (nights : ℕ → ℕ) (r : Stored) → UnplacedZero w r
    → letters w (λ i. days_of (nights i)) (λ i. days_of (get_or r.patterns i 0)) (nurses w) ≡ (day_phase w nights).letters (view_of (day_phase w nights) r).slots
unfolding day_phase view UnplacedZero
letters_of_lem w nights r z =
    letters_alike w (λ i. days_of (nights i)) _ _ (nurses w) (λ i h. ap days_of (slot_pattern (get_or r.placed i false) (get_or r.patterns i 0) (z i h)
    ∙ ap (λ (b : Bool). pattern_of (cond b (slot_at r i) none)) (sym (lt-ltb i (nurses w) h))))

-- the roster that an advance gives out, by the penalty that it leaves
module _ (w : List ℕ) (nights : ℕ → ℕ) (x : Advanced) where
  abbrev given : Bool → List ℕ
  given b = cond b ((day_phase w nights).letters (view_of (day_phase w nights) x.after).slots) []

  pub given_zero : {r : Roster} → UnplacedZero w x.after → x.penalty ≡ 0 → Written w (λ i. days_of (nights i)) (λ i. days_of (get_or x.after.patterns i 0)) r
      → r ≡ roster_of (letters_of (answer_of (day_phase w nights) x))
  given_zero z e v = written_roster w _ _ v ∙ ap roster_of (letters_of_lem w nights x.after z) ∙ sym (ap (λ (b : Bool). roster_of (given b)) (eq-eqb x.penalty 0 e))

  pub given_not : {r : Roster} → x.penalty ≢ 0 → r ≡ roster_of [] → r ≡ roster_of (letters_of (answer_of (day_phase w nights) x))
  given_not n q = q ∙ sym (ap (λ (b : Bool). roster_of (given b)) (ne_eqb x.penalty 0 n))

-- ---- what an advance that is not refused hands back

flag_pattern : (s : Slot) → flag_of s ≡ false → pattern_of s ≡ 0
flag_pattern none e = refl
flag_pattern (some p) e = absurd (true≢false e)

-- a stored record's unplaced nurses have pattern 0
store_zero : (R : Record) (i : ℕ) → i < nurse_places → get_or (store R).placed i false ≡ false → get_or (store R).patterns i 0 ≡ 0
unfolding store
store_zero R i h f =
    get_or_below (λ j. pattern_of (R.slots j)) 0 nurse_places i h ∙ flag_pattern (R.slots i) (sym (get_or_below (λ j. flag_of (R.slots j)) false nurse_places i h) ∙ f)

pub stored_zero : (w : List ℕ) (P : Phase) (past_zero : Bool) (k : ℕ) (r : Stored) {a : Answer} {x : Stored} → Accepted w → reply_stored P past_zero k r ≡ (a, x) → UnplacedZero w x
unfolding reply_stored UnplacedZero
stored_zero w P past_zero k r acc e =
    let R = (reply_of P (view_of P r) (proceed P past_zero k (view_of P r))).1 in
    subst (λ (y : Stored). (i : ℕ) → i < nurses w → get_or y.placed i false ≡ false → get_or y.patterns i 0 ≡ 0) (ap (λ (y : Answer × Stored). y.1) e)
    (λ i h f. store_zero R i (omega (arith, acc.nurses_most)) f)

-- ---- an advance that no question refuses

record Open (w : List ℕ) (nights : ℕ → ℕ) (r : Stored) (k : ℕ) : Type 0 where
  steps_fit : r.steps + k ≤ 1000000
  sound : sound_stored (day_phase w nights) r ≡ true

opened : (w nights : List ℕ) (r : Stored) (k places : ℕ) (past_zero : Bool) → refusal_stored (day_phase w (night_of nights)) (call_of k past_zero places) r ≡ none → Open w (night_of nights) r k
opened w nights r k places past_zero e =
    let all = in_order w nights r k places past_zero ∙ e in
    let a = first_none (unless (leb k 10000 && leb (r.steps + k) 1000000) question.steps 0) _ all in
    let b = first_none (unless (nights_open w (night_of nights)) question.nights 0) _ a.1 in
    let c = first_none (lists_fit (day_list_over w (night_of nights)) (nurses w) places) _ b.1 in
    let d = first_none (lacking (day_list_over w (night_of nights)) (up_from 0 (nurses w))) _ c.1 in
    let s = and_parts (leb k 10000) (leb (r.steps + k) 1000000) (unless_none _ question.steps 0 a.0) in
    record { steps_fit = leb-true _ _ s.1; sound = unless_none _ question.record_sound 0 d.1 }

-- what the code finds in the buffer
lists_front : (L rest : List ℕ) {buf : List ℕ} {n : ℕ} → n ≡ length L → buf ≡ L ++ rest → take n buf ≡ L ++ []
lists_front L rest e q = list_front L rest q e ∙ sym (append-nil L)

module _ (w : List ℕ) (nights : ℕ → ℕ) where
  -- a buffer that begins with all lists, each from where the one before it ends
  module _ {places : ℕ} {ends lists : List ℕ} (rest : List ℕ) (c : AllFit (day_list_over w nights) (nurses w) places ends)
      (e : lists ≡ up_to (day_list_over w nights) (nurses w) ++ rest) where
    begin_is : (i : ℕ) → i ≤ nurses w → get_or ends i 0 ≡ length (up_to (day_list_over w nights) i)
    begin_is i h = c.ends_are i h

    day_lists : Lists DaySearch w lists ends
    day_lists = record {
      common_list = λ q. absurd (days≢nights q);
      begins = λ q i h. rw (begin_is i (omega arith), begin_is (i + 1) (omega arith)) (up_mono (day_list_over w nights) i (i + 1) (omega arith));
      finishes = λ q i h. rw (begin_is (i + 1) (omega arith), e)
          (omega (arith, up_mono (day_list_over w nights) (i + 1) (nurses w) (omega arith), length-append (up_to (day_list_over w nights) (nurses w)) rest));
    }

    day_seeks : Seeks DaySearch w lists ends (day_phase w nights)
    unfolding day_phase
    day_seeks = record {
      nurses_are = refl;
      tabu_is = refl;
      cost_is = λ slots. refl;
      patterns_are = λ i h. rw (begin_is i (omega arith), begin_is (i + 1) (omega arith), e) (ap (map unpaired) (sym (stretch_is (day_list_over w nights) (nurses w) i rest h)));
      ascending = day_ascending w nights;
    }

-- what the search needs of the call, and of the lists where the code finds them
pub record Ready (w : List ℕ) (nights : ℕ → ℕ) (r : Stored) (k : ℕ) (lists ends : List ℕ) : Type 0 where
  pub steps_fit : r.steps + k ≤ 1000000
  pub sound : sound_stored (day_phase w nights) r ≡ true
  pub lists_are : Lists DaySearch w lists ends
  pub seeks : Seeks DaySearch w lists ends (day_phase w nights)

pub ready : (w nights : List ℕ) (r : Stored) (k places : ℕ) (past_zero : Bool) (rest : List ℕ) {a : Result (List ℕ) Refusal} {ends buf : List ℕ} {n : ℕ}
    → refusal_in a ≡ refusal_stored (day_phase w (night_of nights)) (call_of k past_zero places) r → a ≡ Ok ends → AllFit (day_list_over w (night_of nights)) (nurses w) places ends
    → n ≡ length (up_to (day_list_over w (night_of nights)) (nurses w)) → buf ≡ up_to (day_list_over w (night_of nights)) (nurses w) ++ rest
    → Ready w (night_of nights) r k (take n buf) ends
ready w nights r k places past_zero rest asked went fit e q =
    let ok = opened w nights r k places past_zero (sym asked ∙ ap refusal_in went) in
    let front = lists_front (up_to (day_list_over w (night_of nights)) (nurses w)) rest e q in
    record { steps_fit = ok.steps_fit; sound = ok.sound; lists_are = day_lists w (night_of nights) [] fit front; seeks = day_seeks w (night_of nights) [] fit front }
