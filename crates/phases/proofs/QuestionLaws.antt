-- A nurse's own patterns by the test of one pattern, the three parts of question 11, and question 10 as a loop over the nurses asks it.
use Rattle.std.specs.Prelude.{ℕ, zero, suc, ◌+◌, ◌-◌, ◌≤◌, ◌<◌, ◌≡◌, refl, Bool, true, false, ◌&&◌, ◌||◌, List, [], ◌∷◌, ◌++◌, map, ltb, eqb, length, get_or, take}
use Rattle.std.proofs.Common.{suc-le-suc, sym, ap, ap₂, ◌∙◌, subst, not-suc-le-zero, le_of_suc-le-suc, add-one, take-suc, arith, lt-ltb, le-ltb, eq-eqb, ne_eqb, eqb-true}
use Rattle.std.proofs.lemmas.Bool.{false≢true, eqb-false, or_right}
use Rattle.std.proofs.Math.Bool.{and-true, and_assoc}
use Rattle.std.specs.Bool.{then_some}
use Rattle.std.specs.List.{list_all}
use Rattle.std.specs.declared.option.Option.{Option as Handed}
use Rattle.std.proofs.Math.Option.{Option, none, some}
use Rattle.numbers.specs.Range.{up_from, all, At, Exactly}
use Rattle.numbers.proofs.AllLaws.{all_none, all_more}
use Rattle.numbers.specs.Patterns.{pattern, unpaired, days_of, pair_of}
use Rattle.numbers.proofs.PatternLaws.{days_of_pattern, pair_of_pattern, back}
use Rattle.fields.specs.Fields.{Accepted, nurses, tabu}
use Rattle.nights.specs.Own.{own_pattern, pattern_list}
use Rattle.nights.proofs.OwnLaws.{own_exactly}
use Rattle.days.specs.Days.{day_rule_of, day_list}
use Rattle.days.proofs.SheetLaws.{list_exactly}
use Rattle.refusals.specs.Refusals.{numbered}
use Rattle.refusals.specs.Questions as question
use Rattle.history.specs.Slot.{Slot}
use Rattle.refusals.specs.declared.Refusal.{Refusal}
use Rattle.history.specs.Record.{among, hers, names, lacking}
use Rattle.removals.specs.Removals.{slot}
use Rattle.search.specs.Stored.{slot_at, held, names_at, unused_zero, sound_stored, Sized}
use Rattle.search.proofs.Fits.{Fits}
use Rattle.search.specs.declared.Record.{Record as Stored}
use Rattle.history.proofs.TestLaws.{not_both}
use Rattle.search.proofs.QuestionLaws.{question_eleven}
use Rattle.search.specs.declared.Searched.TheVariants.{Nights, Days}
use Rattle.phases.specs.Phases.{night_phase, day_phase, night_of}
use Rattle.phases.specs.CodeQuestions.{Which, phase_of, slot_in}
use Rattle.phases.proofs.PhaseLaws.{night_fits, day_fits}

-- ---- one of her own

among_place : (xs : List ℕ) (k p : ℕ) → k < length xs → get_or xs k 0 ≡ p → among xs p ≡ true
among_place [] k p l e = absurd (not-suc-le-zero l)
among_place (x ∷ xs) zero p l e = rw (eq-eqb x p e)
among_place (x ∷ xs) (suc k) p l e = or_right (eqb x p) (among xs p) (among_place xs k p (le_of_suc-le-suc l) e)

among_at : (xs : List ℕ) (p : ℕ) → among xs p ≡ true → At xs p
among_at [] p e = absurd (false≢true e)
among_at (x ∷ xs) p e = go (eqb x p) refl e (among_at xs p)
  where
    go : (b : Bool) → eqb x p ≡ b → (b || among xs p) ≡ true → (among xs p ≡ true → At xs p) → At (x ∷ xs) p
    go true q e f = record { place = 0; inside = omega arith; there = eqb-true x p q }
    go false q e f = at_later (f e)
      where
        at_later : At xs p → At (x ∷ xs) p
        at_later a = record { place = suc a.place; inside = suc-le-suc a.inside; there = a.there }

-- whether p is in a list that has exactly what a rule passes is the rule
pub among_exactly : (rule : ℕ → Bool) (xs : List ℕ) (p : ℕ) → Exactly rule xs → among xs p ≡ rule p
among_exactly rule xs p x = go (rule p) refl (among xs p) refl
  where
    go : (b : Bool) → rule p ≡ b → (c : Bool) → among xs p ≡ c → c ≡ b
    go true e true q = refl
    go true e false q = let a = x.every p e in sym q ∙ among_place xs a.place p a.inside a.there
    go false e true q = sym (x.only p (among_at xs p q)) ∙ e
    go false e false q = refl

-- of the patterns with no pair
unpaired_same : (x q : ℕ) → eqb (unpaired x) (unpaired q) ≡ eqb x q
unpaired_same x q = go (eqb x q) refl
  where
    days : (y : ℕ) → days_of (unpaired y) ≡ y
    days y = days_of_pattern y 0 (omega arith)

    go : (b : Bool) → eqb x q ≡ b → eqb (unpaired x) (unpaired q) ≡ b
    go true e = eq-eqb (unpaired x) (unpaired q) (ap unpaired (eqb-true x q e))
    go false e = ne_eqb (unpaired x) (unpaired q) (λ s. eqb-false x q e (sym (days x) ∙ ap days_of s ∙ days q))

among_unpaired : (xs : List ℕ) (q : ℕ) → among (map unpaired xs) (unpaired q) ≡ among xs q
among_unpaired [] q = refl
among_unpaired (x ∷ xs) q = ap₂ (λ (a b : Bool). a || b) (unpaired_same x q) (among_unpaired xs q)

among_paired : (xs : List ℕ) (p : ℕ) → (pair_of p ≡ 0 → ⊥) → among (map unpaired xs) p ≡ false
among_paired [] p n = refl
among_paired (x ∷ xs) p n = rw (ne_eqb (unpaired x) p (λ s. n (sym (ap pair_of s) ∙ pair_of_pattern x 0 (omega arith)))) (among_paired xs p n)

module _ (w : List ℕ) (i night p : ℕ) where
  pub days_own : {q : ℕ} {r : Bool} → pair_of p ≡ 0 → q ≡ days_of p → r ≡ day_rule_of w i night q → r ≡ among (map unpaired (day_list w i night)) p
  days_own {q} e d h =
      let whole : unpaired q ≡ p = ap₂ (λ (x y : ℕ). pattern x y) d (sym e) ∙ back p in
      h ∙ sym (among_exactly (day_rule_of w i night) (day_list w i night) q (list_exactly w i night)) ∙ sym (among_unpaired (day_list w i night) q)
      ∙ ap (among (map unpaired (day_list w i night))) whole

  pub days_paired : (pair_of p ≡ 0 → ⊥) → false ≡ among (map unpaired (day_list w i night)) p
  days_paired n = sym (among_paired (day_list w i night) p n)

module _ (w : List ℕ) (i p : ℕ) where
  pub own_night : {which : Which} {r : Bool} → Accepted w → which ≡ Nights → r ≡ own_pattern w i p → r ≡ among ((phase_of which w).patterns i) p
  unfolding phase_of night_phase
  own_night a e h = rw e (h ∙ sym (among_exactly (own_pattern w i) (pattern_list w i) p (own_exactly w i (omega (arith, a.pairs_most)))))

  pub own_day : {which : Which} {nights : _} {r : Bool} → which ≡ Days nights → r ≡ among (map unpaired (day_list w i (night_of nights.now i))) p → r ≡ among ((phase_of which w).patterns i) p
  unfolding phase_of day_phase
  own_day e h = rw e h

-- ---- the phase of a search

module _ (w : List ℕ) where
  pub phase_nurses : (which : Which) → (phase_of which w).nurses ≡ nurses w
  unfolding phase_of night_phase day_phase
  phase_nurses Nights = refl
  phase_nurses (Days nights) = refl

  pub phase_tabu : (which : Which) → (phase_of which w).tabu ≡ tabu w
  unfolding phase_of night_phase day_phase
  phase_tabu Nights = refl
  phase_tabu (Days nights) = refl

  pub phase_fits : (which : Which) → Accepted w → Fits (phase_of which w)
  unfolding phase_of
  phase_fits Nights a = night_fits w a
  phase_fits (Days nights) a = day_fits w (night_of nights.now) a

-- ---- a slot of a nurse of the ward

slot_said : (placed : Bool) (p : ℕ) → slot_in (then_some placed p) ≡ slot placed p
slot_said true p = refl
slot_said false p = refl

pub hers_at : (which : Which) {v w : List ℕ} {k i : ℕ} {held : Handed ℕ} (placed : Bool) (p : ℕ) → v ≡ w → k ≡ i → held ≡ then_some placed p
    → hers (phase_of which v) k (slot_in held) ≡ hers (phase_of which w) i (slot placed p)
hers_at which {v} {w} {k} {i} placed p e n h = rw (e, n, h, slot_said placed p) refl

-- ---- one removal

module _ (which : Which) (w : List ℕ) {x i : ℕ} (s : Slot) (e : x ≡ suc i) where
  pub names_within : {m : ℕ} {r : Bool} → m ≡ nurses w → i < m → r ≡ hers (phase_of which w) i s → r ≡ names (phase_of which w) x s
  names_within n l h =
      let here : i < (phase_of which w).nurses = rw (phase_nurses w which) (omega arith) in
      rw (e, lt-ltb i (phase_of which w).nurses here) h

  pub names_past : {m : ℕ} → m ≡ nurses w → m ≤ i → false ≡ names (phase_of which w) x s
  names_past n l =
      let past : (phase_of which w).nurses ≤ i = rw (phase_nurses w which) (omega arith) in
      rw (e, le-ltb i (phase_of which w).nurses past) refl

-- ---- the removals held

module _ {X : Type 0} (t : X → Bool) where
  all_append : (xs ys : List X) → list_all t (xs ++ ys) ≡ (list_all t xs && list_all t ys)
  all_append [] ys = refl
  all_append (x ∷ xs) ys = ap (λ (b : Bool). t x && b) (all_append xs ys) ∙ sym (and_assoc (t x) (list_all t xs) (list_all t ys))

  -- a test of the first n of a list, place by place
  pub all_taken : (xs : List X) (d : X) (n : ℕ) → n ≤ length xs → list_all t (take n xs) ≡ all (λ j. t (get_or xs j d)) (up_from 0 n)
  all_taken xs d zero l = sym (all_none (λ j. t (get_or xs j d)))
  all_taken xs d (suc n) l =
      ap (list_all t) (take-suc xs n d l) ∙ all_append (take n xs) (get_or xs n d ∷ [])
      ∙ ap₂ (λ (a b : Bool). a && b) (all_taken xs d n (omega arith)) (and-true (t (get_or xs n d)))
      ∙ sym (all_more (λ j. t (get_or xs j d)) n) ∙ ap (λ (k : ℕ). all (λ j. t (get_or xs j d)) (up_from 0 k)) (add-one n)

-- ---- question 11, by its three parts

module _ (which : Which) (w : List ℕ) (x : Stored) (a : Accepted w) (s : Sized x) where
  abbrev slots_own : Bool
  slots_own = all (λ i. hers (phase_of which w) i (slot_at x i)) (up_from 0 (phase_of which w).nurses)

  abbrev removals_name : Bool
  removals_name = all (names_at (phase_of which w) x.removals) (up_from 0 (held (phase_of which w).tabu x))

  three_parts : sound_stored (phase_of which w) x ≡ (slots_own && (removals_name && unused_zero (phase_of which w).nurses (phase_of which w).tabu x))
  three_parts = question_eleven (phase_of which w) x s (phase_fits w which a)

  pub sound_unused : {r q z : Bool} {m tl : ℕ} → r ≡ slots_own → r ≡ true → q ≡ removals_name → q ≡ true → m ≡ nurses w → tl ≡ tabu w → z ≡ unused_zero m tl x
      → z ≡ sound_stored (phase_of which w) x
  sound_unused {r} {q} {z} {m} {tl} e f g h n t u =
      let first : slots_own ≡ true = sym e ∙ f in
      let second : removals_name ≡ true = sym g ∙ h in
      u ∙ ap₂ (λ (k l : ℕ). unused_zero k l x) (n ∙ sym (phase_nurses w which)) (t ∙ sym (phase_tabu w which))
      ∙ sym (three_parts ∙ rw (first, second))

  pub sound_removals : {r q : Bool} → r ≡ slots_own → r ≡ true → q ≡ removals_name → q ≡ false → false ≡ sound_stored (phase_of which w) x
  sound_removals e f g h =
      let first : slots_own ≡ true = sym e ∙ f in
      let second : removals_name ≡ false = sym g ∙ h in
      sym (three_parts ∙ rw (first, second))

  pub sound_slots : {r : Bool} → r ≡ slots_own → r ≡ false → false ≡ sound_stored (phase_of which w) x
  sound_slots e f =
      let first : slots_own ≡ false = sym e ∙ f in
      sym (three_parts ∙ rw first)

-- ---- question 10, over the nurses from i on

range_here : (m i : ℕ) → i < m → up_from i (m - i) ≡ i ∷ up_from (i + 1) (m - (i + 1))
unfolding up_from
range_here m i h =
    let e : m - i ≡ suc (m - (i + 1)) = omega arith in
    rw (e, add-one i)

range_past : (m i : ℕ) → m ≤ i → up_from i (m - i) ≡ []
unfolding up_from
range_past m i h =
    let e : m - i ≡ 0 = omega arith in
    rw e

module _ (lists : ℕ → List ℕ) {m : ℕ} (i : ℕ) {W : Option Refusal} (left : W ≡ lacking lists (up_from i (m - i))) where
  lacking_here : i < m → W ≡ lacking lists (i ∷ up_from (i + 1) (m - (i + 1)))
  lacking_here h = left ∙ ap (lacking lists) (range_here m i h)

  pub lacking_more : i < m → ltb 0 (length (lists i)) ≡ true → W ≡ lacking lists (up_from (i + 1) (m - (i + 1)))
  lacking_more h e = lacking_here h ∙ go (lists i) refl
    where
      go : (l : List ℕ) → lists i ≡ l → lacking lists (i ∷ up_from (i + 1) (m - (i + 1))) ≡ lacking lists (up_from (i + 1) (m - (i + 1)))
      go [] q = let z : ltb 0 (length {A = ℕ} []) ≡ true = subst (λ (l : List ℕ). ltb 0 (length l) ≡ true) q e in absurd (not_both z refl)
      go (p ∷ ps) q = rw (q, lacking)

  pub lacking_stop : i < m → ltb 0 (length (lists i)) ≡ false → some (numbered question.patterns (i + 1)) ≡ W
  lacking_stop h e = ap (λ (p : ℕ). some (numbered question.patterns p)) (add-one i) ∙ sym (lacking_here h ∙ go (lists i) refl)
    where
      go : (l : List ℕ) → lists i ≡ l → lacking lists (i ∷ up_from (i + 1) (m - (i + 1))) ≡ some (numbered question.patterns (suc i))
      go [] q = rw (q, lacking)
      go (p ∷ ps) q =
          let z : ltb 0 (length (p ∷ ps)) ≡ false = subst (λ (l : List ℕ). ltb 0 (length l) ≡ false) q e in
          absurd (not_both (lt-ltb 0 (length (p ∷ ps)) (omega arith)) z)

  pub lacking_end : m ≤ i → none ≡ W
  lacking_end h = sym (left ∙ ap (lacking lists) (range_past m i h))
