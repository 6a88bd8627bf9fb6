-- The roster that a day advance at penalty zero gives out: its length, its letters, and that the check says yes to it.
use Rattle.std.specs.Prelude.{◌≡◌, refl, Bool, true, false, cond, ◌&&◌, List, [], ◌∷◌, ◌++◌, map, ℕ, zero, suc, ◌+◌, ◌*◌, ◌^◌, ◌≤◌, ◌<◌, eqb, length, get_or}
use Rattle.std.proofs.Common.{sym, ap, ◌∙◌, ⊎_elim, not-suc-le-zero, le_of_suc-le-suc, eq-or-lt_of_le, arith, eq-eqb, get_or-append-add}
use Rattle.std.proofs.Math.Arith.{digits_lt}
use Rattle.std.proofs.Math.ListN.{get_or-append}
use Rattle.std.proofs.Math.Option.{Option, none, some}
use Rattle.numbers.specs.Range.{up_from, all}
use Rattle.numbers.specs.Sum.{one_if}
use Rattle.numbers.specs.Digits.{has}
use Rattle.numbers.specs.Patterns.{days_of}
use Rattle.numbers.proofs.SumLaws.{sum_ext}
use Rattle.fields.specs.Fields.{Accepted, nurses, days, groups, block, member_sets, needs, need, low, high, pair_count}
use Rattle.rows.specs.Rows.{duty_on}
use Rattle.nights.specs.Own.{own_pattern}
use Rattle.days.specs.Days.{day_rule_of}
use Rattle.history.specs.Slot.{Slot}
use Rattle.penalty.specs.Penalty.{on_duty, members, at_night, at_day, night_penalty, day_penalty}
use Rattle.penalty.specs.Held.{LowsHeld, HighsHeld, NightHeld, DayHeld}
use Rattle.penalty.proofs.HeldLaws.{night_zero, day_zero}
use Rattle.letters.specs.Letters.{letter, row_letters_of, row_letters, letters, is_letter, first_bad, or_count, misplaced}
use Rattle.rostercheck.specs.Check.{Follows, row_of, lettered, at_duty, Holds}
use Rattle.rostercheck.specs.CodeCheck.{holds}
use Rattle.letters.proofs.RowLaws.{row_fits, row_at, letters_length}
use Rattle.rostercheck.proofs.RowLaws.{duty_five, starts_letter, worked_letter, worked_available, part_length, part_at, row_of_each}
use Rattle.rostercheck.proofs.CheckLaws.{holds_complete}

-- ---- the letters of the first k nurses

module _ (w : List ℕ) (ps qs : ℕ → ℕ) where
  last_row : (k d : ℕ) → d < days w → get_or (letters w ps qs (suc k)) (k * days w + d) 0 ≡ letter (duty_on (block w k) (ps k) (qs k) (suc d))
  unfolding letters
  last_row k d h =
      ap (λ (x : ℕ). get_or (letters w ps qs k ++ row_letters w k (ps k) (qs k)) (x + d) 0) (sym (letters_length w ps qs k))
      ∙ get_or-append-add (letters w ps qs k) (row_letters w k (ps k) (qs k)) d 0
      ∙ row_at (block w k) (days w) (ps k) (qs k) d h

  rows_before : (k j : ℕ) → j < k * days w → get_or (letters w ps qs (suc k)) j 0 ≡ get_or (letters w ps qs k) j 0
  unfolding letters
  rows_before k j h = get_or-append (letters w ps qs k) (row_letters w k (ps k) (qs k)) 0 j (rw (letters_length w ps qs k) h)

  pub letters_at : (k i d : ℕ) → i < k → d < days w → get_or (letters w ps qs k) (i * days w + d) 0 ≡ letter (duty_on (block w i) (ps i) (qs i) (suc d))
  letters_at zero i d h l = absurd (not-suc-le-zero h)
  letters_at (suc k) i d h l =
      ⊎_elim (λ e. rw e (last_row k d l)) (λ m. rows_before k (i * days w + d) (digits_lt m l) ∙ letters_at k i d m l) (eq-or-lt_of_le (le_of_suc-le-suc h))

  -- ---- they are all of the five

  all_append : (t : ℕ → Bool) (xs ys : List ℕ) → all t xs ≡ true → all t ys ≡ true → all t (xs ++ ys) ≡ true
  unfolding all
  all_append t [] ys e f = f
  all_append t (x ∷ xs) ys e f = and_through (t x) (all t xs) (all t (xs ++ ys)) e (λ r. all_append t xs ys r f)
    where
      and_through : (a b c : Bool) → (a && b) ≡ true → (b ≡ true → c ≡ true) → (a && c) ≡ true
      and_through true b c e g = g e
      and_through false b c e g = e

  all_map : (t : ℕ → Bool) (f : ℕ → ℕ) → ((x : ℕ) → t (f x) ≡ true) → (xs : List ℕ) → all t (map f xs) ≡ true
  unfolding all
  all_map t f h [] = refl
  all_map t f h (x ∷ xs) = rw (h x) (all_map t f h xs)

  letters_five : (k : ℕ) → all is_letter (letters w ps qs k) ≡ true
  unfolding letters row_letters_of all
  letters_five zero = refl
  letters_five (suc k) =
      all_append is_letter (letters w ps qs k) (row_letters w k (ps k) (qs k)) (letters_five k)
      (all_map is_letter (λ d. letter (duty_on (block w k) (ps k) (qs k) d)) (λ d. duty_five (block w k) (ps k) (qs k) d) (up_from 1 (days w)))

none_bad : (at : ℕ) (cs : List ℕ) → all is_letter cs ≡ true → first_bad at cs ≡ none
unfolding first_bad all
none_bad at [] e = refl
none_bad at (c ∷ cs) e = step (is_letter c) (all is_letter cs) (first_bad (suc at) cs) at e (λ r. none_bad (suc at) cs r)
  where
    step : (a b : Bool) (f : Option ℕ) (at : ℕ) → (a && b) ≡ true → (b ≡ true → f ≡ none) → cond a f (some at) ≡ none
    step true b f at e g = g e
    step false b f at e g = let z : ◌≡◌ {A = ℕ} 0 1 = cc in absurd (omega arith)

-- question 12 lets it through
pub letters_placed : (w : List ℕ) (ps qs : ℕ → ℕ) → misplaced (nurses w * days w) (letters w ps qs (nurses w)) ≡ none
unfolding misplaced
letters_placed w ps qs =
    let r = letters w ps qs (nurses w) in
    let size = nurses w * days w in
    ap (λ (f : Option ℕ). or_count f (length r) size) (none_bad 0 r (letters_five w ps qs (nurses w)))
    ∙ ap (λ (x : Bool). cond x none (some (length r))) (eq-eqb (length r) size (letters_length w ps qs (nurses w)))

-- ---- counts of nurses who are on alike

module _ (w : List ℕ) (on on' : ℕ → Bool) (e : (i : ℕ) → i < nurses w → on i ≡ on' i) where
  pub duty_alike : on_duty w on ≡ on_duty w on'
  unfolding on_duty
  duty_alike = sum_ext (nurses w) (λ i. one_if (on i)) (λ i. one_if (on' i)) (λ i h. ap one_if (e i h))

  pub members_alike : (g : ℕ) → members w on g ≡ members w on' g
  unfolding members
  members_alike g =
      sum_ext (nurses w) (λ i. one_if (on i && has (get_or (member_sets w) g 0) i)) (λ i. one_if (on' i && has (get_or (member_sets w) g 0) i))
      (λ i h. ap (λ (b : Bool). one_if (b && has (get_or (member_sets w) g 0) i)) (e i h))

-- ---- the check's yes

-- everyone's patterns are hers: cs by night, with their pairs, and qs by day
pub record Patterns (w : List ℕ) (cs qs : ℕ → ℕ) : Type 0 where
  pub nights_hers : (i : ℕ) → i < nurses w → own_pattern w i (cs i) ≡ true
  pub days_hers : (i : ℕ) → i < nurses w → day_rule_of w i (cs i) (days_of (qs i)) ≡ true

-- everyone placed
abbrev pub placed_all : (ℕ → ℕ) → ℕ → Slot
placed_all cs i = some (cs i)

-- the days of everyone's patterns
abbrev pub days_in : (ℕ → ℕ) → ℕ → ℕ
days_in cs i = days_of (cs i)

-- the letters that patterns make
abbrev pub letters_by : List ℕ → (ℕ → ℕ) → (ℕ → ℕ) → List ℕ
letters_by w cs qs = letters w (days_in cs) (days_in qs) (nurses w)

module _ (w : List ℕ) (cs qs : ℕ → ℕ) (all_hers : Patterns w cs qs) where
  given : List ℕ
  given = letters_by w cs qs

  given_long : length given ≡ nurses w * days w
  unfolding given
  given_long = letters_length w (days_in cs) (days_in qs) (nurses w)

  given_fits : (i : ℕ) → i < nurses w → i * days w + days w ≤ length given
  given_fits i h = omega (arith, given_long, row_fits (nurses w) (days w) i h)

  given_follows : (i : ℕ) → i < nurses w → Follows w given i
  unfolding given
  given_follows i h = record {
    pattern = cs i;
    days = days_of (qs i);
    pattern_hers = all_hers.nights_hers i h;
    days_hers = all_hers.days_hers i h;
    row = row_of_each (row_of w given i) (days w) (part_length given (i * days w) (days w) (given_fits i h)) (block w i) (days_of (cs i)) (days_of (qs i))
        (λ d l. part_at given (i * days w) (days w) (given_fits i h) d l ∙ letters_at w (days_in cs) (days_in qs) (nurses w) i d h l);
  }

  given_night : (d : ℕ) → d < days w → (i : ℕ) → i < nurses w → at_duty w given 0 d i ≡ at_night w (placed_all cs) d i
  unfolding given lettered
  given_night d l i h =
      ap (λ (c : ℕ). eqb c (letter 2)) (letters_at w (days_in cs) (days_in qs) (nurses w) i d h l) ∙ starts_letter (block w i) (days_of (cs i)) (days_of (qs i)) d

  given_day : (d : ℕ) → d < days w → (i : ℕ) → i < nurses w → at_duty w given 1 d i ≡ at_day w (placed_all qs) d i
  unfolding given lettered
  given_day d l i h =
      ap (λ (c : ℕ). eqb c (letter 1)) (letters_at w (days_in cs) (days_in qs) (nurses w) i d h l)
      ∙ worked_letter (block w i) (days_of (cs i)) (days_of (qs i)) d (worked_available w i (cs i) (days_of (qs i)) d (all_hers.days_hers i h) l)

  -- the needs, lows and highs of one duty, from those of the nurses on alike
  module _ (k d : ℕ) (on : ℕ → Bool) (alike : (i : ℕ) → i < nurses w → at_duty w given k d i ≡ on i) (lows : LowsHeld w k on d) (highs : HighsHeld w k on d) where
    alike_need : need (needs w d) k ≤ on_duty w (at_duty w given k d)
    alike_need = rw (duty_alike w (at_duty w given k d) on alike) lows.need_held

    alike_low : (g : ℕ) → g < groups w → low (needs w d) k g ≤ members w (at_duty w given k d) g
    alike_low g h = rw (members_alike w (at_duty w given k d) on alike g) (lows.low_held g h)

    alike_high : (g : ℕ) → g < groups w → members w (at_duty w given k d) g ≤ high (needs w d) k g
    alike_high g h = rw (members_alike w (at_duty w given k d) on alike g) (highs g h)

  module _ (night : NightHeld w (placed_all cs)) (day : DayHeld w (placed_all qs)) where
    given_needs : (k d : ℕ) → k < 2 → d < days w → need (needs w d) k ≤ on_duty w (at_duty w given k d)
    given_needs zero d h l = alike_need 0 d (at_night w (placed_all cs) d) (given_night d l) (night.nights d l) (night.highs d l)
    given_needs (suc zero) d h l = alike_need 1 d (at_day w (placed_all qs) d) (given_day d l) (day.worked d l) (day.highs d l)
    given_needs (suc (suc k)) d h l = absurd (omega arith)

    given_lows : (k d g : ℕ) → k < 2 → d < days w → g < groups w → low (needs w d) k g ≤ members w (at_duty w given k d) g
    given_lows zero d g h l = alike_low 0 d (at_night w (placed_all cs) d) (given_night d l) (night.nights d l) (night.highs d l) g
    given_lows (suc zero) d g h l = alike_low 1 d (at_day w (placed_all qs) d) (given_day d l) (day.worked d l) (day.highs d l) g
    given_lows (suc (suc k)) d g h l = absurd (omega arith)

    given_highs : (k d g : ℕ) → k < 2 → d < days w → g < groups w → members w (at_duty w given k d) g ≤ high (needs w d) k g
    given_highs zero d g h l = alike_high 0 d (at_night w (placed_all cs) d) (given_night d l) (night.nights d l) (night.highs d l) g
    given_highs (suc zero) d g h l = alike_high 1 d (at_day w (placed_all qs) d) (given_day d l) (day.worked d l) (day.highs d l) g
    given_highs (suc (suc k)) d g h l = absurd (omega arith)

    pub given_holds : Holds w (letters_by w cs qs)
    unfolding given
    given_holds = record { rows = given_follows; needs_met = given_needs; lows_met = given_lows; highs_met = given_highs }

    pub given_yes : pair_count w < 2 ^ 32 → holds w (letters_by w cs qs) ≡ true
    given_yes few = holds_complete w (letters_by w cs qs) few (letters_length w (days_in cs) (days_in qs) (nurses w)) given_holds

-- A day advance that leaves penalty zero, over nights at penalty zero, gives out a roster of m times n letters of the five, and the check says yes to it.
pub record Given (w : List ℕ) (cs qs : ℕ → ℕ) : Type 0 where
  pub long : length (letters_by w cs qs) ≡ nurses w * days w
  pub placed : misplaced (nurses w * days w) (letters_by w cs qs) ≡ none
  pub yes_said : holds w (letters_by w cs qs) ≡ true

pub given_at_zero : (w : List ℕ) (cs qs : ℕ → ℕ) → Accepted w → Patterns w cs qs
    → night_penalty w (placed_all cs) ≡ 0 → day_penalty w (placed_all qs) ≡ 0 → Given w cs qs
given_at_zero w cs qs a h n d = record {
  long = letters_length w (days_in cs) (days_in qs) (nurses w);
  placed = letters_placed w (days_in cs) (days_in qs);
  yes_said = given_yes w cs qs h (night_zero w (placed_all cs) a n) (day_zero w (placed_all qs) a d) (omega (arith, a.pairs_most));
}
