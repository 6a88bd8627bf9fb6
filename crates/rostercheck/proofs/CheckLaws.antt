-- The test says yes exactly when the roster's rules hold: every row follows from patterns, and every day's needs, lows and highs hold.
use Rattle.std.specs.Prelude.{◌≡◌, Bool, true, ◌&&◌, List, ◌↔◌, ℕ, zero, suc, ◌*◌, ◌^◌, ◌≤◌, ◌<◌, leb, length}
use Rattle.std.proofs.Common.{sym, ap, ap₂, ◌∙◌, arith, leb-true, le-leb}
use Rattle.std.proofs.lemmas.Bool.{and_parts, and_from}
use Rattle.numbers.specs.Range.{up_from, all, any_of}
use Rattle.numbers.specs.Patterns.{pattern, days_of, pair_of}
use Rattle.numbers.proofs.PatternLaws.{days_of_pattern, pair_of_pattern, back}
use Rattle.numbers.proofs.RangeLaws.{range_all, range_each}
use Rattle.fields.specs.Fields.{nurses, days, groups, block, needs, need, low, high, pair_count}
use Rattle.rows.specs.Pairs.{pair_numbers, pair_fits}
use Rattle.rows.proofs.PairNumberLaws.{pairs_has, pairs_some}
use Rattle.nights.specs.Hers.{hers_of}
use Rattle.nights.specs.Own.{own_pattern}
use Rattle.nights.proofs.ListLaws.{hers_below}
use Rattle.days.specs.Days.{day_rule_of}
use Rattle.days.proofs.SheetLaws.{rule_below}
use Rattle.penalty.specs.Penalty.{on_duty, members}
use Rattle.letters.specs.Letters.{letter, row_letters}
use Rattle.rostercheck.specs.Check.{Follows, Holds, row_of, at_duty}
use Rattle.rostercheck.specs.CodeCheck.{letters_in, same_row, pair_holds, row_holds, row_of_holds, group_holds, duty_holds, day_holds, holds}
use Rattle.letters.proofs.RowLaws.{row_fits}
use Rattle.rostercheck.proofs.RowLaws.{part_length, worked_available, each_of_row, row_of_each, same_each, each_same, starts_read, worked_read}

-- some pair of the ward is hers under p, with q a day pattern of hers over both
abbrev pub some_pair : List ℕ → ℕ → ℕ → ℕ → Bool
some_pair w i p q = any_of (pair_holds w i p q) (pair_numbers w)

-- a row's test by its patterns
row_is : (w row : List ℕ) (i p q : ℕ) → p ≡ letters_in row (letter 2) (days w) → q ≡ letters_in row (letter 1) (days w)
    → row_holds w i row ≡ (hers_of w i p && (some_pair w i p q && same_row (block w i) (days w) row p q))
unfolding row_holds
row_is w row i p q ep eq = sym (ap₂ (λ (x y : ℕ). hers_of w i x && (some_pair w i x y && same_row (block w i) (days w) row x y)) ep eq)

-- a night pattern of hers with a pair of hers is a pattern of hers
own_of : (w : List ℕ) (i p k : ℕ) → k < 2 ^ 32 → hers_of w i p ≡ true → pair_fits w i p k ≡ true → own_pattern w i (pattern p k) ≡ true
unfolding own_pattern
own_of w i p k l h f = rw (days_of_pattern p k l, pair_of_pattern p k l) (and_from _ _ h f)

own_parts : (w : List ℕ) (i c : ℕ) → own_pattern w i c ≡ true → (hers_of w i (days_of c) && pair_fits w i (days_of c) (pair_of c)) ≡ true
unfolding own_pattern
own_parts w i c e = e

module _ (w roster : List ℕ) (few : pair_count w < 2 ^ 32) (long : length roster ≡ nurses w * days w) where
  -- ---- rows

  row_long : (i : ℕ) → i < nurses w → length (row_of w roster i) ≡ days w
  row_long i h = part_length roster (i * days w) (days w) (omega (arith, row_fits (nurses w) (days w) i h))

  pub row_sound : (i : ℕ) → i < nurses w → row_of_holds w roster i ≡ true → Follows w roster i
  unfolding row_holds
  row_sound i h e =
      let row = row_of w roster i in
      let p = letters_in row (letter 2) (days w) in
      let q = letters_in row (letter 1) (days w) in
      let a = and_parts (hers_of w i p) (some_pair w i p q && same_row (block w i) (days w) row p q) e in
      let b = and_parts (some_pair w i p q) (same_row (block w i) (days w) row p q) a.1 in
      let found = pairs_some w (pair_holds w i p q) b.0 in
      let k = found.0 in
      let small : k < 2 ^ 32 = omega (arith, found.1) in
      let parts = and_parts (pair_fits w i p k) (day_rule_of w i (pattern p k) q) found.2 in
      record {
        pattern = pattern p k;
        days = q;
        pattern_hers = own_of w i p k small a.0 parts.0;
        days_hers = parts.1;
        row = row_of_each row (days w) (row_long i h) (block w i) p q (same_each row (days w) (row_long i h) (block w i) p q b.1)
            ∙ ap (λ (x : ℕ). row_letters w i x q) (sym (days_of_pattern p k small));
      }

  -- a row that follows from some patterns follows from those read off its letters
  row_read : (i p q : ℕ) → p ≡ letters_in (row_of w roster i) (letter 2) (days w) → q ≡ letters_in (row_of w roster i) (letter 1) (days w)
      → hers_of w i p ≡ true → some_pair w i p q ≡ true → same_row (block w i) (days w) (row_of w roster i) p q ≡ true → row_of_holds w roster i ≡ true
  row_read i p q ep eq h d s = row_is w (row_of w roster i) i p q ep eq ∙ and_from _ _ h (and_from _ _ d s)

  pub row_complete : (i : ℕ) → i < nurses w → Follows w roster i → row_of_holds w roster i ≡ true
  row_complete i h f =
      let c = f.pattern in
      let p = days_of c in
      let k = pair_of c in
      let q = f.days in
      let n = days w in
      let row = row_of w roster i in
      let long = row_long i h in
      let hers = and_parts (hers_of w i p) (pair_fits w i p k) (own_parts w i c f.pattern_hers) in
      let e = each_of_row row n long (block w i) p q f.row in
      let day : day_rule_of w i (pattern p k) q ≡ true = ap (λ (x : ℕ). day_rule_of w i x q) (back c) ∙ f.days_hers in
      row_read i p q
      (starts_read row n long (block w i) p q e (hers_below w i p hers.0))
      (worked_read row n long (block w i) p q e (rule_below w i c q f.days_hers) (λ d l. worked_available w i c q d f.days_hers l))
      hers.0 (pairs_has w (pair_holds w i p q) i p k hers.1 (and_from _ _ hers.1 day)) (each_same row n long (block w i) p q e)

  -- ---- needs, lows and highs

  pub record Met (k d : ℕ) : Type 0 where
    pub need_met : need (needs w d) k ≤ on_duty w (at_duty w roster k d)
    pub low_met : (g : ℕ) → g < groups w → low (needs w d) k g ≤ members w (at_duty w roster k d) g
    pub high_met : (g : ℕ) → g < groups w → members w (at_duty w roster k d) g ≤ high (needs w d) k g

  group_sound : (k d g : ℕ) → group_holds w roster k d g ≡ true → (low (needs w d) k g ≤ members w (at_duty w roster k d) g) × (members w (at_duty w roster k d) g ≤ high (needs w d) k g)
  unfolding group_holds
  group_sound k d g e =
      let n = members w (at_duty w roster k d) g in
      let a = and_parts (leb (low (needs w d) k g) n) (leb n (high (needs w d) k g)) e in
      (leb-true _ _ a.0, leb-true _ _ a.1)

  group_complete : (k d g : ℕ) → low (needs w d) k g ≤ members w (at_duty w roster k d) g → members w (at_duty w roster k d) g ≤ high (needs w d) k g → group_holds w roster k d g ≡ true
  unfolding group_holds
  group_complete k d g l h = and_from _ _ (le-leb _ _ l) (le-leb _ _ h)

  duty_sound : (k d : ℕ) → duty_holds w roster k d ≡ true → Met k d
  unfolding duty_holds
  duty_sound k d e =
      let a = and_parts (leb (need (needs w d) k) (on_duty w (at_duty w roster k d))) (all (group_holds w roster k d) (up_from 0 (groups w))) e in
      let each : (g : ℕ) → g < groups w → (low (needs w d) k g ≤ members w (at_duty w roster k d) g) × (members w (at_duty w roster k d) g ≤ high (needs w d) k g) =
      λ g h. group_sound k d g (range_each (group_holds w roster k d) 0 (groups w) a.1 g (omega arith) (omega arith)) in
      record { need_met = leb-true _ _ a.0; low_met = λ g h. (each g h).0; high_met = λ g h. (each g h).1 }

  duty_complete : (k d : ℕ) → Met k d → duty_holds w roster k d ≡ true
  unfolding duty_holds
  duty_complete k d m =
      and_from _ _ (le-leb _ _ m.need_met)
      (range_all (group_holds w roster k d) 0 (groups w) (λ g a h. (let l : g < groups w = omega arith in group_complete k d g (m.low_met g l) (m.high_met g l))))

  duty_each : ((d : ℕ) → d < days w → day_holds w roster d ≡ true) → (k d : ℕ) → k < 2 → d < days w → Met k d
  unfolding day_holds
  duty_each e zero d h l = duty_sound 0 d (and_parts (duty_holds w roster 0 d) (duty_holds w roster 1 d) (e d l)).0
  duty_each e (suc zero) d h l = duty_sound 1 d (and_parts (duty_holds w roster 0 d) (duty_holds w roster 1 d) (e d l)).1
  duty_each e (suc (suc k)) d h l = absurd (omega arith)

  day_complete : (d : ℕ) → Met 0 d → Met 1 d → day_holds w roster d ≡ true
  unfolding day_holds
  day_complete d a b = and_from _ _ (duty_complete 0 d a) (duty_complete 1 d b)

  -- ---- the whole

  pub holds_sound : holds w roster ≡ true → Holds w roster
  unfolding holds
  holds_sound e =
      let a = and_parts (all (row_of_holds w roster) (up_from 0 (nurses w))) (all (day_holds w roster) (up_from 0 (days w))) e in
      let each = duty_each (λ d l. range_each (day_holds w roster) 0 (days w) a.1 d (omega arith) (omega arith)) in
      record {
        rows = λ i h. row_sound i h (range_each (row_of_holds w roster) 0 (nurses w) a.0 i (omega arith) (omega arith));
        needs_met = λ k d h l. (each k d h l).need_met;
        lows_met = λ k d g h l. (each k d h l).low_met g;
        highs_met = λ k d g h l. (each k d h l).high_met g;
      }

  met : Holds w roster → (k d : ℕ) → k < 2 → d < days w → Met k d
  met o k d h l = record { need_met = o.needs_met k d h l; low_met = λ g. o.lows_met k d g h l; high_met = λ g. o.highs_met k d g h l }

  pub holds_complete : Holds w roster → holds w roster ≡ true
  unfolding holds
  holds_complete o =
      and_from _ _
      (range_all (row_of_holds w roster) 0 (nurses w) (λ i a h. (let l : i < nurses w = omega arith in row_complete i l (o.rows i l))))
      (range_all (day_holds w roster) 0 (days w) (λ d a h. (let l : d < days w = omega arith in day_complete d (met o 0 d (omega arith) l) (met o 1 d (omega arith) l))))

  -- yes exactly when every row follows from patterns and every day's needs, lows and highs hold
  pub holds_exactly : (holds w roster ≡ true) ↔ Holds w roster
  holds_exactly = (holds_sound, holds_complete)
