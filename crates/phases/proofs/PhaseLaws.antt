-- Nights and days are phases of which demand 3 is proved: the places fit, the lists ascend, and the unplaced cost a flat 10,000,000 beside a rest below it.
use Rattle.std.specs.Prelude.{ℕ, ◌<◌, ◌≡◌, refl, ◌≢◌, List, [], ◌∷◌, map}
use Rattle.std.proofs.Common.{arith}
use Rattle.numbers.specs.Range.{Ascending}
use Rattle.numbers.specs.Patterns.{unpaired}
use Rattle.numbers.proofs.MemberLaws.{ascending_map}
use Rattle.numbers.proofs.PatternLaws.{fewer_days}
use Rattle.fields.specs.Fields.{Accepted, nurses}
use Rattle.nights.specs.Own.{pattern_list}
use Rattle.nights.proofs.OwnLaws.{own_ascending}
use Rattle.days.proofs.SheetLaws as day-laws
use Rattle.penalty.specs.Penalty.{rest, night_parts, day_parts, unplaced_in}
use Rattle.penalty.proofs.BoundLaws.{night_split, day_split}
use Rattle.history.proofs.Lawful.{Lawful}
use Rattle.search.proofs.Fits.{Fits}
use Rattle.phases.specs.Phases.{night_phase, day_phase, day_list_over}

-- ---- nights

module _ (w : List ℕ) where
  pub night_fits : Accepted w → Fits (night_phase w)
  unfolding night_phase
  night_fits a = record { nurses_most = a.nurses_most; tabu_at_most = a.tabu_at_most }

  pub night_ascending : Accepted w → (i : ℕ) → i < (night_phase w).nurses → Ascending ((night_phase w).patterns i)
  unfolding night_phase
  night_ascending a i h = own_ascending w i (omega (arith, a.pairs_most))

  pub night_lawful : Accepted w → ((i : ℕ) → i < nurses w → pattern_list w i ≢ []) → Lawful (night_phase w)
  unfolding night_phase unplaced_in
  night_lawful a has = record {
    some_pattern = has;
    rest = λ slots. rest (night_parts w slots);
    rest_below = λ slots. (night_split w slots a).1;
    flat = λ slots. (night_split w slots a).0;
  }

-- ---- days

map_none : (xs : List ℕ) → map unpaired xs ≡ [] → xs ≡ []
map_none [] e = refl
map_none (x ∷ xs) e = let z : ◌≡◌ {A = ℕ} 0 1 = cc in absurd (omega arith)

module _ (w : List ℕ) (nights : ℕ → ℕ) where
  pub day_fits : Accepted w → Fits (day_phase w nights)
  unfolding day_phase
  day_fits a = record { nurses_most = a.nurses_most; tabu_at_most = a.tabu_at_most }

  pub day_ascending : (i : ℕ) → i < (day_phase w nights).nurses → Ascending ((day_phase w nights).patterns i)
  unfolding day_phase
  day_ascending i h = ascending_map unpaired (λ x y l. fewer_days x y 0 0 (omega arith) l) (day_list_over w nights i) (day-laws.list_exactly w i (nights i)).ascending

  pub day_lawful : Accepted w → ((i : ℕ) → i < nurses w → day_list_over w nights i ≢ []) → Lawful (day_phase w nights)
  unfolding day_phase unplaced_in
  day_lawful a has = record {
    some_pattern = λ i h e. has i h (map_none (day_list_over w nights i) e);
    rest = λ slots. rest (day_parts w slots);
    rest_below = λ slots. (day_split w slots a).1;
    flat = λ slots. (day_split w slots a).0;
  }
