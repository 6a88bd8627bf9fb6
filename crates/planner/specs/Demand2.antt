-- Demand 2 in one record. What `read`, `write`, the lists, the penalties and `check` are is said by the definitions that their contracts cite;
-- this is what holds of those definitions.
use Rattle.std.specs.Prelude.{ℕ, ◌*◌, ◌^◌, ◌≤◌, ◌<◌, ◌≡◌, true, ◌&&◌, ◌↔◌, List, map, ltb, get_or}
use Rattle.std.proofs.Math.Option.{none}
use Rattle.numbers.specs.Range.{filter, Exactly}
use Rattle.numbers.specs.Patterns.{unpaired, days_of, pair_of}
use Rattle.fields.specs.Sizes.{pair_most}
use Rattle.fields.specs.Fields.{nurses, days, longest_days, block, pair_count, body_of}
use Rattle.fields.specs.Rules.{rules_of}
use Rattle.layout.specs.Grammar.{good}
use Rattle.layout.specs.Editions.{Editions}
use Rattle.ward.specs.Answers.{read_ward}
use Rattle.ward.specs.BothWays.{BothWays}
use Rattle.nights.specs.Nights.{in_common, common_of}
use Rattle.nights.specs.Hers.{meets_hers_of, hers_of, night_list}
use Rattle.nights.specs.Own.{own_pattern, with_pairs, pattern_list}
use Rattle.nights.specs.NightRule.{InCommonList, MeetsHers, NightHers, PatternHers}
use Rattle.rows.specs.Pairs.{in_pair, pair_fits}
use Rattle.days.specs.Days.{day_rule_of, day_list}
use Rattle.days.specs.DayRule.{DayHers}
use Rattle.history.specs.Slot.{Slot}
use Rattle.penalty.specs.Penalty.{night_penalty, day_penalty}
use Rattle.penalty.specs.Held.{NightHeld, DayHeld}
use Rattle.letters.specs.Letters.{misplaced}
use Rattle.rostercheck.specs.Check.{Holds}
use Rattle.planner.specs.Answers.{check_says}
use Rattle.std.specs.declared.result.Result.TheVariants.{Ok}
use Rattle.outcomes.specs.declared.Verdict.TheVariants.{Passed}

-- a penalty is zero exactly where nothing is broken, and is never above 485,059,200
pub record Weighs (penalty : (ℕ → Slot) → ℕ) (Held : (ℕ → Slot) → Type 0) : Type 0 where
  pub zero_when : (slots : ℕ → Slot) → (penalty slots ≡ 0) ↔ Held slots
  pub most : (slots : ℕ → Slot) → penalty slots ≤ 485059200

-- the file is one of a ward, the roster has its letters, and every rule holds
pub record Passes (file roster : List ℕ) : Type 0 where
  pub numbers : List ℕ
  pub reads : read_ward file ≡ good numbers
  pub lettered : misplaced (nurses (body_of numbers) * days (body_of numbers)) roster ≡ none
  pub holds : Holds (body_of numbers) roster

-- What holds of the body of a ward that the reader accepts.
pub record WardMeans (w : List ℕ) : Type 0 where
  -- the rules that the lists go by, in document 01's words
  pub common_rule : (p : ℕ) → ((ltb p (2 ^ days w) && in_common (rules_of w) (days w) p) ≡ true) ↔ InCommonList w p
  pub hers_rule : (i p : ℕ) → (meets_hers_of w i p ≡ true) ↔ MeetsHers w i p
  pub night_rule : (i p : ℕ) → (hers_of w i p ≡ true) ↔ NightHers w i p
  pub pattern_rule : (i c : ℕ) → (own_pattern w i c ≡ true) ↔ PatternHers w i c
  pub day_rule : (i c q : ℕ) → (day_rule_of w i c q ≡ true) ↔ DayHers (block w i) (days w) (longest_days w) (days_of c) (in_pair w (pair_of c)) q
  -- it has few pairs, so that its patterns are listed
  pub few_pairs : pair_count w ≤ pair_most
  -- the penalties
  pub by_night : Weighs (night_penalty w) (NightHeld w)
  pub by_day : Weighs (day_penalty w) (DayHeld w)

-- proofs/Demand2Laws shows it
pub record Demand2 : Type 0 where
  -- files of edition one read as before, and a program of edition one refuses a later one's by 3 at offset 0
  pub editions : Editions
  -- reading and writing undo each other
  pub both_ways : BothWays
  -- A pattern is listed, once, exactly when it meets the rules: a night pattern in the common list and among a nurse's own; with its pair in her list, by
  -- night pattern and then by pair; a day pattern in her day list over such a pattern.
  pub common_listed : (w : List ℕ) → Exactly (λ p. ltb p (2 ^ days w) && in_common (rules_of w) (days w) p) (common_of w)
  pub nights_listed : (w : List ℕ) (i : ℕ) → Exactly (hers_of w i) (night_list w i)
  pub patterns_listed : (w : List ℕ) (i : ℕ) → pair_count w < 2 ^ 32 → Exactly (own_pattern w i) (pattern_list w i)
  pub days_listed : (w : List ℕ) (i c : ℕ) → Exactly (day_rule_of w i c) (day_list w i c)
  -- at night one list holds the ward's, and hers are exactly those in it that meet hers
  pub nights_of_common : (w : List ℕ) (i : ℕ) → night_list w i ≡ filter (meets_hers_of w i) (common_of w)
  pub patterns_of_common : (w : List ℕ) (i : ℕ) → pair_count w < 2 ^ 32
      → pattern_list w i ≡ filter (λ c. meets_hers_of w i (days_of c) && pair_fits w i (days_of c) (pair_of c)) (with_pairs w (common_of w))
  -- in a ward without pairs her patterns are her night patterns
  pub without_pairs : (w : List ℕ) (i : ℕ) → pair_count w ≡ 0 → pattern_list w i ≡ map unpaired (night_list w i)
  -- the rules and the penalties, of every ward that the reader says yes to
  pub means : (file ws : List ℕ) → ((i : ℕ) → get_or file i 0 < 256) → read_ward file ≡ good ws → WardMeans (body_of ws)
  -- the check says yes exactly when every rule holds
  pub check_yes : (file roster : List ℕ) → (check_says file roster ≡ Ok Passed) ↔ Passes file roster
