-- Nights are one phase of the search; days over one choice of nights another.
use Rattle.std.specs.Prelude.{Bool, ◌&&◌, List, [], map, ℕ, suc, leb, eqb, length, get_or}
use Rattle.std.proofs.Math.Option.{Option, some}
use Rattle.numbers.specs.Range.{up_from, all}
use Rattle.numbers.specs.Patterns.{unpaired, days_of}
use Rattle.fields.specs.Fields.{nurses, tabu}
use Rattle.nights.specs.Nights.{common_of}
use Rattle.nights.specs.Own.{own_pattern, pattern_list}
use Rattle.days.specs.Days.{day_list}
use Rattle.daylists.specs.Lists.{first_over}
use Rattle.penalty.specs.Penalty.{night_penalty, day_penalty}
use Rattle.history.specs.Phase.{Phase}
use Rattle.refusals.specs.declared.Refusal.{Refusal}
use Rattle.refusals.specs.Refusals.{first, unless}
use Rattle.refusals.specs.Questions as question
use Rattle.removals.specs.Removals.{pattern_of}
use Rattle.letters.specs.Letters.{letters}

-- ---- nights

-- question 9: does the buffer hold the common list?
unfoldable pub common_fits : List ℕ → ℕ → Option Refusal
common_fits w places = unless (leb (length (common_of w)) places) question.lists 0

unfoldable pub night_phase : List ℕ → Phase
night_phase w =
    record {
      nurses = nurses w;
      tabu = tabu w;
      patterns = pattern_list w;
      cost = night_penalty w;
      letters = λ slots. [];
      room = common_fits w;
    }

-- ---- days over one choice of nights: nurse i's pattern by night, with its pair, is nights i

-- nurse i's pattern among those handed in
abbrev pub night_of : List ℕ → ℕ → ℕ
night_of nights i = get_or nights i 0

-- question 8: is each night pattern hers, with its pair, at night penalty 0?
unfoldable pub nights_open : List ℕ → (ℕ → ℕ) → Bool
nights_open w nights = all (λ i. own_pattern w i (nights i)) (up_from 0 (nurses w)) && eqb (night_penalty w (λ i. some (nights i))) 0

-- question 9: does the buffer hold the lists, each after the one before? The place is the first nurse who doesn't fit
unfoldable pub lists_fit : (ℕ → List ℕ) → ℕ → ℕ → Option Refusal
lists_fit lists m places = let over = first_over lists places 0 m in unless (eqb over m) question.lists (suc over)

-- her day list over her pattern by night
abbrev pub day_list_over : List ℕ → (ℕ → ℕ) → ℕ → List ℕ
day_list_over w nights i = day_list w i (nights i)

-- her patterns by day: those of the list, with no pair
abbrev pub day_patterns_over : List ℕ → (ℕ → ℕ) → ℕ → List ℕ
day_patterns_over w nights i = map unpaired (day_list_over w nights i)

unfoldable pub day_phase : List ℕ → (ℕ → ℕ) → Phase
day_phase w nights =
    record {
      nurses = nurses w;
      tabu = tabu w;
      patterns = day_patterns_over w nights;
      cost = day_penalty w;
      letters = λ slots. letters w (λ i. days_of (nights i)) (λ i. days_of (pattern_of (slots i))) (nurses w);
      room = λ places. first (unless (nights_open w nights) question.nights 0) (lists_fit (day_list_over w nights) (nurses w) places);
    }
