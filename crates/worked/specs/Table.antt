-- Document 01's examples, one table with one statement: what a definition comes to, which the prover computes, is what the document says.
use Rattle.std.specs.Prelude.{ℕ, ◌+◌, ◌^◌, ◌≡◌, refl, List, [], ◌∷◌, length, get_or}
use Rattle.std.proofs.Math.Option.{none}
use Rattle.numbers.specs.Range.{up_from, filter, all, any_of}
use Rattle.numbers.specs.Sum.{sum_to, one_if}
use Rattle.numbers.specs.Digits.{number_of}
use Rattle.numbers.specs.Patterns.{pattern, unpaired, days_of, pair_of}
use Rattle.codec.specs.Groups.{encode}
use Rattle.fields.specs.Worked.{worked_ward}
use Rattle.fields.specs.Fields.{block_at, block, groups_at, member_sets, needs_at, needs, tail_at}
use Rattle.rows.specs.Rows.{row_state, marks_allow, available_on, duty_on}
use Rattle.rows.specs.Pairs.{in_pair, free_on}
use Rattle.fields.specs.declared.rules.Rules.{Rules}
use Rattle.nights.specs.Nights.{starts, follow, in_common, common, common_of}
use Rattle.nights.specs.Hers.{shifted, through, last_run, hers, night_list}
use Rattle.days.specs.Days.{day_list, day_rule, choice, row_duty, same, free_of, windows_hold, rests}
use Rattle.history.specs.Slot.{Slot, exchanged}
use Rattle.penalty.specs.Penalty.{on_duty, members, short_on, over_on, unplaced_in, night_parts, night_penalty, day_parts, day_penalty}
use Rattle.letters.specs.Letters.{letters, row_letters_of, letter}

-- days 7, V 2, L 1, g1 3
abbrev seven : Rules
seven = record { most = 2; longest = 1; g1 = 3; g2 = 1; g3 = 1 }

-- L 2, g1 3, g2 4
abbrev gaps : Rules
gaps = record { most = 15; longest = 2; g1 = 3; g2 = 4; g3 = 1 }

-- 1 where these starts may stand together, else 0
abbrev may : ℕ → List ℕ
may p = one_if (in_common gaps 31 p) ∷ []

-- the ward worked through: everyone unplaced, and the patterns that it ends with
abbrev fresh : ℕ → Slot
fresh i = none

abbrev nights : ℕ → ℕ
nights i = get_or (1 ∷ 0 ∷ []) i 0

abbrev worked_days : ℕ → ℕ
worked_days i = get_or (0 ∷ 3 ∷ []) i 0

-- what a definition comes to, computed when it is asked for, and what the document says
pub data Example : Type 0 where
  row : (ℕ → List ℕ) → List ℕ → Example

abbrev pub table : List Example
table =
    row (λ u. encode 0) (0x00 ∷ [])
    ∷ row (λ u. encode 127) (0x7f ∷ [])
    ∷ row (λ u. encode 128) (0x80 ∷ 0x01 ∷ [])
    -- the count of patterns
    ∷ row (λ u. length (common seven 7) ∷ []) (11 ∷ [])
    -- start 1 may be followed by 6, not by 5; starts 1 and 3 by 9, not by 8
    ∷ row (λ u. may (1 + 2 ^ 5)) (1 ∷ [])
    ∷ row (λ u. may (1 + 2 ^ 4)) (0 ∷ [])
    ∷ row (λ u. may (1 + 2 ^ 2 + 2 ^ 8)) (1 ∷ [])
    ∷ row (λ u. may (1 + 2 ^ 2 + 2 ^ 7)) (0 ∷ [])
    -- the worked ward's common list, and nurse 2's own
    ∷ row (λ u. common_of worked_ward) (0 ∷ 1 ∷ 2 ∷ 4 ∷ [])
    ∷ row (λ u. night_list worked_ward 1) (0 ∷ 1 ∷ [])
    -- its penalties by night: fresh; nurse 1 takes 1; nurse 2 takes 0
    ∷ row (λ u. night_penalty worked_ward fresh ∷ []) (20000001 ∷ [])
    ∷ row (λ u. night_penalty worked_ward (exchanged fresh 0 (unpaired 1)) ∷ []) (10000000 ∷ [])
    ∷ row (λ u. night_penalty worked_ward (exchanged (exchanged fresh 0 (unpaired 1)) 1 (unpaired 0)) ∷ []) (0 ∷ [])
    -- its day lists over those nights
    ∷ row (λ u. day_list worked_ward 0 (unpaired (nights 0))) (0 ∷ [])
    ∷ row (λ u. day_list worked_ward 1 (unpaired (nights 1))) (0 ∷ 1 ∷ 2 ∷ 3 ∷ [])
    -- its penalties by day: fresh; nurse 2 takes 3; nurse 1 takes 0
    ∷ row (λ u. day_penalty worked_ward fresh ∷ []) (20000002 ∷ [])
    ∷ row (λ u. day_penalty worked_ward (exchanged fresh 1 (unpaired 3)) ∷ []) (10000000 ∷ [])
    ∷ row (λ u. day_penalty worked_ward (exchanged (exchanged fresh 1 (unpaired 3)) 0 (unpaired 0)) ∷ []) (0 ∷ [])
    -- its roster, Nn/ and --/
    ∷ row (λ u. letters worked_ward nights worked_days 2) (78 ∷ 110 ∷ 47 ∷ 45 ∷ 45 ∷ 47 ∷ [])
    ∷ []

-- the two sides of each row are equal
abbrev pub Holds : List Example → Type 0
Holds [] = Unit
Holds (row comes_to says ∷ rows) = (comes_to 0 ≡ says) × Holds rows

pub examples_hold : Holds table
unfolding encode worked_ward common in_common starts follow shifted through last_run marks_allow hers night_list filter all up_from sum_to number_of block_at block groups_at member_sets needs_at needs tail_at pattern days_of pair_of in_pair free_on row_state available_on duty_on on_duty members short_on over_on unplaced_in night_parts night_penalty day_parts day_penalty day_list day_rule choice row_duty same any_of free_of windows_hold rests letters row_letters_of letter
examples_hold = (refl, (refl, (refl, (refl, (refl, (refl, (refl, (refl, (refl, (refl, (refl, (refl, (refl, (refl, (refl, (refl, (refl, (refl, (refl, tt)))))))))))))))))))
