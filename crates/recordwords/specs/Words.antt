-- A search record as the 401 words that C holds: 48 sets of days, 48 pairs, 48 flags, 64 removals of nurse, flag, days and pair, and the steps.
use Rattle.std.specs.Prelude.{ℕ, ◌+◌, ◌*◌, Bool, cond, not, List, [], ◌∷◌, ◌++◌, map, eqb, get_or, take, drop}
use Rattle.fields.specs.Sizes.{nurse_places, removal_places}
use Rattle.numbers.specs.Range.{up_from}
use Rattle.numbers.specs.Patterns.{pattern, days_of, pair_of}
use Rattle.search.specs.declared.Record.{Record as Stored}
use Rattle.removals.specs.declared.Removal.{Removal as StoredRemoval}

-- the words of everyone's patterns: the days, and from pairs_at on the pairs
abbrev pub pairs_at : ℕ
pairs_at = nurse_places

abbrev pub pattern_words : ℕ
pattern_words = pairs_at + nurse_places

-- where the flags begin; the removals, of four words each; where the steps stand; how many words there are
abbrev pub flags_at : ℕ
flags_at = pattern_words

abbrev pub removals_at : ℕ
removals_at = flags_at + nurse_places

abbrev pub steps_at : ℕ
steps_at = removals_at + removal_places * 4

abbrev pub record_words : ℕ
record_words = steps_at + 1

-- ---- read

-- nurse i's pattern
abbrev pub pattern_at : List ℕ → ℕ → ℕ
pattern_at words i = pattern (get_or words i 0) (get_or words (pairs_at + i) 0)

-- everyone's: the first words of a record, and the nights that a day search is handed
unfoldable pub patterns_of_words : List ℕ → List ℕ
patterns_of_words words = map (pattern_at words) (up_from 0 nurse_places)

-- a flag is set by any word but 0
abbrev pub flag_of : ℕ → Bool
flag_of word = not (eqb word 0)

-- removal j
abbrev pub removal_at : List ℕ → ℕ → StoredRemoval
removal_at words j =
    record {
      nurse = get_or words (removals_at + j * 4) 0;
      has = flag_of (get_or words (removals_at + j * 4 + 1) 0);
      pattern = pattern (get_or words (removals_at + j * 4 + 2) 0) (get_or words (removals_at + j * 4 + 3) 0);
    }

unfoldable pub record_of_words : List ℕ → Stored
record_of_words words =
    record {
      patterns = patterns_of_words words;
      placed = map flag_of (take nurse_places (drop flags_at words));
      removals = map (removal_at words) (up_from 0 removal_places);
      steps = get_or words steps_at 0;
    }

-- ---- written

-- a flag is written as 0 or 1
abbrev pub flag_word : Bool → ℕ
flag_word flag = cond flag 1 0

abbrev pub removal_words : List StoredRemoval → List ℕ
removal_words [] = []
removal_words (x ∷ xs) = x.nurse ∷ flag_word x.has ∷ days_of x.pattern ∷ pair_of x.pattern ∷ removal_words xs

unfoldable pub words_of_record : Stored → List ℕ
words_of_record r =
    map days_of r.patterns
    ++ (map pair_of r.patterns
    ++ (map flag_word r.placed ++ (removal_words r.removals ++ (r.steps ∷ []))))
