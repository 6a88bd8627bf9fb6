-- A nurse's own patterns: a night pattern of hers with a pair of hers (document 02, job 2). Nurse i counts from 0.
use Rattle.std.specs.Prelude.{Bool, ◌&&◌, List, [], ◌∷◌, ◌++◌, map, ℕ, ◌^◌}
use Rattle.numbers.specs.Range.{up_from, filter, any_of}
use Rattle.numbers.specs.Patterns.{pattern, days_of, pair_of}
use Rattle.fields.specs.Fields.{days}
use Rattle.rows.specs.Pairs.{pair_numbers, pair_fits}
use Rattle.nights.specs.Hers.{hers_of}

unfoldable pub own_pattern : List ℕ → ℕ → ℕ → Bool
own_pattern w i c = hers_of w i (days_of c) && pair_fits w i (days_of c) (pair_of c)

-- under the night pattern p some pair is hers
unfoldable pub has_pair : List ℕ → ℕ → ℕ → Bool
has_pair w i p = any_of (pair_fits w i p) (pair_numbers w)

-- these night patterns, each with every pair number of the ward
unfoldable pub with_pairs : List ℕ → List ℕ → List ℕ
with_pairs w [] = []
with_pairs w (p ∷ ps) = map (pattern p) (pair_numbers w) ++ with_pairs w ps

-- her list, by ascending night pattern and then by pair
unfoldable pub pattern_list : List ℕ → ℕ → List ℕ
pattern_list w i = filter (own_pattern w i) (with_pairs w (up_from 0 (2 ^ days w)))
