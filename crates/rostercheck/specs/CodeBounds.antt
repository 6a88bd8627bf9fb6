-- The check as its loops go: counts over columns.
use Rattle.std.specs.Prelude.{Bool, ◌&&◌, List, ℕ, leb, length, get_or}
use Rattle.numbers.specs.Range.{up_from, all}
use Rattle.numbers.specs.Sum.{count_to}
use Rattle.numbers.specs.Digits.{has}
use Rattle.fields.specs.Fields.{low, high}

-- the low and high of the group of index g, its members being those in the column
unfoldable pub bounds_hold : List ℕ → List ℕ → ℕ → ℕ → ℕ → Bool
bounds_hold sets needs k col g =
    let count = count_to 64 (λ i. has col i && has (get_or sets g 0) i) in
    leb (low needs k g) count && leb count (high needs k g)

unfoldable pub all_bounds_hold : List ℕ → List ℕ → ℕ → ℕ → Bool
all_bounds_hold sets needs k col = all (bounds_hold sets needs k col) (up_from 0 (length sets))
