-- A pattern as one number: a set of days, and the number of a pair of days off, 0 where there is none. Its order is that of the days, then of the pair.
use Rattle.std.specs.Prelude.{ℕ, ◌+◌, ◌*◌, ◌/◌, ◌%◌, ◌^◌}

unfoldable pub pattern : ℕ → ℕ → ℕ
pattern days pair = days * 2 ^ 32 + pair

-- a set of days with no pair: a day pattern, or a night pattern in a ward without pairs
abbrev pub unpaired : ℕ → ℕ
unpaired q = pattern q 0

unfoldable pub days_of : ℕ → ℕ
days_of c = c / 2 ^ 32

unfoldable pub pair_of : ℕ → ℕ
pair_of c = c % 2 ^ 32
