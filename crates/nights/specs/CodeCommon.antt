-- Lists of patterns that are all in the common list.
use Rattle.std.specs.Prelude.{true, List, ◌≡◌, ℕ, ◌^◌, ◌<◌, length, get_or}
use Rattle.fields.specs.declared.rules.Rules.{Rules}
use Rattle.nights.specs.Nights.{in_common}

-- each of these is in the common list
unfoldable pub Among : Rules → ℕ → List ℕ → Type 0
Among r n xs = (k : ℕ) → k < length xs → (get_or xs k 0 < 2 ^ n) × (in_common r n (get_or xs k 0) ≡ true)
