-- What a nurse holds in a search, what everyone holds after an exchange, and what it costs to hold none.
use Rattle.std.specs.Prelude.{Bool, true, false, cond, ℕ, eqb}
use Rattle.std.proofs.Math.Option.{Option, none, some}

-- the pattern in use by a nurse; none while she is unplaced
abbrev pub Slot : Type 0
Slot = Option ℕ

abbrev pub is_none : Slot → Bool
is_none none = true
is_none (some p) = false

-- everyone's slots after an exchange: nurse i takes the pattern p
abbrev pub exchanged : (ℕ → Slot) → ℕ → ℕ → ℕ → Slot
exchanged slots i p j = cond (eqb j i) (some p) (slots j)

-- a nurse not yet placed adds 10,000,000, flat
abbrev pub unplaced_cost : ℕ
unplaced_cost = 10000000
