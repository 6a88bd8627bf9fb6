-- The layout as the walk over its places goes: the field that is wanted next, and what the walk knows of sizes.
use Rattle.std.specs.Prelude.{ℕ, zero, suc, ◌^◌, ◌≤◌, ◌<◌}
use Rattle.std.specs.declared.option.Option.{Option}
use Rattle.std.specs.declared.option.Option.TheVariants.{None, Some}
use Rattle.layout.specs.declared.Field.{Field}
use Rattle.layout.specs.Grammar.{Grammar, done, number}

-- the field that the next number has, and what is left after the number v
abbrev pub wanted : Grammar → Option Field
wanted done = None
wanted (number f k) = Some f

abbrev pub after : Grammar → ℕ → Grammar
after done v = done
after (number f k) v = k v

-- a field's least and most are below 2 ^ 49: they fit seven groups
abbrev pub SmallField : Option Field → Type 0
SmallField (Some f) = (f.least < 2 ^ 49) × (f.most < 2 ^ 49)
SmallField None = Unit

-- at most n numbers, each of which seven groups hold
abbrev pub Within : ℕ → Grammar → Type 0
Within n done = Unit
Within zero (number f k) = ⊥
Within (suc n) (number f k) = SmallField (Some f) × ((v : ℕ) → f.least ≤ v → v ≤ f.most → Within n (k v))
