-- One removal more, as the code stores it.
use Rattle.std.specs.Prelude.{ℕ, ◌+◌, ◌-◌, min, cond, List, ◌∷◌, ◌++◌, eqb, take, drop}
use Rattle.removals.specs.declared.Removal.{Removal as StoredRemoval}

-- x in front of the first k; what stood after them is dropped, the rest stays
abbrev pub in_front : {A : Type 0} → ℕ → A → List A → List A
in_front k x xs = (x ∷ take k xs) ++ drop (k + 1) xs

-- one removal more after so many steps, of which tl are kept
unfoldable pub pushed : ℕ → ℕ → StoredRemoval → List StoredRemoval → List StoredRemoval
pushed tl steps x rs = cond (eqb tl 0) rs (in_front (min steps (tl - 1)) x rs)
