-- Questions in their order, each by its fault in words of its own: what holds of a place where the question is a no there.
use Rattle.std.specs.Prelude.{ℕ, ◌≡◌, ◌⊎◌}

pub data Questions : Type 1 where
  end : Questions
  ask : ℕ → (ℕ → Type 0) → Questions → Questions

-- question q is a no at place p, and no earlier one is a no at any place
unfoldable pub FirstNo : Questions → ℕ → ℕ → Type 0
FirstNo end q p = ⊥
FirstNo (ask number Fault more) q p = ((q ≡ number) × Fault p) ⊎ (((place : ℕ) → Fault place → ⊥) × FirstNo more q p)
