-- Edition two beside edition one, said of every file and of every list of numbers: older programs refuse what begins with 0, and everything else reads
-- as before.
use Rattle.std.specs.Prelude.{◌≡◌, List, ◌∷◌, ℕ}
use Rattle.refusals.specs.Refusals.{numbered}
use Rattle.refusals.specs.Questions as question
use Rattle.layout.specs.Grammar.{bad, read, check}
use Rattle.layout.specs.Layout.{ward, ward_one}

-- it begins with 0, as every ward from edition two on: 0 is one byte
abbrev pub Later : List ℕ → Type 0
Later xs = (rest : List ℕ) × (xs ≡ 0 ∷ rest)

pub record Editions : Type 0 where
  pub older_read : (file : List ℕ) → Later file → read ward_one 0 file ≡ bad (numbered question.range 0)
  pub same_read : (file : List ℕ) → (Later file → ⊥) → read ward 0 file ≡ read ward_one 0 file
  -- and the writer's questions
  pub older_check : (ws : List ℕ) → Later ws → check ward_one 0 ws ≡ bad (numbered question.range 0)
  pub same_check : (ws : List ℕ) → (Later ws → ⊥) → check ward 0 ws ≡ check ward_one 0 ws
