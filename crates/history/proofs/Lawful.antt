-- What the proof of demand 3 takes of a phase; `phases` shows it of nights and days.
use Rattle.std.specs.Prelude.{ℕ, ◌+◌, ◌*◌, ◌<◌, ◌≡◌, ◌≢◌, []}
use Rattle.history.specs.Slot.{Slot, unplaced_cost}
use Rattle.history.specs.Phase.{Phase, unplaced}

-- every nurse has a pattern, and an unplaced nurse adds 10,000,000, flat, to a rest that is below that
pub record Lawful (P : Phase) : Type 0 where
  pub some_pattern : (i : ℕ) → i < P.nurses → P.patterns i ≢ []
  pub rest : (ℕ → Slot) → ℕ
  pub rest_below : (slots : ℕ → Slot) → rest slots < unplaced_cost
  pub flat : (slots : ℕ → Slot) → P.cost slots ≡ unplaced_cost * unplaced P slots + rest slots
