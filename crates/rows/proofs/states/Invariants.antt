use Rattle.std.proofs.Common.{◌≡◌, ℕ, suc, ◌<◌, get_or, length}
use Rattle.fields.specs.Sizes.{day_places}
use Rattle.rows.specs.States.{code}
use Rattle.rows.specs.Rows.{row_state}
use Rattle.rows.specs.declared.State.TheVariants.{Open}
use Rattle.rows.proofs.states.Given as goal

abbrev pub invariant-loop-d : goal.invariant-loop-d
invariant-loop-d l = (length l.states ≡ day_places) × (code l.state ≡ row_state l.numbers l.p l.d) × ((e : ℕ) → e < l.d → code (get_or l.states e Open) ≡ row_state l.numbers l.p (suc e))
