use Rattle.std.specs.Prelude.{suc}
use Rattle.std.proofs.Common.{◌≡◌, ℕ, ◌<◌, length, get_or}
use Rattle.fields.specs.Sizes.{day_places}
use Rattle.rows.specs.Rows.{duty_on}
use Rattle.letters.specs.Letters.{letter}
use Rattle.letters.proofs.written.row_letters.Given as goal

abbrev pub invariant-loop-d : goal.invariant-loop-d
invariant-loop-d l = (length l.row ≡ day_places) × ((e : ℕ) → e < l.d → get_or l.row e 0 ≡ letter (duty_on l.b.numbers.now l.p l.q (suc e)))
