-- The roster that code gives out: the letters of all nurses' patterns from the start, 0 after them, and their count.
use Rattle.std.specs.Prelude.{◌≡◌, List, ◌++◌, ℕ, ◌-◌, ◌*◌, replicate}
use Rattle.fields.specs.Sizes.{letter_places}
use Rattle.fields.specs.Fields.{nurses, days}
use Rattle.letters.specs.Letters.{letters}
use Rattle.letters.specs.declared.written.Roster.{Roster}

pub record Written (w : List ℕ) (ps qs : ℕ → ℕ) (r : Roster) : Type 0 where
  pub given : r.letters ≡ letters w ps qs (nurses w) ++ replicate (letter_places - nurses w * days w) 0
  pub counted : r.count ≡ nurses w * days w
