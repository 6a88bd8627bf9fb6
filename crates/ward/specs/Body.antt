-- What is known of the numbers of a ward that was read.
use Rattle.std.specs.Prelude.{List, ℕ, ◌≤◌, length, take}
use Rattle.fields.specs.Fields.{body_of, Accepted}

-- the first so many of these are a ward's, which has a body
pub record WardIn (numbers : List ℕ) (count : ℕ) : Type 0 where
  pub fits : count ≤ length numbers
  pub long : 2 ≤ length (take count numbers)
  pub accepted : Accepted (body_of (take count numbers))
