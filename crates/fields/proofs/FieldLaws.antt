-- A ward of edition one is its own body, and how long the parts of an accepted ward are.
use Rattle.std.specs.Prelude.{ℕ, ◌<◌, ◌≡◌, List, length, get_or, drop}
use Rattle.std.proofs.Common.{arith, ne_eqb, length-drop, length-take-le}
use Rattle.fields.specs.Fields.{body_of, days, groups, groups_at, member_sets, needs_at, needs_size, needs, Accepted}

pub body_one : (ws : List ℕ) → (get_or ws 0 0 ≡ 0 → ⊥) → ws ≡ body_of ws
unfolding body_of
body_one ws n = simp (ne_eqb _ _ n)

pub length_member_sets : (w : List ℕ) → Accepted w → length (member_sets w) ≡ groups w
unfolding member_sets
length_member_sets w a = length-take-le (groups w) (drop (groups_at w) w) (rw (length-drop (groups_at w) w) (omega (arith, a.groups_fit)))

pub length_needs : (w : List ℕ) (d : ℕ) → Accepted w → d < days w → length (needs w d) ≡ needs_size w
unfolding needs
length_needs w d a h = length-take-le (needs_size w) (drop (needs_at w d) w) (rw (length-drop (needs_at w d) w) (omega (arith, a.needs_fit d h)))
