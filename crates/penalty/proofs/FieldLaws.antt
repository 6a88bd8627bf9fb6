-- What an accepted ward says of the numbers that the penalty reads: how many they are, and how large.
use Rattle.std.specs.Prelude.{◌≡◌, List, ℕ, ◌+◌, ◌*◌, ◌<◌}
use Rattle.std.proofs.Common.{arith}
use Rattle.fields.specs.Fields.{Accepted, days, member_sets, needs}
use Rattle.fields.proofs.FieldLaws.{length_member_sets, length_needs}
use Rattle.penalty.specs.Weights.{Weights, Light}
use Rattle.penalty.specs.CodeCounts.{weights_of, no_high, DayNeeds}

module _ (w : List ℕ) (a : Accepted w) where
  pub needs_are : (d : ℕ) → d < days w → DayNeeds (member_sets w) (needs w d)
  needs_are d h = record {
    groups = rw (length_member_sets w a) a.groups_most;
    size = rw (length_member_sets w a, length_needs w d a h);
    small = λ j. a.needs_most d j h;
  }

  pub light : (k : ℕ) → k < 2 → Light (weights_of w k)
  unfolding weights_of
  light k h = record {
    light_w = a.weight_most (3 * k) (omega arith);
    light_u = a.weight_most (3 * k + 1) (omega arith);
    light_v = a.weight_most (3 * k + 2) (omega arith);
  }

pub light_no_high : {wt : Weights} → Light wt → Light (no_high wt)
light_no_high l = record { light_w = l.light_w; light_u = l.light_u; light_v = omega arith }

-- the same of parts under other names, as a call's results are
pub needs_of : (w : List ℕ) (d : ℕ) {sets numbers : List ℕ} → Accepted w → d < days w → sets ≡ member_sets w → numbers ≡ needs w d → DayNeeds sets numbers
needs_of w d a h e q = rw (e, q) (needs_are w a d h)

pub light_of : (w : List ℕ) (k : ℕ) {wt : Weights} → Accepted w → k < 2 → wt ≡ weights_of w k → Light wt
light_of w k a h e = rw e (light w a k h)

pub low_light_of : (w : List ℕ) (k : ℕ) {wt : Weights} → Accepted w → k < 2 → wt ≡ no_high (weights_of w k) → Light wt
low_light_of w k a h e = rw e (light_no_high (light w a k h))
