use Rattle.std.proofs.Common.{◌≡◌, ℕ, Bool, ◌<◌, ◌^◌}
use Rattle.numbers.specs.Digits.{number_of}
use Rattle.numbers.proofs.set_of.Given as goal

abbrev pub invariant-loop-i : goal.invariant-loop-i
invariant-loop-i g l = (l.set < 2 ^ l.i) × ((t : ℕ → Bool) → ((i : ℕ) (b : Bool) → i < l.n → goal.F-post g l.test i b → b ≡ t i) → l.set ≡ number_of t l.i)
