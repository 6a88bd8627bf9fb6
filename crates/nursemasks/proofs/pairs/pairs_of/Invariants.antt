use Rattle.std.proofs.Common.{◌≡◌, ℕ, suc, ◌≤◌, ◌<◌, length, get_or}
use Rattle.fields.specs.Sizes.{pair_most}
use Rattle.nursemasks.specs.CodePairs.{PairDays}
use Rattle.nursemasks.proofs.pairs.pairs_of.Given as goal

abbrev pub invariant-loop-k : goal.invariant-loop-k
invariant-loop-k l = record { long : length l.days ≡ suc pair_most; each : (j : ℕ) → 1 ≤ j → j < l.k → PairDays l.her.ward.numbers.now l.her.index j (get_or l.days j 0) }
