use Rattle.std.proofs.Common.{◌-◌, ◌<◌, ◌≡◌, ℕ, Bool, List, length}
use Rattle.std.specs.Prelude.{ltb}
use Rattle.numbers.specs.Range.{up_from}
use Rattle.history.specs.Record.{lacking}
use Rattle.phases.proofs.questions.patterns_asked.Given as goal

abbrev pub invariant-loop-i : goal.invariant-loop-i
invariant-loop-i g l =
    (lists : ℕ → List ℕ) → ((i : ℕ) (b : Bool) → i < l.m → goal.F-post g l.has i b → b ≡ ltb 0 (length (lists i)))
    → lacking lists (up_from 0 l.m) ≡ lacking lists (up_from l.i (l.m - l.i))
