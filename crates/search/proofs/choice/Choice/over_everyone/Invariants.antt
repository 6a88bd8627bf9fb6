use Rattle.std.proofs.Common.{◌≡◌}
use Rattle.history.specs.Phase.{Phase}
use Rattle.best.specs.CodeBest.{best_over}
use Rattle.search.specs.Stored.{view_of}
use Rattle.search.specs.CodeChoice.{SeeksIn}
use Rattle.search.proofs.choice.Choice.over_everyone.Given as goal

abbrev pub invariant-loop-i : goal.invariant-loop-i
invariant-loop-i l = (P : Phase) → SeeksIn l.self.offers.now P → l.best ≡ best_over P (view_of P l.self.rec.now) l.i
