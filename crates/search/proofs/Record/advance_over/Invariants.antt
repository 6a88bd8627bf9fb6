use Rattle.std.proofs.Common.{◌≡◌, true, ◌-◌}
use Rattle.history.specs.Phase.{Phase}
use Rattle.search.specs.Stored.{sound_stored}
use Rattle.search.specs.CodeChoice.{ColumnsOf, SeeksIn}
use Rattle.search.proofs.AdvanceLaws.{Turn}
use Rattle.search.proofs.Record.advance_over.Given as goal

abbrev pub invariant-steps : goal.invariant-steps
invariant-steps l =
    ColumnsOf l.offers.search l.offers.ward.now.numbers.now l.after l.cols
    × ((P : Phase) → SeeksIn l.offers P → sound_stored P l.fn.self ≡ true → Turn P l.past l.k l.fn.self l.after l.made l.penalty)

abbrev pub decreases-steps : goal.decreases-steps
decreases-steps l = l.k - l.made
