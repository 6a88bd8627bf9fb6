use Rattle.ownlists.proofs.OwnListLaws.{OwnTo}
use Rattle.ownlists.proofs.own_lists.Given as goal

abbrev pub invariant-loop-i : goal.invariant-loop-i
invariant-loop-i l = OwnTo l.w.numbers.now l.list l.initial.own l.at l.i l.own l.lists
