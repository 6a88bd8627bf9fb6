use Rattle.nightlists.proofs.OnwardLaws.{Days}
use Rattle.nightlists.proofs.SomeLaws.{NoneAt}
use Rattle.nightlists.proofs.some.+some.Given as goal

abbrev pub decreases-some : goal.decreases-some
decreases-some l = l.part.now.left

abbrev pub invariant-loop-day : goal.invariant-loop-day
invariant-loop-day l =
    let her = l.wanted.masks.nurse in
    Days l.k.rules l.done l.k.apart l.part.left l.part.state l.days × NoneAt her.ward.numbers.now her.index l.k.rules l.part.left l.part.from l.part.state l.day
