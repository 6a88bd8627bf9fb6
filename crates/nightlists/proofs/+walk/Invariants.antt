use Rattle.nightlists.proofs.OnwardLaws.{Days}
use Rattle.nightlists.proofs.LastLaws.{Begun}
use Rattle.nightlists.proofs.GatheringLaws.{WalkAt}
use Rattle.nightlists.proofs.+walk.Given as goal

-- the days left undecided
abbrev pub decreases-walk : goal.decreases-walk
decreases-walk g l = l.part.now.left

abbrev pub invariant-loop-day : goal.invariant-loop-day
invariant-loop-day g l = record {
  new : Days l.k.rules l.done l.k.apart l.part.left l.part.state l.days;
  first : Begun l.k.rules l.part.left l.part.from l.part.state l.days l.begun l.shut;
  so_far : WalkAt g.G.Gathering.laws l.k.rules l.part.left l.part.from l.part.state l.fn.list l.day l.list;
}
