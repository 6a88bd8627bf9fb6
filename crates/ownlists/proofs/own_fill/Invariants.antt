use Rattle.nights.specs.Hers.{hers_of}
use Rattle.ownlists.proofs.OwnListLaws.{FillTo}
use Rattle.ownlists.proofs.own_fill.Given as goal

abbrev pub invariant-loop-p : goal.invariant-loop-p
invariant-loop-p l = FillTo (hers_of l.her.nurse.ward.numbers.now l.her.nurse.index) l.list l.initial.own l.at l.p-index l.own
