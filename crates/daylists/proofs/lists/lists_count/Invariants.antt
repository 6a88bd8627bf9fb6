use Rattle.fields.specs.Fields.{nurses}
use Rattle.daylists.specs.Lists.{day_lists}
use Rattle.daylists.proofs.ListsLaws.{CountAt}
use Rattle.daylists.proofs.lists.lists_count.Given as goal

abbrev pub invariant-loop-i : goal.invariant-loop-i
invariant-loop-i l = CountAt (day_lists l.w.numbers.now l.nights) (nurses l.w.numbers.now) l.places l.i l.at l.ends
