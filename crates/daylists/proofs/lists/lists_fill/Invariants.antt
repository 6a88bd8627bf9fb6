use Rattle.fields.specs.Fields.{nurses}
use Rattle.daylists.specs.Lists.{day_lists}
use Rattle.daylists.proofs.ListsLaws.{FillAt}
use Rattle.daylists.proofs.lists.lists_fill.Given as goal

abbrev pub invariant-loop-i : goal.invariant-loop-i
invariant-loop-i l = FillAt (day_lists l.w.numbers.now l.nights) (nurses l.w.numbers.now) l.fn.buf l.i l.used l.buf
