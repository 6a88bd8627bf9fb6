use Rattle.daylists.proofs.StartLaws.{tables, day_count, day_written}
use Rattle.daylists.proofs.day_list.Goals as goal

pub returns-clause-value : goal.returns-clause-value
returns-clause-value g c =
    let hers = tables c.args.her.now.ward.numbers.now c.args.her.now.index c.args.c c.args.her.now.ward.accepted c.nurse_sheet-sheet.ensures c.write_table.ensures c.idle_days.ensures in
    day_count hers _ c.walk.ensures.value

pub returns-clause-written : goal.returns-clause-written
returns-clause-written g c =
    let hers = tables c.args.her.now.ward.numbers.now c.args.her.now.index c.args.c c.args.her.now.ward.accepted c.nurse_sheet-sheet.ensures c.write_table.ensures c.idle_days.ensures in
    day_written hers g.L.Listing.Put _ _ c.walk.ensures.written
