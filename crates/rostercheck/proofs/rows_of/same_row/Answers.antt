use Rattle.std.proofs.Common.{rules, ◌≡◌, length, arith}
use Rattle.std.proofs.lemmas.Bool.Decides.{Decides-eqb}
use Rattle.std.proofs.lemmas.Slice.Eq.{slice_eq-Decides}
use Rattle.fields.specs.Sizes.{day_places}
use Rattle.letters.proofs.WriteLaws.{row_is}
use Rattle.rostercheck.proofs.RowLaws.{row_same}
use Rattle.rostercheck.proofs.rows_of.same_row.Goals as goal

pub returns : goal.returns
returns c =
    let s = c.args in
    let b = s.b.now in
    let long : length c.row_letters-letters.result ≡ day_places = search rules in
    let letters = row_is b.numbers.now b.days s.p s.q c.row_letters-letters.result (omega (arith, long, b.month)) c.row_letters-letters.ensures in
    row_same s.row.now b.days c.requires b.numbers.now s.p s.q letters (slice_eq-Decides Decides-eqb _ _ _ c.eq.ensures)
