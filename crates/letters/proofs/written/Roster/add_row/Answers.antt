use Rattle.std.proofs.Common.{rules, ◌≡◌, length, refl, ◌∙◌, arith}
use Rattle.fields.specs.Sizes.{day_places}
use Rattle.letters.proofs.WriteLaws.{row_is, row_put}
use Rattle.letters.proofs.written.Roster.add_row.Goals as goal

pub returns : goal.returns
returns c =
    let s = c.args in
    let old = s.self.now in
    let long : length c.row_letters-row.result ≡ day_places = search rules in
    let b = s.b.now in
    (row_put old.letters old.count b.numbers.now b.days s.p s.q (c.copy_from_slice.ensures.after ∙ row_is b.numbers.now b.days s.p s.q _ (omega (arith, long, b.month)) c.row_letters-row.ensures), refl)
