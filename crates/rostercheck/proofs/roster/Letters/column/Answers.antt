use Rattle.std.proofs.Common.{rules, tests}
use Rattle.fields.specs.Fields.{days}
use Rattle.rostercheck.specs.Check.{lettered}
use Rattle.rostercheck.proofs.NeedLaws.{same_set}
use Rattle.rostercheck.proofs.roster.Letters.column.Goals as goal

pub returns : goal.returns
unfolding lettered
returns c =
    let s = c.args in
    let r = s.self.now in
    let on = lettered r.letters.now (days r.ward.numbers.now) s.d s.c in
    same_set on _ _ c.nurses.ensures.0 (c.set_of.ensures.set on (λ i b h k. search (rules, tests)))
