use Rattle.std.proofs.Common.{rules, tests, eqb, get_or}
use Rattle.rostercheck.specs.CodeCheck.{letters_in}
use Rattle.rostercheck.proofs.rows_of.days_with.Goals as goal

pub returns : goal.returns
unfolding letters_in
returns c = let s = c.args in c.set_of.ensures.set (λ d. eqb (get_or s.row.now d 0) s.c) (λ i b h k. search (rules, tests))
