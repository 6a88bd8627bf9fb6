use Rattle.std.proofs.Common.{rules, tests, refl, sym, ◌∙◌, arith}
use Rattle.numbers.proofs.IterLaws.{any_over}
use Rattle.rows.proofs.PairNumberLaws.{pairs_none, pairs_all}
use Rattle.rostercheck.specs.CodeCheck.{pair_holds}
use Rattle.rostercheck.proofs.rows_of.some_pair_holds.Goals as goal

pub returns-then-count-eq0 : goal.returns-then-count-eq0
returns-then-count-eq0 c = c.pair_holds.ensures ∙ sym (pairs_none _ _ (sym c.pair_count-count.ensures.0 ∙ c.if-count-eq0.true))

pub returns : goal.returns
returns c =
    let s = c.args in
    any_over (pair_holds s.her.now.ward.numbers.now s.her.now.index s.p s.q) 1 _ c.pair_count-count.result c.any.ensures.ran refl (omega arith) (λ x b q k. search (rules, tests))
    ∙ pairs_all _ _ c.pair_count-count.ensures.0 c.if-count-eq0.false
