use Rattle.std.proofs.Common.{rules, tests, refl}
use Rattle.numbers.proofs.IterLaws.{all_below}
use Rattle.removals.specs.Removals.{removal_zero}
use Rattle.removals.proofs.unused.removals_zero.Goals as goal

pub returns : goal.returns
returns c = all_below (removal_zero c.args.held c.args.list) _ _ c.all.ensures.ran refl refl (λ x b q k. search (rules, tests))
