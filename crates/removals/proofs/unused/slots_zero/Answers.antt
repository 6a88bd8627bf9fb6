use Rattle.std.proofs.Common.{rules, tests, refl}
use Rattle.numbers.proofs.IterLaws.{all_below}
use Rattle.removals.specs.Removals.{slot_zero}
use Rattle.removals.proofs.unused.slots_zero.Goals as goal

pub returns : goal.returns
returns c = all_below (slot_zero c.args.m c.args.placed c.args.patterns) _ _ c.all.ensures.ran refl refl (λ x b q k. search (rules, tests))
