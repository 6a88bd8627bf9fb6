use Rattle.std.proofs.Common.{rules, tests, refl, arith}
use Rattle.numbers.proofs.IterLaws.{all_over}
use Rattle.days.proofs.rule.all_windows_hold.Goals as goal

pub returns : goal.returns
returns c = all_over _ _ _ _ c.all.ensures.ran refl (omega arith) (λ x b q k. search (rules, tests))
