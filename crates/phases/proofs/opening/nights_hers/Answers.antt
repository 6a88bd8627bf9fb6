use Rattle.std.proofs.Common.{rules, tests, refl}
use Rattle.numbers.proofs.IterLaws.{all_below}
use Rattle.nights.specs.Own.{own_pattern}
use Rattle.phases.specs.Phases.{night_of}
use Rattle.phases.proofs.opening.nights_hers.Goals as goal

pub returns : goal.returns
returns c = all_below (λ i. own_pattern c.args.w.now.numbers.now i (night_of c.args.nights.now i)) _ _ c.all.ensures.ran refl c.nurses.ensures.0 (λ x b q k. search (rules, tests))
