use Rattle.std.proofs.Common.{◌+◌, ◌*◌, sym, ◌∙◌}
use Rattle.tries.specs.CodeTries.{allowed_by}
use Rattle.tries.proofs.TryLaws.{pattern_alone}
use Rattle.tries.proofs.Trials.over_pattern.Goals as goal

pub returns-then-pair_count-eq0 : goal.returns-then-pair_count-eq0
returns-then-pair_count-eq0 c = λ price s hers y e.
    let x = c.args.self.now.tried.now in
    pattern_alone x.nurse.ward.numbers.now x.nurse.index c.args.p (allowed_by x.barred.now) (λ q. price q + 10000000 * x.others) c.args.held (sym c.pair_count.ensures.0 ∙ c.if-pair_count-eq0.true) hers e c.of.ensures
    c.consider.ensures
