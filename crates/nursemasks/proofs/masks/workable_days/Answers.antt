use Rattle.std.proofs.Common.{rules, tests, ap, ◌∙◌, add-one}
use Rattle.numbers.specs.Digits.{number_of}
use Rattle.nursemasks.specs.CodeMasks.{workable}
use Rattle.nursemasks.proofs.masks.workable_days.Goals as goal

pub returns : goal.returns
returns c =
    let t = workable c.args.b.now.numbers.now in
    c.set_of.ensures.set t (λ i ok l k. search (rules, tests)) ∙ ap (number_of t) (add-one c.args.b.now.days)
