use Rattle.std.proofs.Common.{rules, tests, ap, ◌∙◌, add-one}
use Rattle.numbers.specs.Digits.{number_of}
use Rattle.rows.specs.States.{code}
use Rattle.nursemasks.specs.CodeMasks.{barred}
use Rattle.nursemasks.proofs.masks.barred_days.Goals as goal

pub returns : goal.returns
returns c =
    let t = barred c.args.table.now c.args.b.now.numbers.now (code c.args.state) in
    c.set_of.ensures.set t (λ i ok l k. search (rules, tests)) ∙ ap (number_of t) (add-one c.args.b.now.days)
