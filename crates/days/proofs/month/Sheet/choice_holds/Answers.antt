use Rattle.std.proofs.Common.{rules, tests, refl, arith, ◌∙◌, ◌^◌, cond, not, shl_exact, lt-ltb, le-ltb}
use Rattle.numbers.specs.Digits.{has}
use Rattle.numbers.proofs.IterLaws.{all_below}
use Rattle.days.specs.CodeMonth.{choice_of}
use Rattle.days.proofs.RuleLaws.{choice_days}
use Rattle.days.proofs.month.Sheet.choice_holds.Goals as goal

pub returns-then-q-n : goal.returns-then-q-n
unfolding choice_of
returns-then-q-n c =
    let m = c.args.self.now.month in
    let q = c.args.q in
    let top = shl_exact {a = 1} 1 m.days 64 (omega arith) (omega arith) in
    let chosen = all_below (λ d. cond (has q d) (has m.available d) (not (has m.fixed d))) _ _ c.all.ensures.ran refl refl (λ x b q k. search (rules, tests)) ∙ choice_days m q in
    rw (lt-ltb q (2 ^ m.days) (omega arith)) chosen

pub returns-else-q-n : goal.returns-else-q-n
unfolding choice_of
returns-else-q-n c =
    let m = c.args.self.now.month in
    let top = shl_exact {a = 1} 1 m.days 64 (omega arith) (omega arith) in
    rw (le-ltb c.args.q (2 ^ m.days) (omega arith), le-ltb c.args.q _ c.if-q-n.false)
