use Rattle.std.proofs.Common.{rules, tests}
use Rattle.dayadvance.proofs.DayLaws.{stretch_some}
use Rattle.dayadvance.proofs.days_lacking.Goals as goal

pub returns : goal.returns
returns c = λ lists e. c.patterns_asked.ensures lists (λ i b l post. stretch_some lists c.args.m c.args.ends e i l (search (rules, tests)))
