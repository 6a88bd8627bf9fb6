use Rattle.numbers.proofs.MadeLaws.{made_zero}
use Rattle.outcomes.proofs.OutcomeLaws.{roster_none}
use Rattle.dayadvance.proofs.DayLaws.{given_zero, given_not}
use Rattle.dayadvance.proofs.roster_given.Goals as goal

pub returns-then-x-eq0 : goal.returns-then-x-eq0
returns-then-x-eq0 c = given_zero c.args.w.now.numbers.now _ c.args.x c.requires c.if-x-eq0.true c.roster_of.ensures

pub returns : goal.returns
returns c = given_not c.args.w.now.numbers.now _ c.args.x c.if-x-eq0.false (roster_none (made_zero _ c.default.ensures.0) c.default.ensures.1)
