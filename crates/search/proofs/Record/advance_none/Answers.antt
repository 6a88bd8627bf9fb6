-- Before its first step an advance of no steps ends with "zero" or with "asked".
use Rattle.std.proofs.Common.{rules, refl}
use Rattle.search.proofs.AdvanceLaws.{ends_zero, ends_asked}
use Rattle.search.proofs.ChoiceLaws.{turn_start}
use Rattle.search.proofs.Record.advance_none.Goals as goal

pub returns-then-stops : goal.returns-then-stops
returns-then-stops c = λ P tried s e. ends_zero (turn_start s c.args.w.now.accepted c.args.self (search rules) e c.args.past 0 c.penalty_of-penalty.ensures) c.stops.ensures c.if-stops.true

pub returns-else-stops : goal.returns-else-stops
returns-else-stops c = λ P tried s e. ends_asked (turn_start s c.args.w.now.accepted c.args.self (search rules) e c.args.past 0 c.penalty_of-penalty.ensures) c.stops.ensures c.if-stops.false refl
