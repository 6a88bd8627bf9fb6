use Rattle.std.proofs.Common.{rules, tests}
use Rattle.layout.specs.CodePlace.{outer_left}
use Rattle.layout.proofs.at_outer.Goals as goal

pub returns : goal.returns
unfolding outer_left
returns c = c.turn.ensures (outer_left c.args.place c.args.c) (λ j d l p. search (rules, tests))
