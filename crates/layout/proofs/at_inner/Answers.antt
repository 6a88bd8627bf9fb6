use Rattle.std.proofs.Common.{rules, tests}
use Rattle.layout.specs.CodePlace.{inner_left}
use Rattle.layout.proofs.at_inner.Goals as goal

pub returns : goal.returns
unfolding inner_left
returns c = c.turn.ensures (inner_left c.args.place c.args.c) (λ j d l p. search (rules, tests))
