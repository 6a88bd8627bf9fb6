use Rattle.std.proofs.Common.{rules}
use Rattle.search.specs.Stored.{Sized}
use Rattle.search.proofs.AdvanceLaws.{ends_zero, ends_asked, stays_none, turn_on}
use Rattle.search.proofs.ChoiceLaws.{turn_start}
use Rattle.search.proofs.Record.advance_over.Goals as goal

pub steps-init : goal.steps-init
steps-init c =
    let z : Sized c.args.self = search rules in (
      record { shows = c.columns-cols.ensures },
      λ P s e. turn_start s c.args.offers.now.ward.now.accepted c.args.self z e c.args.past c.args.k (λ slots q. c.penalty_by-penalty.ensures slots q (c.columns-cols.ensures slots q)),
    )

pub returns-then-stops : goal.returns-then-stops
returns-then-stops c = λ P s e. ends_zero (c.steps.invariant.1 P s e) c.stops.ensures c.if-stops.true

pub returns-then-made-k : goal.returns-then-made-k
returns-then-made-k c = λ P s e. ends_asked (c.steps.invariant.1 P s e) c.stops.ensures c.if-stops.false c.if-made-k.true

pub returns-in_default : goal.returns-in_default
returns-in_default c = λ P s e. stays_none (c.steps.invariant.1 P s e) c.stops.ensures c.if-stops.false c.if-made-k.false (c.step.ensures.takes P s) c.in_default.is

pub steps-preserved : goal.steps-preserved
steps-preserved c = (
  c.in-Some.ensures.shows,
  λ P s e. turn_on (c.steps.invariant.1 P s e) c.stops.ensures c.if-stops.false c.if-made-k.false (c.step.ensures.takes P s) c.in-Some.is,
)
