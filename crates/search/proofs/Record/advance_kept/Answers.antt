use Rattle.std.proofs.Common.{[]}
use Rattle.search.proofs.PlanLaws.{own_tries, own_sought}
use Rattle.search.proofs.Record.advance_kept.Goals as goal

pub invariant_of-offers : goal.invariant_of-offers
invariant_of-offers g c = record { tries = own_tries (c.lent-plan.ensures.hers _ _ c.own_lists-places.ensures) c.requires.common.0 }

pub advance_over-requires-clause-sought_sound : goal.advance_over-requires-clause-sought_sound
advance_over-requires-clause-sought_sound g c = let served = c.requires.sought_sound in (served.0, own_sought (c.lent-plan.ensures.hers _ _ c.own_lists-places.ensures) [] c.args.w.now.accepted served.1, served.2)

pub returns : goal.returns
returns g c = λ P s e. c.advance_over.ensures P (own_sought (c.lent-plan.ensures.hers _ _ c.own_lists-places.ensures) [] c.args.w.now.accepted s) e
