use Rattle.std.proofs.Common.{rules}
use Rattle.ownlists.specs.CodeOwn.{no_list}
use Rattle.search.specs.CodePlan.{HasStretch}
use Rattle.ownlists.proofs.OwnListLaws.{each_made}
use Rattle.search.proofs.offers.day_plan.Goals as goal

pub returns : goal.returns
returns c = record { each = λ i l. each_made _ (HasStretch c.args.lists.now c.args.ends) no_list (λ j x q k. (search rules, let has : HasStretch c.args.lists.now c.args.ends j x = search rules in has)) c.from_fn.ensures.items i l }
