use Rattle.std.proofs.Common.{rules, get_or}
use Rattle.ownlists.specs.CodeOwn.{no_list, no_place, LentAt}
use Rattle.ownlists.proofs.OwnListLaws.{each_made, lent_all}
use Rattle.ownlists.proofs.lent.Goals as goal

pub returns-clause-cut : goal.returns-clause-cut
returns-clause-cut c =
    let own = c.args.own.now in
    let places = c.args.places.now in
    λ i l. each_made _ (λ j x. LentAt own (get_or places j no_place) x) no_list (λ j x q k. (search rules, let has : LentAt own (get_or places j no_place) x = search rules in has)) c.from_fn.ensures.items i l

pub returns-clause-hers : goal.returns-clause-hers
returns-clause-hers c = lent_all (search rules) (search rules) (returns-clause-cut c)
