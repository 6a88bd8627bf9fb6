use Rattle.std.proofs.Common.{rules, false, get_or}
use Rattle.trials.specs.Trials.{CountsIn}
use Rattle.search.specs.Stored.{Sized}
use Rattle.search.proofs.SlotLaws.{by_index}
use Rattle.search.proofs.ChoiceLaws.{trial_total, columns_after}
use Rattle.search.proofs.Record.exchange.Goals as goal

counts : (c : goal.After-exchanged-after) → CountsIn c.args.offers.now.search c.args.offers.now.ward.now.numbers.now c.args.chosen.nurse c.args.chosen.pattern c.sets_of-sets.result.nights c.sets_of-sets.result.available
counts c = by_index (λ v i. CountsIn c.args.offers.now.search v i c.args.chosen.pattern c.sets_of-sets.result.nights c.sets_of-sets.result.available) c.nurse_at-her.ensures c.sets_of-sets.ensures

pub returns-clause-costs : goal.returns-clause-costs
returns-clause-costs c =
    trial_total _ _ _ _ _ _ _ (get_or c.args.self.placed c.args.chosen.nurse false) c.others_than-others.ensures.is (counts c) (rw (c.nurse_at-her.ensures.0, c.nurse_at-her.ensures.1) at c.trial-parts.ensures.afresh) c.total-penalty.ensures

pub returns-clause-shows : goal.returns-clause-shows
returns-clause-shows c =
    let z : Sized c.args.self = search rules in
    λ shown. columns_after _ _ _ _ _ _ _ c.exchanged-after.ensures z c.requires.nurse c.args.offers.now.ward.now.accepted.nurses_most c.days.ensures.0
    shown (counts c) c.with_nurse.ensures
