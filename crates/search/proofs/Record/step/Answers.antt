use Rattle.std.proofs.Common.{rules, ◌<◌, ◌≡◌, ◌∙◌, None}
use Rattle.fields.specs.Fields.{nurses as nurses_in}
use Rattle.search.proofs.ChoiceLaws.{chosen_nurse, seeks_none, seeks_some, exchange_cost}
use Rattle.search.proofs.Record.step.Goals as goal

pub returns-in_err-best-clause-takes : goal.returns-in_err-best-clause-takes
returns-in_err-best-clause-takes c = λ P s.
    let none : c.from_residual.result ≡ None = search rules in
    none ∙ seeks_none s c.args.self (c.best_of.ensures P s) c.in_err-best.was

pub exchange-requires : goal.exchange-requires
exchange-requires c =
    let need = c.requires in
    record {
      nurse = chosen_nurse need c.best_of.ensures c.in_ok-best.was;
      unplaced_most = c.unplaced-unplaced.ensures.most;
      steps_few = need.steps_few;
    }

pub returns-clause-takes : goal.returns-clause-takes
returns-clause-takes c =
    let l : c.in_ok-best.best.nurse < nurses_in c.args.offers.now.ward.now.numbers.now = chosen_nurse c.requires c.best_of.ensures c.in_ok-best.was in
    λ P s. seeks_some s c.args.self (c.best_of.ensures P s) c.in_ok-best.was c.exchange.ensures.made
    (exchange_cost s _ _ c.requires.shown l c.unplaced-unplaced.ensures c.exchange.ensures.costs)
