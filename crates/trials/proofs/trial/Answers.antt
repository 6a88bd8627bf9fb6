use Rattle.std.proofs.Common.{rules}
use Rattle.history.specs.Slot.{exchanged}
use Rattle.trials.proofs.ExchangeLaws.{exchange_shows}
use Rattle.trials.proofs.trial.Goals as goal

pub returns : goal.returns
returns c =
    let a = c.args in
    let her = a.her.now in
    record {
      afresh = λ slots p s k.
          c.over_days.ensures (exchanged slots her.index p)
          (λ d e h g. exchange_shows her.ward.numbers.now a.cols.now.night a.cols.now.day her.index a.sets.nights a.sets.available slots p d e.0 e.1 her.in_ward h (search rules) (search rules) a.search s k);
    }
