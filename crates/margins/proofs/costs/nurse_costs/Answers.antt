use Rattle.margins.proofs.CostLaws.{some_day, some_night, by_night, by_day, nights_are, days_are}
use Rattle.margins.proofs.costs.nurse_costs.Goals as goal

pub of-y-requires : goal.of-y-requires
of-y-requires c =
    let a = c.args in
    let w = a.her.now.ward in
    let m = a.margins.now in
    some_day w.numbers.now a.cols.now.night a.cols.now.day m.nightly m.daily w.accepted a.search c.requires

pub of-x-requires : goal.of-x-requires
of-x-requires c =
    let a = c.args in
    let w = a.her.now.ward in
    let m = a.margins.now in
    let both = by_night w.numbers.now a.cols.now.night a.cols.now.day m.nightly m.daily a.search c.in-Nights.is c.requires in
    some_night _ _ _ _ _ w.accepted both

pub returns-in-Nights-clause-costs : goal.returns-in-Nights-clause-costs
returns-in-Nights-clause-costs c =
    let a = c.args in
    let w = a.her.now.ward in
    let m = a.margins.now in
    let both = by_night w.numbers.now a.cols.now.night a.cols.now.day m.nightly m.daily a.search c.in-Nights.is c.requires in
    nights_are _ _ _ _ _ _ c.in-Nights.is c.days-n.ensures.0 (c.of-x.ensures _ _ both.night_margins) (c.of-y.ensures _ _ both.day_margins) c.night_costs.ensures.1

pub returns-in-Days-clause-costs : goal.returns-in-Days-clause-costs
returns-in-Days-clause-costs c =
    let a = c.args in
    let w = a.her.now.ward in
    let m = a.margins.now in
    let one = by_day w.numbers.now a.cols.now.night a.cols.now.day m.nightly m.daily a.search c.in-Days.is c.requires in
    days_are _ a.cols.now.night _ _ a.workable _ c.in-Days.is c.days-n.ensures.0 (c.of-y.ensures _ _ one) c.day_costs.ensures.1
