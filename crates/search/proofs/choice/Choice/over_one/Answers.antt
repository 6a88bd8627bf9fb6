use Rattle.std.proofs.Common.{◌≡◌, ◌+◌, ◌*◌, ap, ◌∙◌, min, take, get_or}
use Rattle.history.specs.Slot.{exchanged}
use Rattle.penalty.specs.Penalty.{rest, parts_in}
use Rattle.penalty.specs.CodeColumns.{Shows}
use Rattle.best.specs.CodeBest.{over_list}
use Rattle.tries.specs.CodeTries.{Bars, offered, tried_in}
use Rattle.ownlists.specs.CodeOwn.{no_list}
use Rattle.search.proofs.SlotLaws.{by_index}
use Rattle.search.proofs.ChoiceLaws.{bars_are, found_in, offered_is}
use Rattle.search.proofs.choice.Choice.over_one.Goals as goal

pub returns : goal.returns
returns c = λ slots may a s m u.
    let x = c.args.self.now in
    let o = x.offers.now in
    let w = o.ward.now.numbers.now in
    let is = offered_is o.lists.now (get_or o.plan.now c.args.i no_list).source _ c.list.ensures in
    found_in o.search w may (λ p. rest (parts_in o.search w (exchanged slots c.args.i p))) c.args.i c.args.held (c.others_than.ensures.is a u) is
    (by_index (λ v i. Shows o.search v slots x.cols.now → Bars may (take c.bars_of-barred.result c.bars_of-barred.new.bars) →
    c.over_nurse.result ≡ over_list may (λ p. rest (parts_in o.search v (exchanged slots i p)) + 10000000 * c.others_than.result) i c.args.held (tried_in o.search v i (offered c.list.result)))
    c.nurse_at.ensures (c.over_nurse.ensures.tried slots may) s
    (bars_are may w c.args.i x.rec.now _ m c.slot-current.ensures
    (ap (λ k. take k x.rec.now.removals) (c.held-count.ensures ∙ ap (min _) c.tabu.ensures.0)) c.bars_of-barred.ensures.bars))
