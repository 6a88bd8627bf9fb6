use Rattle.std.proofs.Common.{◌≡◌, ◌∙◌, get_or}
use Rattle.nights.specs.Hers.{hers_of}
use Rattle.nights.proofs.ListLaws.{common_at}
use Rattle.ownlists.proofs.OwnListLaws.{own_start, own_stored, own_full, own_passed, own_counted}
use Rattle.ownlists.proofs.own_fill.Goals.{then-passes, then-at-own, else-at-own, else-passes}
use Rattle.ownlists.proofs.own_fill.Goals as goal

pub loop-p-init : goal.loop-p-init
loop-p-init c = own_start _ _ _

pub loop-p-preserved : goal.loop-p-preserved
loop-p-preserved c =
    let her = c.args.her.now in
    let w = her.nurse.ward.numbers.now in
    let there = common_at w c.args.list.now c.loop-p.p-index c.requires c.loop-p-test.true in
    let is : c.passes.result ≡ hers_of w her.nurse.index (get_or c.args.list.now c.loop-p.p-index 0) = c.passes.ensures there.0 there.1 in
    elim c.if-passes.branch [
      | then-passes x ↦ elim x.if-at-own.branch [
        | then-at-own y ↦ own_stored c.loop-p.invariant c.loop-p-test.true is x.if-passes.true y.if-at-own.true (x.own-is ∙ y.own-is) x.at-is
        | else-at-own y ↦ own_full c.loop-p.invariant c.loop-p-test.true is x.if-passes.true y.if-at-own.false (x.own-is ∙ y.own-is) x.at-is
      ]
      | else-passes x ↦ own_passed c.loop-p.invariant c.loop-p-test.true is x.if-passes.false x.own-is x.at-is
    ]

pub returns-clause-counted : goal.returns-clause-counted
returns-clause-counted c = own_counted c.loop-p.invariant c.loop-p-test.false
