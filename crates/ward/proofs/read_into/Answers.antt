use Rattle.std.proofs.Common.{arith, ◌∙◌}
use Rattle.codec.proofs.CodecLaws.{passed_on}
use Rattle.ward.proofs.ReadLaws.{begin, past_end, moves, failed, turn, extra, whole, lent_reading}
use Rattle.ward.proofs.ReadingLaws.{ward_in}
use Rattle.ward.proofs.read_into.Goals as goal

pub loop-field-init : goal.loop-field-init
loop-field-init c = begin _ _ c.requires c.start-c.ensures

pub returns-in_err-number-clause-says : goal.returns-in_err-number-clause-says
returns-in_err-number-clause-says c =
    passed_on c.from_residual.result c.from_residual.ensures.1
    ∙ (failed _ _ _ _ _ c.loop-field.invariant _ c.wanted_at.ensures c.in-Some.is c.in_err-number.ensures).0

pub returns-in_err-number-clause-leaves : goal.returns-in_err-number-clause-leaves
returns-in_err-number-clause-leaves c = (failed _ _ _ _ _ c.loop-field.invariant _ c.wanted_at.ensures c.in-Some.is c.in_err-number.ensures).1

pub overflow_add-at : goal.overflow_add-at
overflow_add-at c =
    let p = past_end _ _ _ _ _ c.loop-field.invariant _ c.wanted_at.ensures c.in-Some.is c.in_ok-number.ensures in
    omega arith

pub loop-field-smaller : goal.loop-field-smaller
loop-field-smaller c =
    let p = past_end _ _ _ _ _ c.loop-field.invariant _ c.wanted_at.ensures c.in-Some.is c.in_ok-number.ensures in
    let m = moves _ _ _ _ _ c.loop-field.invariant _ c.wanted_at.ensures c.in-Some.is c.in_ok-number.ensures in
    omega arith

pub loop-field-preserved : goal.loop-field-preserved
loop-field-preserved c = turn _ _ _ _ _ c.loop-field.invariant _ c.wanted_at.ensures c.in-Some.is c.in_ok-number.ensures c.step-c.ensures

pub returns-then-at-file-clause-says : goal.returns-then-at-file-clause-says
returns-then-at-file-clause-says c =
    rw c.at.ensures (extra _ _ _ _ _ c.loop-field.invariant c.wanted_at.ensures c.in_default.is c.if-at-file.true).0

pub returns-then-at-file-clause-leaves : goal.returns-then-at-file-clause-leaves
returns-then-at-file-clause-leaves c = (extra _ _ _ _ _ c.loop-field.invariant c.wanted_at.ensures c.in_default.is c.if-at-file.true).1

pub returns-clause-says : goal.returns-clause-says
returns-clause-says c = (whole _ _ _ _ _ c.loop-field.invariant c.wanted_at.ensures c.in_default.is c.if-at-file.false).0

pub returns-clause-leaves : goal.returns-clause-leaves
returns-clause-leaves c = (whole _ _ _ _ _ c.loop-field.invariant c.wanted_at.ensures c.in_default.is c.if-at-file.false).1

pub returns-clause-ward : goal.returns-clause-ward
returns-clause-ward c =
    let all = whole _ _ _ _ _ c.loop-field.invariant c.wanted_at.ensures c.in_default.is c.if-at-file.false in
    ward_in c.args.file.now _ (λ i. (c.type_inv.file i).fits) (lent_reading c.args.file.now _ all)
