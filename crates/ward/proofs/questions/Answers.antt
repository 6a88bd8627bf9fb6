use Rattle.std.proofs.Common.{take, get_or, arith, rules, ◌∙◌}
use Rattle.codec.proofs.CodecLaws.{passed_on}
use Rattle.codec.proofs.EncodeLaws.{encode_most}
use Rattle.ward.proofs.WriteLaws.{is_counted, there, begin, all_counted, missing, room_here, failed, below, turn, extra, whole}
use Rattle.ward.proofs.questions.Goals as goal

pub loop-i-init : goal.loop-i-init
loop-i-init c = begin _ (search rules) c.start-c.ensures

pub returns-in_default : goal.returns-in_default
returns-in_default c =
    rw c.at.ensures (extra _ _ _ _ c.loop-i.invariant c.wanted_at.ensures c.in_default.is (is_counted _ _ _ c.min.ensures c.loop-i-test.true))

pub returns-in_err-ask : goal.returns-in_err-ask
returns-in_err-ask c =
    let a = rw (there _ _ _ c.min.ensures c.loop-i-test.true) at c.in_err-ask.ensures in
    passed_on c.from_residual.result c.from_residual.ensures.1
    ∙ failed _ _ _ _ c.loop-i.invariant _ c.wanted_at.ensures c.in-Some.is (is_counted _ _ _ c.min.ensures c.loop-i-test.true) a

pub size-bytes-requires : goal.size-bytes-requires
size-bytes-requires c =
    let v = there _ _ _ c.min.ensures c.loop-i-test.true in
    rw v
    (below _ _ _ _ c.loop-i.invariant _ c.wanted_at.ensures c.in-Some.is (is_counted _ _ _ c.min.ensures c.loop-i-test.true) (rw v at c.in_ok-ask.ensures))

pub overflow_add-bytes : goal.overflow_add-bytes
overflow_add-bytes c =
    let s = room_here _ _ _ _ c.loop-i.invariant _ c.wanted_at.ensures c.in-Some.is in
    omega (arith, c.loop-i.invariant.few, c.size-bytes.ensures.is, encode_most (get_or (take c.min.result c.args.ward.now.numbers) c.loop-i.i 0))

pub loop-i-preserved : goal.loop-i-preserved
loop-i-preserved c =
    let v = there _ _ _ c.min.ensures c.loop-i-test.true in
    turn _ _ _ _ c.loop-i.invariant _ c.wanted_at.ensures c.in-Some.is (is_counted _ _ _ c.min.ensures c.loop-i-test.true)
    (rw v at c.in_ok-ask.ensures) (rw v at c.size-bytes.ensures.is) (rw v at c.step-c.ensures)

pub returns-in-Some-wanted_at : goal.returns-in-Some-wanted_at
returns-in-Some-wanted_at c =
    rw c.at-in-Some-wanted_at.ensures
    (missing _ _ _ _ c.loop-i.invariant _ c.wanted_at-2.ensures c.in-Some-wanted_at.is (all_counted _ _ _ _ c.loop-i.invariant c.min.ensures c.loop-i-test.false))

pub returns-in-None : goal.returns-in-None
returns-in-None c =
    let h = all_counted _ _ _ _ c.loop-i.invariant c.min.ensures c.loop-i-test.false in
    whole _ _ _ _ c.loop-i.invariant c.wanted_at-2.ensures c.in-None.is (omega arith)
