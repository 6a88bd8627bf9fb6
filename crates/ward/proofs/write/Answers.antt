use Rattle.std.proofs.Common.{rules, arith, sym, ap, ◌∙◌, List, ℕ, length}
use Rattle.ward.specs.Answers.{check_ward, writing_of, left_of}
use Rattle.codec.proofs.CodecLaws.{passed_on}
use Rattle.ward.proofs.BufLaws.{few, counted_is, begin, refused, short, number_small, number_fits, turn, whole}
use Rattle.ward.proofs.write.Goals as goal

pub returns-in_err-bytes-clause-says : goal.returns-in_err-bytes-clause-says
returns-in_err-bytes-clause-says c =
    passed_on c.from_residual.result c.from_residual.ensures.1 ∙ (refused c.args.buf.now _ c.in_err-bytes.ensures).0

pub returns-in_err-bytes-clause-leaves : goal.returns-in_err-bytes-clause-leaves
returns-in_err-bytes-clause-leaves c = (refused c.args.buf.now _ c.in_err-bytes.ensures).1

pub returns-then-buf-bytes-clause-says : goal.returns-then-buf-bytes-clause-says
returns-then-buf-bytes-clause-says c = rw c.at.ensures (short c.args.buf.now _ c.in_ok-bytes.ensures c.if-buf-bytes.true).0

pub returns-then-buf-bytes-clause-leaves : goal.returns-then-buf-bytes-clause-leaves
returns-then-buf-bytes-clause-leaves c = (short c.args.buf.now _ c.in_ok-bytes.ensures c.if-buf-bytes.true).1

pub shared_ref_as_front-v-items : goal.shared_ref_as_front-v-items
shared_ref_as_front-v-items c = omega (arith, few c.args.ward (search rules) c.in_ok-bytes.ensures)

pub loop-v-init : goal.loop-v-init
loop-v-init c = begin _ c.args.ward (omega (arith, few c.args.ward (search rules) c.in_ok-bytes.ensures)) (search rules) c.in_ok-bytes.ensures c.if-buf-bytes.false

pub put-at-requires : goal.put-at-requires
put-at-requires c = (number_small _ _ _ _ _ c.loop-v.invariant c.loop-v-test.true, number_fits _ _ _ _ _ c.loop-v.invariant c.loop-v-test.true)

pub loop-v-preserved : goal.loop-v-preserved
loop-v-preserved c =
    rw c.put-at.ensures.next
    (turn _ _ _ _ _ c.loop-v.invariant c.loop-v-test.true c.put-at.new.buf c.put-at.auto.buf c.put-at.ensures.leaves)

pub returns-clause-says : goal.returns-clause-says
returns-clause-says c = (whole _ _ _ _ _ c.loop-v.invariant c.loop-v-test.false).0 ∙ ap (λ (ws : List ℕ). writing_of (length c.args.buf.now) (check_ward ws)) (sym (counted_is c.args.ward (search rules) c.in_ok-bytes.ensures (omega (arith, few c.args.ward (search rules) c.in_ok-bytes.ensures))))

pub returns-clause-leaves : goal.returns-clause-leaves
returns-clause-leaves c = (whole _ _ _ _ _ c.loop-v.invariant c.loop-v-test.false).1 ∙ ap (λ (ws : List ℕ). left_of c.args.buf.now (check_ward ws)) (sym (counted_is c.args.ward (search rules) c.in_ok-bytes.ensures (omega (arith, few c.args.ward (search rules) c.in_ok-bytes.ensures))))
