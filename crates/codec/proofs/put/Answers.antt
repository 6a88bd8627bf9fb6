use Rattle.std.proofs.Common.{ℕ, List, ◌≡◌, ◌+◌, ◌-◌, length, set, refl, ap₂, arith, ◌∙◌}
use Rattle.std.proofs.lemmas.Slice.{put_mid-paste}
use Rattle.codec.proofs.PutLaws.{put_start, put_more, last_low, put_last}
use Rattle.codec.proofs.put.Goals as goal

pub loop-byte-init : goal.loop-byte-init
loop-byte-init c = put_start c.args.v c.args.buf.now c.args.at _ c.requires.0 c.requires.1 (omega (arith, c.size-more.ensures.is, c.size-more.ensures.some))

pub loop-byte-preserved : goal.loop-byte-preserved
loop-byte-preserved c = put_more _ _ _ _ c.loop-byte.invariant (omega (arith, c.loop-byte-test.true, c.loop-byte.auto.byte-items))

pub overflow_cast-buf : goal.overflow_cast-buf
overflow_cast-buf c =
    let l = last_low _ _ _ _ c.loop-byte.invariant (omega (arith, c.loop-byte-test.false, c.loop-byte.auto)) in
    omega arith

pub returns-clause-leaves : goal.returns-clause-leaves
returns-clause-leaves c =
    let items = c.loop-byte.byte-items in
    let l : length items + 1 ≡ c.size-more.result = omega (arith, c.loop-byte.invariant.long, c.size-more.ensures.is) in
    let there : c.args.at + (c.size-more.result - 1) ≡ c.args.at + length items = omega arith in
    ap₂ (λ (xs : List ℕ) (i : ℕ). set xs i c.loop-byte.w) (put_mid-paste _ _ _ _ items (length items) refl (omega arith) refl) there
    ∙ put_last _ _ _ _ c.loop-byte.invariant (omega (arith, c.loop-byte-test.false, c.loop-byte.auto)) c.args.buf.now c.args.at c.requires.1
