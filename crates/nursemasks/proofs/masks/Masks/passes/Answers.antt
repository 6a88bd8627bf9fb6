use Rattle.std.proofs.Common.{ℕ, sym, ap₂, ◌∙◌}
use Rattle.fields.specs.declared.rules.Rules.{Rules}
use Rattle.nights.specs.Nights.{follow, starts}
use Rattle.nights.specs.Hers.{shifted}
use Rattle.nursemasks.proofs.NearLaws.{out_never, out_marks, out_few, out_many, by_run, by_distance}
use Rattle.nursemasks.proofs.masks.Masks.passes.Goals as goal

pub returns-then-p-self-ne0 : goal.returns-then-p-self-ne0
returns-then-p-self-ne0 c = λ i is small known. out_never _ _ _ _ _ is small known c.args.w.now.accepted.days_most c.if-p-self-ne0.true

pub returns-then-not-marks_pass : goal.returns-then-not-marks_pass
returns-then-not-marks_pass c = λ i is small known. out_marks _ _ _ _ _ is small known (sym (c.marks_pass.ensures _ _ _ c.args.w.now.accepted.days_most is) ∙ c.if-not-marks_pass.true)

pub returns-then-k-self : goal.returns-then-k-self
returns-then-k-self c = λ i is small known. out_few _ _ _ _ _ is small known _ (c.ones-k.ensures.by_index _ small) c.if-k-self.true

pub returns-then-self-k : goal.returns-then-self-k
returns-then-self-k c = λ i is small known. out_many _ _ _ _ _ is small known _ (c.ones-k.ensures.by_index _ small) c.if-self-k.true

pub returns-then-p-self-eq0 : goal.returns-then-p-self-eq0
returns-then-p-self-eq0 c = λ i is small known.
    let run = by_run _ _ _ _ _ is small known _ (sym (c.marks_pass.ensures _ _ _ c.args.w.now.accepted.days_most is) ∙ c.if-not-marks_pass.false) (c.ones-k.ensures.by_index _ small) c.if-k-self.false c.if-self-k.false in
    by_distance _ _ _ _ _ is small known c.if-p-self-eq0.true ∙ run

pub returns : goal.returns
returns c = λ i is small known.
    let run = by_run _ _ _ _ _ is small known _ (sym (c.marks_pass.ensures _ _ _ c.args.w.now.accepted.days_most is) ∙ c.if-not-marks_pass.false) (c.ones-k.ensures.by_index _ small) c.if-k-self.false c.if-self-k.false in
    let m = c.args.self.now in
    let by_ward = ap₂ (λ (r : Rules) (n : ℕ). follow r m.last.prev m.last.run (shifted 7 (starts n c.args.p))) c.rules.ensures c.days.ensures.0 in
    c.keeps.ensures ∙ by_ward ∙ run
