use Rattle.std.proofs.Common.{false, refl, ◌∙◌, ◌≡◌, ◌∷◌, []}
use Rattle.fields.specs.Fields.{days}
use Rattle.fields.specs.Rules.{rules_of}
use Rattle.nightlists.specs.CodeWalk.{here, hers_with_pair}
use Rattle.nights.proofs.ListLaws.{some_leaf, some_empty}
use Rattle.nightlists.proofs.some.Wanted.is_here.Goals as goal

pub returns-then-done : goal.returns-then-done
returns-then-done c = λ among.
    let s = c.args.self.now.masks in
    let w = s.nurse.ward.numbers.now in
    let e : here c.args.done c.args.from ≡ c.args.from ∷ [] = rw c.if-done.true refl in
    some_leaf (rules_of w) (days w) (hers_with_pair w s.nurse.index) _ _ c.args.from e c.is.ensures among

pub returns-else-done : goal.returns-else-done
returns-else-done c = λ among.
    let s = c.args.self.now.masks in
    let w = s.nurse.ward.numbers.now in
    let e : here c.args.done c.args.from ≡ [] = rw c.if-done.false refl in
    c.if-done.false ∙ some_empty (rules_of w) (days w) (hers_with_pair w s.nurse.index) _ false e
