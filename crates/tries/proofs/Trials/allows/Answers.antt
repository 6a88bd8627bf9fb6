use Rattle.std.proofs.Common.{rules, sym, ap, not, eqb, ◌∙◌, ℕ, Bool}
use Rattle.std.proofs.lemmas.Iterator.{YieldsList-from_slice}
use Rattle.std.proofs.lemmas.Iterator.Search.{any_from_yields_List}
use Rattle.numbers.proofs.IterLaws.{any_is}
use Rattle.tries.proofs.Trials.allows.Goals as goal

pub returns : goal.returns
returns c =
    let same : ℕ → Bool = λ x. eqb x c.args.pattern in
    ap not (any_from_yields_List same _ _ _ c.any.ensures.ran (YieldsList-from_slice _ c.iter.ensures.rest) (λ x b q z. search rules) ∙ sym (any_is same _))
