use Rattle.std.proofs.Common.{◌≡◌, ap, sym, ◌∙◌, ne_eqb}
use Rattle.std.proofs.Math.Option.{none}
use Rattle.letters.specs.Letters.{first_bad, misplaced}
use Rattle.letters.specs.CodeLetters.{found_of}
use Rattle.letters.proofs.LetterLaws.{found_at}
use Rattle.letters.proofs.misplaced_at.Goals as goal

pub returns-in-None : goal.returns-in-None
unfolding misplaced
returns-in-None c =
    let e : first_bad 0 c.args.roster.now ≡ none = sym (found_at c.args.roster.now) ∙ ap found_of (sym c.first_bad.ensures ∙ c.in-None.is) in
    rw (e, ne_eqb _ _ c.if-roster-size.true)
