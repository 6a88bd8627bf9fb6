-- What the check answers.
use Rattle.refusals.specs.Refusals.{numbered}
use Rattle.refusals.specs.Questions as question
use Rattle.std.specs.Prelude.{ℕ, ◌*◌, cond, List}
use Rattle.std.proofs.Math.Option.{none, some}
use Rattle.fields.specs.Fields.{body_of, nurses, days}
use Rattle.layout.specs.Grammar.{Read, good, bad}
use Rattle.ward.specs.Answers.{read_ward}
use Rattle.letters.specs.Letters.{misplaced}
use Rattle.rostercheck.specs.CodeCheck.{holds}
use Rattle.std.specs.declared.result.Result.{Result}
use Rattle.std.specs.declared.result.Result.TheVariants.{Ok, Err}
use Rattle.refusals.specs.declared.Refusal.{Refusal}
use Rattle.outcomes.specs.declared.Verdict.{Verdict}
use Rattle.outcomes.specs.declared.Verdict.TheVariants.{Passed, Broken}

-- question 12, then the rules
unfoldable pub check_letters : List ℕ → List ℕ → Result Verdict Refusal
check_letters w roster =
    elim (misplaced (nurses w * days w) roster) [
      | some place ↦ Err (numbered question.letters place)
      | none ↦ Ok (cond (holds w roster) Passed Broken)
    ]

-- over what the reader says of the file: questions 1 to 5 come first
unfoldable pub check_over : Read → List ℕ → Result Verdict Refusal
check_over (bad n) roster = Err n
check_over (good ws) roster = check_letters (body_of ws) roster

abbrev pub check_says : List ℕ → List ℕ → Result Verdict Refusal
check_says file roster = check_over (read_ward file) roster
