-- What a function returns where `?` finds a question that is a no.
use Rattle.std.proofs.Common.{◌≡◌, ap, ◌∙◌, Err}
use Rattle.std.proofs.lemmas.Result.{err_from_is_err_and}
use Rattle.std.proofs.Math.Option.{Option}
use Rattle.std.specs.Result.{IsErrAnd}
use Rattle.std.specs.declared.result.Result.{Result}
use Rattle.refusals.specs.declared.Refusal.{Refusal}
use Rattle.refusals.specs.Refusals.{refusal_in, first}
use Rattle.refusals.proofs.OrderLaws.{first_no_lem}

module _ {T : Type 0} {r : Result T Refusal} {n : Refusal} (h : IsErrAnd r (λ e. e ≡ n)) where
  pub exit_err : r ≡ Err n
  exit_err = let p = err_from_is_err_and r h in p.1 ∙ ap Err p.2

pub exit_no : {X Y : Type 0} {a : Result X Refusal} {A : Option Refusal} {n : Refusal} (B : Option Refusal) (r : Result Y Refusal) → refusal_in a ≡ A → a ≡ Err n
    → IsErrAnd r (λ e. e ≡ n) → refusal_in r ≡ first A B
exit_no B r asked e h = ap refusal_in (exit_err h) ∙ first_no_lem B asked e
