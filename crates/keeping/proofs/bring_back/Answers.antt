use Rattle.std.proofs.Common.{sym, ap, ◌∙◌}
use Rattle.refusals.specs.declared.Refusal.{Refusal}
use Rattle.outcomes.specs.Outcomes.{refused_with}
use Rattle.outcomes.proofs.OutcomeLaws.{asked_yes, exit_handed}
use Rattle.std.specs.declared.result.Result.TheVariants.{Err}
use Rattle.keeping.proofs.CallLaws.{nothing_kept, record_kept, return_refused}
use Rattle.keeping.proofs.bring_back.Goals as goal

pub returns-in_err-at : goal.returns-in_err-at
returns-in_err-at c =
    let back = exit_handed _ _ c.handed_back.ensures c.in_err-at.was c.from_residual.ensures.1 in
    back.1 ∙ return_refused c.args.storage.now c.args.number (sym back.0 ∙ c.entry_at-place.ensures) c.args.rec

pub returns-then-entry-eq0 : goal.returns-then-entry-eq0
returns-then-entry-eq0 c =
    ap (λ (x : Refusal). Err (refused_with x c.args.rec)) c.at.ensures
    ∙ nothing_kept c.args.storage.now c.args.number (sym (asked_yes _ _ c.handed_back.ensures c.in_ok-at.was) ∙ c.entry_at-place.ensures) c.args.rec c.if-entry-eq0.true

pub returns : goal.returns
returns c =
    record_kept c.args.storage.now c.args.number (sym (asked_yes _ _ c.handed_back.ensures c.in_ok-at.was) ∙ c.entry_at-place.ensures) c.args.rec c.if-entry-eq0.false
    c.copy_from_slice.ensures.after c.record_of.ensures
