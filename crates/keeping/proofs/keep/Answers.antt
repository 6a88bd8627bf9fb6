use Rattle.std.proofs.Common.{rules, ap, ◌∙◌, Err, arith}
use Rattle.std.proofs.lemmas.Result.{err_from_is_err_and}
use Rattle.std.proofs.lemmas.Slice.{put_mid-paste}
use Rattle.search.specs.Stored.{Sized}
use Rattle.keeping.specs.Storage.{entry_words}
use Rattle.keeping.proofs.CallLaws.{kept_says, kept_leaves, keep_refused, keep_leaves}
use Rattle.keeping.proofs.keep.Goals as goal

pub returns-in_err-at-clause-says : goal.returns-in_err-at-clause-says
returns-in_err-at-clause-says c =
    let p = err_from_is_err_and _ c.from_residual.ensures.1 in
    p.1 ∙ ap Err p.2 ∙ keep_refused c.args.storage.now c.args.number c.in_err-at.ensures

pub returns-in_err-at-clause-leaves : goal.returns-in_err-at-clause-leaves
returns-in_err-at-clause-leaves c = keep_leaves c.args.storage.now c.args.number c.in_err-at.ensures c.args.rec

pub returns-clause-says : goal.returns-clause-says
returns-clause-says c = kept_says c.args.storage.now c.args.number c.in_ok-at.ensures

pub returns-clause-leaves : goal.returns-clause-leaves
returns-clause-leaves c =
    let sized : Sized c.args.rec = search rules in
    put_mid-paste _ _ _ _ _ entry_words c.copy_from_slice.ensures.after (omega arith) (search rules)
    ∙ kept_leaves c.args.storage.now c.args.number c.in_ok-at.ensures c.args.rec sized c.entry_of.ensures
