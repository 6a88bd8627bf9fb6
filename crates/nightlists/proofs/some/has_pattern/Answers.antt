use Rattle.std.proofs.Common.{◌≡◌}
use Rattle.fields.specs.Fields.{days}
use Rattle.fields.specs.Rules.{rules_of}
use Rattle.fields.specs.declared.rules.Rules.{Rules}
use Rattle.nights.specs.Nights.{common}
use Rattle.std.proofs.Common.{ap, ◌∙◌}
use Rattle.nightlists.proofs.SomeLaws.{some_of_list, says_as}
use Rattle.nightlists.proofs.some.has_pattern.Goals as goal

pub returns : goal.returns
returns c =
    let her = c.args.her.now in
    let w = her.ward.numbers.now in
    let k : c.of-k.result.rules ≡ rules_of w = c.of-k.ensures ∙ c.rules.ensures in
    let n : c.days.result ≡ days w = c.days.ensures.0 in
    let all = c.none.ensures c.of-k.result.rules (rw k her.ward.accepted.run_some) ∙ ap (λ (r : Rules). common r c.days.result) k ∙ ap (common (rules_of w)) n in
    some_of_list w her.index _ _ her.ward.accepted all (says_as _ _ (ap (λ h. h.ward.numbers.now) c.masks_of.ensures) (ap (λ h. h.index) c.masks_of.ensures) c.some.ensures)
