use Rattle.std.proofs.Common.{◌≡◌, ap, rules, sym, subst, ◌∙◌, get_or}
use Rattle.nights.specs.Nights.{common_of}
use Rattle.nights.specs.Hers.{hers_of}
use Rattle.nights.proofs.ListLaws.{common_at}
use Rattle.tries.specs.CodeTries.{allowed_by, AllHers, NightList, offered}
use Rattle.tries.proofs.NurseLaws.{night_table, night_found}
use Rattle.tries.proofs.Trials.over_list.Goals as goal

pub returns-in-Nights-Own : goal.returns-in-Nights-Own
returns-in-Nights-Own c = λ cost y.
    let e = c.in-Nights-Own.is-0 in
    let x = c.args.self.now.tried.now in
    let w = x.nurse.ward.numbers.now in
    let hers : AllHers w x.nurse.index c.in-Nights-Own.own.now = subst (NightList w x.nurse.index) c.in-Nights-Own.is-1 (c.requires.listed e) in
    night_found c.requires (allowed_by x.barred.now) _ c.args.held e
    (rw (ap offered c.in-Nights-Own.is-1) (c.over_nights.ensures cost (night_table c.requires cost y e) (λ k t l p. search rules ∙ sym (hers k l))))

pub returns-in-Nights-Common : goal.returns-in-Nights-Common
returns-in-Nights-Common c = λ cost y.
    let e = c.in-Nights-Common.is-0 in
    let x = c.args.self.now.tried.now in
    let w = x.nurse.ward.numbers.now in
    let list = c.in-Nights-Common.all.now in
    let common : list ≡ common_of w = subst (NightList w x.nurse.index) c.in-Nights-Common.is-1 (c.requires.listed e) in
    night_found c.requires (allowed_by x.barred.now) _ c.args.held e
    (rw (ap offered c.in-Nights-Common.is-1) (c.over_nights-in-Nights-Common.ensures cost (night_table c.requires cost y e) (λ k t l p.
    let her = c.masks_of-hers.result.nurse in
    let at = common_at her.ward.numbers.now list k (common ∙ ap (λ j. common_of j.ward.numbers.now) (sym c.masks_of-hers.ensures)) l in
    let told : t ≡ hers_of her.ward.numbers.now her.index (get_or list k 0) = search (rules, at.0, at.1) in
    told ∙ ap (λ j. hers_of j.ward.numbers.now j.index (get_or list k 0)) c.masks_of-hers.ensures)))
