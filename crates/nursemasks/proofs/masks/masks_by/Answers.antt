use Rattle.std.proofs.Common.{◌≡◌, ℕ, ◌^◌, ◌-◌, arith, ap, ap₂, ◌∙◌, List, eqb, rules}
use Rattle.numbers.specs.Sum.{one_if}
use Rattle.fields.specs.Rules.{rules_of}
use Rattle.nursemasks.specs.CodeMasks.{near, masks_by}
use Rattle.nursemasks.proofs.MaskLaws.{never_fits, one_where, masks_made, masks_small}
use Rattle.nursemasks.proofs.masks.masks_by.Goals as goal

pub overflow_cast-never : goal.overflow_cast-never
overflow_cast-never c =
    let b = c.numbers-b.result in
    omega (arith, never_fits c.args.table.now b.days b.numbers.now c.bars_of-bars.ensures b.month)

pub returns-clause-is : goal.returns-clause-is
returns-clause-is c =
    let r = rules_of c.args.her.now.ward.numbers.now in
    let was_night : c.from.result ≡ one_if (eqb c.last_duty.result 2) = search rules in
    let was_second : c.from-2.result ≡ one_if (eqb c.last_duty-2.result 3) = search rules in
    let night = one_where 2 was_night c.last_duty.ensures in
    let second = one_where 3 was_second c.last_duty-2.ensures in
    let near : c.bit-near.result - 1 ≡ 2 ^ near r c.last_run-last.result.prev c.last_run-last.result.run - 1 = ap (λ (x : ℕ). x - 1) (c.bit-near.ensures ∙ ap (λ (k : ℕ). 2 ^ k) c.near_days.ensures.is) in
    masks_made _ r _ _ _ _ _ _ _ _ _ _ c.bars_of-bars.ensures c.workable_days.ensures night second c.least_nights.ensures c.most_nights.ensures near c.last_run-last.ensures.prev_value
    ∙ ap₂ (λ (n : ℕ) (b : List ℕ). masks_by c.args.table.now r n b) c.numbers-b.ensures.1 c.numbers-b.ensures.0

pub returns-clause-small : goal.returns-clause-small
returns-clause-small c =
    let r = rules_of c.args.her.now.ward.numbers.now in
    let was_night : c.from.result ≡ one_if (eqb c.last_duty.result 2) = search rules in
    let was_second : c.from-2.result ≡ one_if (eqb c.last_duty-2.result 3) = search rules in
    let night = one_where 2 was_night c.last_duty.ensures in
    let second = one_where 3 was_second c.last_duty-2.ensures in
    masks_small c.args.table.now r _ c.numbers-b.result.numbers.now _ _ _ _ _ _ _ _ c.bars_of-bars.ensures c.workable_days.ensures night second c.least_nights.ensures c.most_nights.ensures c.numbers-b.result.month c.last_run-last.ensures.prev_bound
