use Rattle.std.proofs.Common.{rules, ◌≡◌, length, get_or, take, arith, false, not, ◌∙◌, ◌≤◌, ap}
use Rattle.std.specs.List.{count_by}
use Rattle.fields.specs.Fields.{nurses}
use Rattle.numbers.specs.Sum.{one_if, count_to}
use Rattle.numbers.proofs.SumLaws.{count_le}
use Rattle.search.proofs.SlotLaws.{sum_taken}
use Rattle.search.proofs.slots.unplaced.Goals as goal

pub returns : goal.returns
returns c =
    let w = c.args.w.now.numbers.now in
    let most = c.args.w.now.accepted.nurses_most in
    let long : length c.args.rec.placed ≡ 48 = search rules in
    let counted : c.count.result ≡ count_by (λ b. not b) (take c.nurses.result c.args.rec.placed) = search rules in
    let taken = sum_taken (λ b. one_if (not b)) c.args.rec.placed false (nurses w) (omega (arith, long, most)) in
    let few : count_to (nurses w) (λ i. not (get_or c.args.rec.placed i false)) ≤ nurses w = count_le _ _ in
    let all : c.count.result ≡ count_to (nurses w) (λ i. not (get_or c.args.rec.placed i false)) = counted ∙ ap (λ n. count_by (λ b. not b) (take n c.args.rec.placed)) c.nurses.ensures.0 ∙ taken in
    record { is = all; most = omega (arith, all, few, most) }
