use Rattle.std.proofs.Common.{suc, ap, ◌∙◌}
use Rattle.rows.specs.Pairs.{in_pair}
use Rattle.days.proofs.MonthLaws.{sheet_as}
use Rattle.days.proofs.nurse_sheet.Goals as goal

pub returns : goal.returns
returns c = sheet_as c.numbers.ensures.0 c.numbers.ensures.1 c.longest_days-longest.ensures.0 c.days_of-p.ensures (λ d. c.pair_days-off.ensures d ∙ ap (λ k. in_pair c.args.her.now.ward.numbers.now k (suc d)) c.pair_of-k.ensures) c.sheet_of.ensures
