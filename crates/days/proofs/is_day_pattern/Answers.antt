use Rattle.days.proofs.SheetLaws.{rule_is}
use Rattle.std.proofs.Common.{sym, ap, ◌∙◌}
use Rattle.days.specs.Days.{day_rule_of}
use Rattle.days.proofs.is_day_pattern.Goals as goal

pub returns : goal.returns
returns c = c.rule_holds.ensures ∙ sym (rule_is _ _ _ _ _ _ _ c.nurse_sheet.ensures c.args.her.now.ward.accepted.day_run_most c.from.result) ∙ ap (day_rule_of c.args.her.now.ward.numbers.now c.args.her.now.index c.args.c) c.from.ensures
