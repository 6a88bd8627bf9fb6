use Rattle.std.proofs.Common.{rules, ap, ◌∙◌, ◌≡◌}
use Rattle.numbers.specs.Patterns.{pattern}
use Rattle.search.proofs.SlotLaws.{no_slot, pattern_days, pattern_nights}
use Rattle.search.proofs.slots.pattern_in.Goals as goal
use Rattle.search.proofs.slots.pattern_in.Goals.{in-Nights, in-Days}

pub returns : goal.returns
returns c =
    let none = no_slot _ _ c.slot.ensures c.in_default.is in
    let no_pair : c.of.result ≡ pattern c.marked_days.result 0 = c.of.ensures ∙ ap (pattern c.marked_days.result) (search rules) in
    elim c.match-search.branch [
      | in-Nights x ↦ pattern_nights _ c.args.rec _ _ none x.in-Nights.is x.mark-is c.numbers.ensures.1 c.numbers.ensures.0 c.marked_days.ensures no_pair
      | in-Days x ↦ pattern_days _ c.args.rec _ _ none x.in-Days.is x.mark-is c.numbers.ensures.1 c.numbers.ensures.0 c.marked_days.ensures no_pair
    ]
