use Rattle.std.proofs.Common.{ap, ◌∙◌}
use Rattle.layout.specs.CodePlace.{tree}
use Rattle.layout.proofs.PlaceLaws.{after_at, gaps_left, weights_left, duties_left, marks_left, bounds_left}
use Rattle.layout.proofs.step.Goals as goal

pub returns-in-Days : goal.returns-in-Days
unfolding tree
returns-in-Days c = ap tree c.sized-in-Days.ensures ∙ after_at _ _ c.in-Days.is

pub returns-in-Groups : goal.returns-in-Groups
unfolding tree
returns-in-Groups c = ap tree c.sized-in-Groups.ensures ∙ after_at _ _ c.in-Groups.is

pub returns-in-MostNights : goal.returns-in-MostNights
unfolding tree
returns-in-MostNights c = ap tree c.moved.ensures ∙ after_at _ _ c.in-MostNights.is

pub returns-in-LongestRun : goal.returns-in-LongestRun
returns-in-LongestRun c = gaps_left _ _ _ c.at_inner.ensures c.moved-in-LongestRun.ensures ∙ after_at _ _ c.in-LongestRun.is

pub returns-in-Gap : goal.returns-in-Gap
returns-in-Gap c = gaps_left _ _ _ c.at_inner-in-Gap.ensures c.moved-in-Gap.ensures ∙ after_at _ _ c.in-Gap.is

pub returns-in-Tabu : goal.returns-in-Tabu
unfolding tree
returns-in-Tabu c = ap tree c.moved-in-Tabu.ensures ∙ after_at _ _ c.in-Tabu.is

pub returns-in-LongestDays : goal.returns-in-LongestDays
returns-in-LongestDays c = weights_left _ _ _ c.at_inner-in-LongestDays.ensures c.at_nurses.ensures ∙ after_at _ _ c.in-LongestDays.is

pub returns-in-Weight : goal.returns-in-Weight
returns-in-Weight c = weights_left _ _ _ c.at_inner-in-Weight.ensures c.at_nurses-in-Weight.ensures ∙ after_at _ _ c.in-Weight.is

pub returns-in-FirstDuty : goal.returns-in-FirstDuty
returns-in-FirstDuty c = duties_left _ _ _ c.at_inner-in-FirstDuty.ensures c.moved-in-FirstDuty.ensures ∙ after_at _ _ c.in-FirstDuty.is

pub returns-in-NextDuty : goal.returns-in-NextDuty
returns-in-NextDuty c = duties_left _ _ _ c.at_inner-in-NextDuty.ensures c.moved-in-NextDuty.ensures ∙ after_at _ _ c.in-NextDuty.is

pub returns-in-MostRestsOf : goal.returns-in-MostRestsOf
returns-in-MostRestsOf c = marks_left _ _ _ c.at_inner-in-MostRestsOf.ensures c.at_nurses-in-MostRestsOf.ensures ∙ after_at _ _ c.in-MostRestsOf.is

pub returns-in-Mark : goal.returns-in-Mark
returns-in-Mark c = marks_left _ _ _ c.at_inner-in-Mark.ensures c.at_nurses-in-Mark.ensures ∙ after_at _ _ c.in-Mark.is

pub returns-in-DayNeed : goal.returns-in-DayNeed
returns-in-DayNeed c = bounds_left _ _ _ c.at_inner-in-DayNeed.ensures c.at_days.ensures ∙ after_at _ _ c.in-DayNeed.is

pub returns-in-DayHigh : goal.returns-in-DayHigh
returns-in-DayHigh c = bounds_left _ _ _ c.at_inner-in-DayHigh.ensures c.at_days-in-DayHigh.ensures ∙ after_at _ _ c.in-DayHigh.is
