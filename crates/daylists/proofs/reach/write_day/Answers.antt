use Rattle.std.proofs.Common.{arith, ap, ◌-◌, ◌∙◌, length-set}
use Rattle.numbers.specs.Sum.{one_if}
use Rattle.days.specs.CodeMonth.{rest_on}
use Rattle.daylists.proofs.WalkLaws.{choice_small, filled_less, filled_turn}
use Rattle.daylists.proofs.reach.write_day.Goals.{then-d-gt0, else-d-gt0}
use Rattle.daylists.proofs.reach.write_day.Goals as goal

pub reached-found-requires-clause-rest_is : goal.reached-found-requires-clause-rest_is
unfolding rest_on
reached-found-requires-clause-rest_is c =
    elim c.if-d-gt0.branch [ then-d-gt0 w ↦ λ l. ap one_if (w.rest-is ∙ w.rests_on-rest.ensures) | else-d-gt0 w ↦ λ l. absurd (omega arith) ]

pub loop-s-preserved : goal.loop-s-preserved
loop-s-preserved c =
    let l = c.loop-s in
    let sheet = c.args.sheet.now in
    let small = choice_small (sheet.month.days - c.args.d) (omega (arith, sheet.small.few_days)) c.min-top.ensures c.loop-s-test.true in
    let after =
    filled_turn sheet.month sheet.row l.ways c.args.d l.s small l.invariant.1 (omega (arith, l.invariant.0, small, sheet.small.few_days))
    c.reached-found.ensures c.kept.ensures c.kept-in-loop-s.ensures in
    (simp length-set l.invariant.0, filled_less _ _ _ _ _ after (omega arith))
