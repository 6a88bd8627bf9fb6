use Rattle.std.proofs.Common.{refl}
use Rattle.phases.proofs.OpeningLaws.{everyone_placed}
use Rattle.phases.proofs.opening.night_penalty.Goals as goal

pub returns : goal.returns
returns c =
    let placed = everyone_placed c.args.w.now.numbers.now c.args.nights.now _ c.args.w.now.accepted refl refl in
    c.penalty_of.ensures _ placed
