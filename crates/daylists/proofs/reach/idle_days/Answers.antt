use Rattle.std.proofs.Common.{rules, tests}
use Rattle.daylists.proofs.WalkLaws.{resting, idle_is}
use Rattle.daylists.proofs.reach.idle_days.Goals as goal

pub returns : goal.returns
returns c = idle_is _ _ _ (c.set_of.ensures.set (resting c.args.sheet.now.row) (λ i b l e. search (rules, tests)))
