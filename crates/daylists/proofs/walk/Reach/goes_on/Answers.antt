use Rattle.daylists.specs.CodeWalk.{opens}
use Rattle.daylists.proofs.walk.Reach.goes_on.Goals as goal

pub returns : goal.returns
unfolding opens
returns c = c.has.ensures
