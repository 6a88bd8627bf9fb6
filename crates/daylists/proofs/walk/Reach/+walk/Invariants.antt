use Rattle.daylists.proofs.walk.Reach.+walk.Given as goal

abbrev pub decreases-walk : goal.decreases-walk
decreases-walk g l = l.left
