use Rattle.codec.proofs.+groups.Given as goal

-- the groups that may still follow
abbrev pub decreases-groups : goal.decreases-groups
decreases-groups l = l.more
