use Rattle.std.proofs.Common.{List, ℕ, ◌+◌, ap, set}
use Rattle.margins.proofs.MarginLaws.{day_put}
use Rattle.margins.proofs.part.Part.put_day.Goals as goal

pub returns : goal.returns
returns c =
    let t = c.on_column-standing.result in
    day_put _ _ _ _ _ _ c.args.c.now.fit.groups c.requires c.put_groups.ensures c.as_low.ensures c.need.ensures.is c.on_duty-count.ensures.is c.put.ensures
    (rw c.self.view_is at c.self.invariant.0) c.on_column-standing.ensures (ap (λ (r : List ℕ). set r (1088 + c.args.d) (t.short + t.over)) c.self.view_is)
