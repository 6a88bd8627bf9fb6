use Rattle.std.proofs.Common.{rules}
use Rattle.dayadvance.proofs.DayLaws.{counted_asked}
use Rattle.dayadvance.proofs.lists_asked.Goals as goal

pub returns-clause-asked : goal.returns-clause-asked
returns-clause-asked c = counted_asked _ _ _ c.lists_count.result c.lists_count.ensures (λ ends e. search (rules, e)) (λ over e. search (rules, e))
