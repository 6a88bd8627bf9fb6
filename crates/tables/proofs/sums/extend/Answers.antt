use Rattle.std.proofs.Common.{arith}
use Rattle.tables.proofs.SumLaws.{once_low, twice_low, extended}
use Rattle.tables.proofs.sums.extend.Goals as goal

pub raise-requires-2-clause-small : goal.raise-requires-2-clause-small
raise-requires-2-clause-small c = (omega arith, c.requires.2, once_low _ _ _ _ _ c.requires.4 c.requires.1 c.raise.ensures)

pub raise-requires-3-clause-small : goal.raise-requires-3-clause-small
raise-requires-3-clause-small c = (omega arith, c.requires.3, twice_low _ _ _ _ _ _ _ c.requires.4 c.requires.1 c.requires.2 c.raise.ensures c.raise-2.ensures)

pub returns : goal.returns
returns c = extended _ _ _ _ _ _ _ _ _ c.raise.ensures c.raise-2.ensures c.raise-3.ensures
