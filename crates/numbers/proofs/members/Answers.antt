use Rattle.std.proofs.Common.{◌∙◌}
use Rattle.numbers.proofs.members.Goals as goal
use Rattle.numbers.proofs.DigitLaws.{masked_lt}
use Rattle.numbers.proofs.SetLaws.{masked_count}

pub returns : goal.returns
returns c =
    let s = c.args in
    record {
      is = c.ones.ensures.by_index 64 (masked_lt 64 s.column s.group c.ranges.group.fits) ∙ masked_count 64 s.column s.group;
      most = c.ones.ensures.upper_bound;
    }
