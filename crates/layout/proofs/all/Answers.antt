use Rattle.layout.proofs.PowLaws.{small_power}
use Rattle.layout.proofs.all.Goals as goal

pub overflow_shl-bit : goal.overflow_shl-bit
overflow_shl-bit c = small_power c.args.m c.requires
