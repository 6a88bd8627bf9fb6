use Rattle.std.proofs.Common.{arith, subst, ℕ, ◌*◌}
use Rattle.tables.specs.CodeTables.{Cleared}
use Rattle.tables.proofs.SumLaws.{fill_end}
use Rattle.tables.proofs.Table.fill.Goals as goal

pub returns : goal.returns
returns c =
    let cleared = subst (λ (to : ℕ). Cleared c.loop-b.self-inside.sums c.clear.new.t (256 * c.div_ceil-sixes.result) to) (omega arith) c.clear.ensures in
    fill_end _ _ _ _ c.loop-b.invariant (omega arith) (omega arith) cleared c.args.c.now.small
