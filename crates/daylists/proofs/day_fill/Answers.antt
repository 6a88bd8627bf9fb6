use Rattle.std.proofs.Common.{rules, sym}
use Rattle.daylists.proofs.WalkLaws.{written_list, written_keeps}
use Rattle.daylists.proofs.day_fill.Goals as goal

pub returns-clause-buf_after : goal.returns-clause-buf_after
returns-clause-buf_after c =
    let put = c.day_list.ensures.written c.requires.c_in_bounds in
    let same = written_keeps _ (λ r. r.list.ghost_name) (λ s i q t e. e.0) _ _ _ _ put in
    let there = written_list _ (λ r. r.list.now) (λ s i q t e. e.1) _ _ _ put c.requires.c_in_bounds in
    let named = sym same in
    search rules
