-- With no steps to make the advance is that of none.
use Rattle.std.proofs.Common.{subst, sym, arith, List, ℕ}
use Rattle.history.specs.declared.Search.{Search}
use Rattle.search.specs.CodeSeek.{search_of, ends_of, tried_by, Seeks, SeeksBy}
use Rattle.search.specs.declared.Searched.{Searched}
use Rattle.search.proofs.PlanLaws.{day_sought}
use Rattle.search.proofs.Record.advance.Goals as goal

pub returns-then-k-eq0 : goal.returns-then-k-eq0
returns-then-k-eq0 c = λ P s e.
    let x = c.args.searched in
    let w = c.args.w.now.numbers.now in
    let tried = tried_by (search_of x) w c.args.lists.now (ends_of x) in
    rw c.if-k-eq0.true (c.advance_none.ensures P tried (subst (λ (d : Search). SeeksBy d w tried P) (sym c.search.ensures) s) e)

pub returns-in-Days : goal.returns-in-Days
returns-in-Days c = λ P s e.
    let w = c.args.w.now in
    let lists = c.args.lists.now in
    let by_day = subst (λ (x : Searched (List ℕ)). Seeks (search_of x) w.numbers.now lists (ends_of x) P) c.in-Days.is s in
    c.advance_over.ensures P (day_sought w.numbers.now lists _ _ (λ i l. c.day_plan.ensures.each i (omega (arith, w.accepted.nurses_most))) by_day) e
