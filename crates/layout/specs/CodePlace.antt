-- What is left to read at a cursor's place.
use Rattle.std.specs.Prelude.{ℕ, zero, suc, ◌+◌, ◌-◌}
use Rattle.layout.specs.declared.Cursor.{Cursor}
use Rattle.layout.specs.declared.Head.{Head}
use Rattle.layout.specs.declared.Place.{Place}
use Rattle.layout.specs.declared.Place.TheVariants.{First, Edition, Nurses, Days, Groups, MostNights, LongestRun, Gap, Tabu, LongestDays, Weight, FirstDuty, NextDuty, LeastNightsOf, MostNightsOf, LeastRestsOf, MostRestsOf, Mark, Members, NightNeed, DayNeed, NightLow, NightHigh, DayLow, DayHigh, PairCount, PairDay, End}
use Rattle.layout.specs.Grammar.{Grammar, done, number}
use Rattle.layout.specs.Layout

-- ---- the cursor's moves

abbrev pub moved : Place → Cursor → Cursor
moved p c = record { place = p; outer = c.outer; inner = c.inner; before = c.before; head = c.head }

abbrev pub sized : Head → Place → Cursor → Cursor
sized h p c = record { place = p; outer = c.outer; inner = c.inner; before = c.before; head = h }

-- at a place after which k numbers or pairs, or k rows, are left
unfoldable pub inner_left : Place → Cursor → ℕ → Cursor
inner_left p c k = record { place = p; outer = c.outer; inner = k; before = c.before; head = c.head }

unfoldable pub outer_left : Place → Cursor → ℕ → Cursor
outer_left p c k = record { place = p; outer = k; inner = c.inner; before = c.before; head = c.head }

-- of k turns the next one, with those that are left after it; the rest where k is 0
unfoldable pub turn : ℕ → (ℕ → Cursor) → Cursor → Cursor
turn zero next rest = rest
turn (suc k) next rest = next k

-- ---- what is left at a place

-- of a nurse: her marks and the nurses after her; from her rests on; from her nights on
abbrev pub marks_on : Cursor → Grammar
marks_on c = Layout.repeat c.head.n Layout.mark (Layout.nurses c.head c.outer)

abbrev pub rests_on : Cursor → Grammar
rests_on c = Layout.pair 31 (marks_on c)

abbrev pub nights_on : Cursor → Grammar
nights_on c = Layout.pair 15 (rests_on c)

-- of a day: the groups that are left, and the days after it
abbrev pub bounds_on : Cursor → Grammar
bounds_on c = Layout.repeat c.inner Layout.bounds (Layout.days c.head c.outer)

abbrev pub tree_at : Place → Cursor → Grammar
tree_at First c = Layout.ward
tree_at Edition c = Layout.later
tree_at Nurses c = Layout.body c.head.edition
tree_at Days c = Layout.sizes c.head.edition c.head.m
tree_at Groups c = number (Layout.range 0 16) (λ r. Layout.rules (record { m = c.head.m; n = c.head.n; r = r; edition = c.head.edition }))
tree_at MostNights c = Layout.rules c.head
tree_at LongestRun c = Layout.one (Layout.range 1 3) (Layout.gaps c.head 3)
tree_at Gap c = Layout.one (Layout.range 1 5) (Layout.gaps c.head c.inner)
tree_at Tabu c = Layout.limits c.head
tree_at LongestDays c = Layout.one (Layout.range 1 6) (Layout.weights c.head 6)
tree_at Weight c = Layout.one (Layout.range 1 100) (Layout.weights c.head c.inner)
tree_at FirstDuty c = number (Layout.range 0 4) (λ d. Layout.duties 6 d (nights_on c))
tree_at NextDuty c = number (Layout.duty_after c.before) (λ d. Layout.duties c.inner d (nights_on c))
tree_at LeastNightsOf c = nights_on c
tree_at MostNightsOf c = Layout.one (Layout.range c.before 15) (rests_on c)
tree_at LeastRestsOf c = rests_on c
tree_at MostRestsOf c = Layout.one (Layout.range c.before 31) (marks_on c)
tree_at Mark c = Layout.one (Layout.range 0 6) (Layout.repeat c.inner Layout.mark (Layout.nurses c.head c.outer))
tree_at Members c = Layout.group c.head.m (Layout.groups c.head c.outer)
tree_at NightNeed c = Layout.day c.head.r (Layout.days c.head c.outer)
tree_at DayNeed c = Layout.one (Layout.range 0 48) (Layout.repeat c.head.r Layout.bounds (Layout.days c.head c.outer))
tree_at NightLow c = Layout.bounds (bounds_on c)
tree_at NightHigh c = Layout.one (Layout.range c.before 48) (Layout.pair 48 (bounds_on c))
tree_at DayLow c = Layout.pair 48 (bounds_on c)
tree_at DayHigh c = Layout.one (Layout.range c.before 48) (bounds_on c)
tree_at PairCount c = number (Layout.range 0 (Layout.pairs_most c.head.n)) (λ k. Layout.pairs c.head k 0)
tree_at PairDay c = number (Layout.range (c.before + 1) (c.head.n - 1)) (λ d. Layout.pairs c.head c.inner d)
tree_at End c = done

unfoldable pub tree : Cursor → Grammar
tree c = tree_at c.place c
