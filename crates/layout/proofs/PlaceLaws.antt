-- What is left at a place that is known, and where a number of turns is left.
use Rattle.std.specs.Prelude.{ℕ, zero, suc, ◌≤◌, ◌<◌, ◌-◌, ◌≡◌, refl}
use Rattle.std.proofs.Common.{◌∙◌, sym, ap, arith}
use Rattle.layout.specs.declared.Cursor.{Cursor}
use Rattle.layout.specs.declared.Place.{Place}
use Rattle.layout.specs.declared.Place.TheVariants.{Gap, Tabu, Weight, FirstDuty, NextDuty, LeastNightsOf, Mark, Members, NightNeed, NightLow, PairDay, End}
use Rattle.layout.specs.Grammar.{Grammar}
use Rattle.layout.specs.CodeWant.{wanted, after}
use Rattle.layout.specs.Layout
use Rattle.layout.specs.CodePlace.{tree_at, tree, moved, inner_left, outer_left, turn, nights_on}

pub tree_at_lem : (c : Cursor) {p : Place} → c.place ≡ p → tree_at p c ≡ tree c
unfolding tree
tree_at_lem c e = ap (λ (p : Place). tree_at p c) (sym e)

pub wanted_at_lem : (c : Cursor) {p : Place} → c.place ≡ p → wanted (tree_at p c) ≡ wanted (tree c)
wanted_at_lem c e = ap wanted (tree_at_lem c e)

pub after_at : (c : Cursor) (v : ℕ) {p : Place} → c.place ≡ p → after (tree_at p c) v ≡ after (tree c) v
after_at c v e = ap (λ (g : Grammar). after g v) (tree_at_lem c e)

-- where k turns are left, as the code finds it out
pub turn_again : (k : ℕ) (next : ℕ → Cursor) (rest : Cursor) → 0 < k → next (k - 1) ≡ turn k next rest
unfolding turn
turn_again k next rest h =
    let e : k ≡ suc (k - 1) = omega arith in
    sym (ap (λ (i : ℕ). turn i next rest) e)

pub turn_over : (k : ℕ) (next : ℕ → Cursor) (rest : Cursor) → k ≤ 0 → rest ≡ turn k next rest
unfolding turn
turn_over k next rest h =
    let e : k ≡ 0 = omega arith in
    sym (ap (λ (i : ℕ). turn i next rest) e)

-- every repeat of the layout: `left` is what its turns leave to read
turned :
    (k : ℕ) (next : ℕ → Cursor) (rest : Cursor) {r : Cursor} (left : ℕ → Grammar)
    → r ≡ turn k next rest → tree rest ≡ left 0 → ((j : ℕ) → tree (next j) ≡ left (suc j)) → tree r ≡ left k
unfolding turn
turned k next rest left e none some = ap tree e ∙ go k
  where
    go : (i : ℕ) → tree (turn i next rest) ≡ left i
    go zero = none
    go (suc j) = some j

-- each repeat
module _ (c : Cursor) (k : ℕ) (rest : Cursor) {r : Cursor} where
  pub gaps_left : r ≡ turn k (inner_left Gap c) rest → rest ≡ moved Tabu c → tree r ≡ Layout.gaps c.head k
  unfolding tree inner_left
  gaps_left e over = turned k _ rest (Layout.gaps c.head) e (ap tree over) (λ j. refl)

  pub weights_left : r ≡ turn k (inner_left Weight c) rest → tree rest ≡ Layout.nurses c.head c.head.m → tree r ≡ Layout.weights c.head k
  unfolding tree inner_left
  weights_left e over = turned k _ rest (Layout.weights c.head) e over (λ j. refl)

  pub duties_left : r ≡ turn k (inner_left NextDuty c) rest → rest ≡ moved LeastNightsOf c → tree r ≡ Layout.duties k c.before (nights_on c)
  unfolding tree inner_left
  duties_left e over = turned k _ rest (λ (i : ℕ). Layout.duties i c.before (nights_on c)) e (ap tree over) (λ j. refl)

  pub marks_left : r ≡ turn k (inner_left Mark c) rest → tree rest ≡ Layout.nurses c.head c.outer → tree r ≡ Layout.repeat k Layout.mark (Layout.nurses c.head c.outer)
  unfolding tree inner_left
  marks_left e over = turned k _ rest (λ (i : ℕ). Layout.repeat i Layout.mark (Layout.nurses c.head c.outer)) e over (λ j. refl)

  pub bounds_left : r ≡ turn k (inner_left NightLow c) rest → tree rest ≡ Layout.days c.head c.outer → tree r ≡ Layout.repeat k Layout.bounds (Layout.days c.head c.outer)
  unfolding tree inner_left
  bounds_left e over = turned k _ rest (λ (i : ℕ). Layout.repeat i Layout.bounds (Layout.days c.head c.outer)) e over (λ j. refl)

  pub nurses_left : r ≡ turn k (outer_left FirstDuty c) rest → tree rest ≡ Layout.groups c.head c.head.r → tree r ≡ Layout.nurses c.head k
  unfolding tree outer_left
  nurses_left e over = turned k _ rest (Layout.nurses c.head) e over (λ j. refl)

  pub groups_left : r ≡ turn k (outer_left Members c) rest → tree rest ≡ Layout.days c.head c.head.n → tree r ≡ Layout.groups c.head k
  unfolding tree outer_left
  groups_left e over = turned k _ rest (Layout.groups c.head) e over (λ j. refl)

  pub days_left : r ≡ turn k (outer_left NightNeed c) rest → tree rest ≡ Layout.two c.head → tree r ≡ Layout.days c.head k
  unfolding tree outer_left
  days_left e over = turned k _ rest (Layout.days c.head) e over (λ j. refl)

  pub pairs_left : r ≡ turn k (inner_left PairDay c) rest → rest ≡ moved End c → tree r ≡ Layout.pairs c.head k c.before
  unfolding tree inner_left
  pairs_left e over = turned k _ rest (λ (i : ℕ). Layout.pairs c.head i c.before) e (ap tree over) (λ j. refl)
