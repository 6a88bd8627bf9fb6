use Rattle.std.proofs.Common.{rules, sym, ◌∙◌, ap, eq-eqb, ℕ, List, get_or, take, drop, length, get_or-take, get_or-drop, ◌<◌, ◌-◌, ◌+◌, ◌≡◌, ◌≤◌, arith}
use Rattle.numbers.specs.Range.{up_from, any_of}
use Rattle.rows.specs.Pairs.{pair_fits}
use Rattle.fields.specs.Fields.{Accepted, pair_count, block}
use Rattle.nights.proofs.OwnLaws.{pair_numbers_some}
use Rattle.nursemasks.specs.CodePairs.{BusyDays, PairDays}
use Rattle.nursemasks.proofs.PairMaskLaws.{any_none}
use Rattle.nursemasks.proofs.WithinLaws.{any_placed}
use Rattle.std.proofs.lemmas.Iterator.{YieldsList-from_slice}
use Rattle.nursemasks.proofs.pairs.any_fits.Goals as goal

pub returns-then-x-eq0 : goal.returns-then-x-eq0
returns-then-x-eq0 c = λ w i p ok of b. eq-eqb c.args.x.count 0 c.if-x-eq0.true ∙ any_none w i p (sym of.count_is ∙ c.if-x-eq0.true)

pub returns-else-x-eq0 : goal.returns-else-x-eq0
returns-else-x-eq0 c = λ w i p ok of b.
    let x = c.args.x in
    let xs : List ℕ = take (x.count + 1 - 1) (drop 1 x.days) in
    let n : length xs ≡ x.count = search rules in
    let hers : (k : ℕ) → k < length xs → PairDays w i (k + 1) (get_or xs k 0) = λ k h.
    let from : 1 + k ≡ k + 1 = omega arith in
    let is : get_or xs k 0 ≡ get_or x.days (k + 1) 0 = get_or-take _ _ k 0 (omega (arith, n)) ∙ get_or-drop 1 x.days k 0 ∙ ap (λ (m : ℕ). get_or x.days m 0) from in
    rw is (of.days_are (k + 1) (omega arith) (omega (arith, n, of.count_is))) in
    any_placed (pair_fits w i p) (λ r d. (k : ℕ) → 1 ≤ k → k ≤ pair_count w → PairDays w i k d → r ≡ pair_fits w i p k) xs
    (λ k r h e. e (k + 1) (omega arith) (omega (arith, n, of.count_is)) (hers k h)) _ c.any.ensures.ran (YieldsList-from_slice xs c.iter.ensures.rest)
    (λ d r q z. (
      search rules,
      λ k l h y.
          let fits : (w : List ℕ) (i p n : ℕ) → Accepted w → 1 ≤ n → n ≤ pair_count w → BusyDays (block w i) p c.args.busy → PairDays w i n d.now → r ≡ pair_fits w i p n = search rules in
          fits w i p k ok l h b y,
    ))
    ∙ ap (λ (m : ℕ). any_of (pair_fits w i p) (up_from 1 m)) (n ∙ of.count_is)
    ∙ ap (any_of (pair_fits w i p)) (sym (pair_numbers_some w (λ e. c.if-x-eq0.false (of.count_is ∙ e))))
