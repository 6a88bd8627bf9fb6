-- What `sum` gives over the numbers below n, each read by a closure: the sum of a function that the closure computes.
use Rattle.std.specs.Prelude.{◌≡◌, List, ℕ, zero, suc, ◌+◌, ◌<◌, map}
use Rattle.std.specs.Bool.{⊤}
use Rattle.std.specs.Fn.{Called}
use Rattle.std.specs.Iterator.{Drains}
use Rattle.std.specs.Iterator.Adapters.{map_source, map_callee}
use Rattle.std.specs.Iterator.Runs.{EachRunFrom}
use Rattle.std.specs.List.{range_with_len, fold, sum}
use Rattle.std.specs.declared.iter.Map.{Map}
use Rattle.std.specs.declared.ops.Range.{Range}
use denote.Param.Members.{Mut}
use Rattle.std.proofs.Common.{sym, ap, ◌∙◌, arith}
use Rattle.std.proofs.iter.Yields.{nat_range_steps}
use Rattle.std.proofs.lemmas.Iterator.{YieldsList, YieldsList-from_map, YieldsList-from_range, maps}
use Rattle.std.proofs.lemmas.Iterator.Consumers.{sum_from_yields_List, fits_from_yields_list}
use Rattle.std.proofs.lemmas.List.Sums.{sum_by_from}
use Rattle.numbers.specs.Sum.{sum_to}
use Rattle.numbers.proofs.SumLaws.{sum_zero, sum_front, sum_ext}

sum_from : (f : ℕ → ℕ) (a n : ℕ) → sum (map f (range_with_len a n)) ≡ sum_to n (λ i. f (a + i))
sum_from f a zero = sym (sum_zero (λ i. f (a + i)))
sum_from f a (suc n) =
    let first : f (a + 0) ≡ f a = ap f (omega arith) in
    let later = sum_ext n (λ i. f (a + 1 + i)) (λ i. f (a + suc i)) (λ i l. ap f (omega arith)) in
    sum_by_from (λ x. x) (0 + f a) (map f (range_with_len (a + 1) n)) ∙ omega (arith, sum_from f (a + 1) n, later, first, sum_front n (λ i. f (a + i)))

sum_below : (f : ℕ → ℕ) (n : ℕ) → sum (map f (range_with_len 0 n)) ≡ sum_to n f
sum_below f n = sum_from f 0 n ∙ sum_ext n (λ i. f (0 + i)) f (λ i l. ap f (omega arith))

-- The last premise is `search (rules, tests)` at a caller.
module _ {F : Type 0} {g : Mut F (ℕ × Unit {0}) ℕ} (s : Map (Range ℕ) F) {h : F} (f : ℕ → ℕ) (n : ℕ)
    (source : map_source s ≡ record { start = 0; end = n }) (callee : map_callee s ≡ h)
    (computes : (x r : ℕ) (q : F) → Called g h (x, tt) r q → (q ≡ h) × (r ≡ f x)) where
  read : YieldsList (maps nat_range_steps g) (λ r. r) s (map f (range_with_len 0 n))
  read = YieldsList-from_map g f (YieldsList-from_range 0 n n source (omega arith)) callee computes

  pub sum_fits : (top : ℕ) → sum_to n f < top → EachRunFrom (maps nat_range_steps g) s (λ p. fold (λ a x. a + x) 0 p.items < top)
  sum_fits top l = fits_from_yields_list s top read (omega (arith, sum_below f n, l))

  pub sum_is : {r : ℕ} → ((xs : List ℕ) × (⊤ → Drains (maps nat_range_steps g) s xs) × (r ≡ fold (λ a x. a + x) 0 xs)) → r ≡ sum_to n f
  sum_is ran = sum_from_yields_List s _ ran read ∙ sum_below f n
