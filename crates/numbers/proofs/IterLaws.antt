-- What an iterator over a range or a slice answers, as the tests of specs/Range.
use Rattle.std.proofs.Common.{◌≡◌, ℕ, suc, zero, Bool, ◌-◌, ◌&&◌, ◌||◌, true, false, sym, arith, ◌∙◌, List, [], ◌∷◌, refl, ap}
use Rattle.std.specs.List.{list_any, list_all, range_with_len, FoldsTo}
use Rattle.std.specs.Iterator.{YieldsThen}
use Rattle.std.specs.Option.{MatchOption}
use Rattle.std.specs.Fn.{Called}
use Rattle.std.specs.declared.option.Option.{Option}
use Rattle.std.specs.declared.ops.Range.{Range}
use denote.Param.Members.{Mut}
use Rattle.std.proofs.iter.Yields.{nat_range_steps}
use Rattle.std.proofs.lemmas.Iterator.{YieldsList-from_range}
use Rattle.std.proofs.lemmas.Iterator.Search.{all_from_yields_List, any_from_yields_List}
use Rattle.numbers.specs.Range.{up_from, all, any_of}

pub range_is : (a n : ℕ) → up_from a n ≡ range_with_len a n
unfolding up_from
range_is a zero = refl
range_is a (suc n) = ap (λ xs. a ∷ xs) (range_is (suc a) n ∙ ap (λ b. range_with_len b n) (omega arith))

pub all_is : (t : ℕ → Bool) (xs : List ℕ) → all t xs ≡ list_all t xs
unfolding all
all_is t [] = refl
all_is t (x ∷ xs) = ap (λ b. t x && b) (all_is t xs)

pub any_is : (t : ℕ → Bool) (xs : List ℕ) → any_of t xs ≡ list_any t xs
unfolding any_of
any_is t [] = refl
any_is t (x ∷ xs) = ap (λ b. t x || b) (any_is t xs)

-- What std says of a run of `all` or `any` over a range from a up to b.
module _ {F : Type 0} (g : Mut F (ℕ × Unit {0}) Bool) (s u : Range ℕ) (f : F) (r : Bool) where
  abbrev pub AllRan : Type 0
  AllRan = (xs : List ℕ) × (o : Option ℕ) × (j : F) × YieldsThen nat_range_steps s xs o u × FoldsTo (λ p x q. Called g p (x, tt) true q) f xs j
      × MatchOption o (r ≡ true) (λ x. (r ≡ false) × ((h : F) × Called g j (x, tt) false h))

  abbrev pub AnyRan : Type 0
  AnyRan = (xs : List ℕ) × (o : Option ℕ) × (j : F) × YieldsThen nat_range_steps s xs o u × FoldsTo (λ p x q. Called g p (x, tt) false q) f xs j
      × MatchOption o (r ≡ false) (λ x. (r ≡ true) × ((h : F) × Called g j (x, tt) true h))

-- Where the closure computes a test, they are the tests of all n numbers from a on; the last premise is `search (rules, tests)` at a caller.
module _ {F : Type 0} {g : Mut F (ℕ × Unit {0}) Bool} {s u : Range ℕ} {f : F} {r : Bool} (t : ℕ → Bool) (a b n : ℕ) where
  pub all_over : AllRan g s u f r → s ≡ record { start = a; end = b } → b - a ≡ n → ((x : ℕ) (c : Bool) (q : F) → Called g f (x, tt) c q → (q ≡ f) × (c ≡ t x)) → r ≡ all t (up_from a n)
  all_over ran e l k = all_from_yields_List t u f r ran (YieldsList-from_range a b n e l) k ∙ sym (all_is t _) ∙ ap (all t) (sym (range_is a n))

  pub any_over : AnyRan g s u f r → s ≡ record { start = a; end = b } → b - a ≡ n → ((x : ℕ) (c : Bool) (q : F) → Called g f (x, tt) c q → (q ≡ f) × (c ≡ t x)) → r ≡ any_of t (up_from a n)
  any_over ran e l k = any_from_yields_List t u f r ran (YieldsList-from_range a b n e l) k ∙ sym (any_is t _) ∙ ap (any_of t) (sym (range_is a n))

-- The same from 0 on.
module _ {F : Type 0} {g : Mut F (ℕ × Unit {0}) Bool} {s u : Range ℕ} {f : F} {r : Bool} (t : ℕ → Bool) (b n : ℕ) where
  pub all_below : AllRan g s u f r → s ≡ record { start = 0; end = b } → b ≡ n → ((x : ℕ) (c : Bool) (q : F) → Called g f (x, tt) c q → (q ≡ f) × (c ≡ t x)) → r ≡ all t (up_from 0 n)
  all_below ran e l k = all_over t 0 b n ran e (omega (arith, l)) k

  pub any_below : AnyRan g s u f r → s ≡ record { start = 0; end = b } → b ≡ n → ((x : ℕ) (c : Bool) (q : F) → Called g f (x, tt) c q → (q ≡ f) × (c ≡ t x)) → r ≡ any_of t (up_from 0 n)
  any_below ran e l k = any_over t 0 b n ran e (omega (arith, l)) k
