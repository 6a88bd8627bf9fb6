-- What `any` over a list answers where the closure's answer is known by an element's place: a test of the numbers of the places, from 1.
use Rattle.std.proofs.Common.{◌≡◌, ℕ, List, Bool, true, false, ◌+◌, ◌<◌, length, get_or, sym, ap, ◌∙◌, arith}
use Rattle.std.specs.Bool.{MatchBool}
use Rattle.std.specs.Fn.{Called}
use Rattle.std.specs.Iterator.{YieldsThen}
use Rattle.std.specs.Option.{MatchOption}
use Rattle.std.specs.declared.option.Option.{Option}
use Rattle.std.specs.List.{list_any, range_with_len, AllWithin, HoldsAt, FoldsTo}
use denote.Param.Members.{Mut}
use Rattle.std.proofs.lemmas.Iterator.{YieldsList, cases_from_any}
use Rattle.std.proofs.lemmas.List.Folds.{list_any_at, list_any_none}
use Rattle.std.proofs.lemmas.List.FromFn.{length-range_with_len, get_or-range_with_len}
use Rattle.numbers.specs.Range.{up_from, any_of}
use Rattle.numbers.proofs.IterLaws.{range_is, any_is}

module _ (t : ℕ → Bool) (P : Bool → ℕ → Type 0) (xs : List ℕ) (is : (k : ℕ) (b : Bool) → k < length xs → P b (get_or xs k 0) → b ≡ t (k + 1)) where
  place : (k d : ℕ) → k < length xs → get_or (range_with_len 1 (length xs)) k d ≡ k + 1
  place k d h = omega (arith, get_or-range_with_len 1 (length xs) k d h)

  told : (r : Bool) → MatchBool r ((k : ℕ) × (k < length xs) × HoldsAt (P true) xs k) (AllWithin (P false) xs 0 (length xs)) → r ≡ list_any t (range_with_len 1 (length xs))
  told true (k, h, e) =
      let below : k < length (range_with_len 1 (length xs)) = omega (arith, length-range_with_len 1 (length xs)) in
      sym (list_any_at t (range_with_len 1 (length xs)) k 0 below (ap t (place k 0 h) ∙ sym (is k true h (e 0))))
  told false e = sym (list_any_none t (range_with_len 1 (length xs)) (λ k d h.
      let below : k < length xs = omega (arith, length-range_with_len 1 (length xs)) in
      ap t (place k d below) ∙ sym (is k false below (e k 0 (omega arith) below))))

  pub any_placed : {S A F : Type 0} {steps : S → Option A → S → Type 0} {v : A → ℕ} {g : Mut F (A × Unit {0}) Bool} {s : S} (u : S) {f : F} {r : Bool}
      → (ys : List A) × (o : Option A) × (j : F) × YieldsThen steps s ys o u × FoldsTo (λ p x q. Called g p (x, tt) false q) f ys j × MatchOption o (r ≡ false) (λ x. (r ≡ true) × ((h : F) × Called g j (x, tt) true h))
      → YieldsList steps v s xs → ((x : A) (b : Bool) (q : F) → Called g f (x, tt) b q → (q ≡ f) × P b (v x)) → r ≡ any_of t (up_from 1 (length xs))
  any_placed u {f} {r} ran e k =
      told r (cases_from_any u f r (P true) (P false) ran e (λ x q z. (k x true q z).1) (λ x q z. k x false q z))
      ∙ sym (any_is t _) ∙ ap (any_of t) (sym (range_is 1 (length xs)))
