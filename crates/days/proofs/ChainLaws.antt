-- Tests of mapped and of shifted numbers, and what a test keeps in std's words.
use Rattle.std.specs.Prelude.{◌≡◌, refl, Bool, cond, ◌&&◌, ◌||◌, List, [], ◌∷◌, map, ℕ, zero, suc}
use Rattle.std.proofs.Common.{ap}
use Rattle.std.specs.List.{filter as kept}
use Rattle.numbers.specs.Range.{up_from, filter, all, any_of}

pub all_map : (t : ℕ → Bool) (f : ℕ → ℕ) (xs : List ℕ) → all t (map f xs) ≡ all (λ x. t (f x)) xs
unfolding all
all_map t f [] = refl
all_map t f (x ∷ xs) = ap (λ b. t (f x) && b) (all_map t f xs)

pub any_map : (t : ℕ → Bool) (f : ℕ → ℕ) (xs : List ℕ) → any_of t (map f xs) ≡ any_of (λ x. t (f x)) xs
unfolding any_of
any_map t f [] = refl
any_map t f (x ∷ xs) = ap (λ b. t (f x) || b) (any_map t f xs)

pub all_shift : (t : ℕ → Bool) (a n : ℕ) → all t (up_from (suc a) n) ≡ all (λ d. t (suc d)) (up_from a n)
unfolding all up_from
all_shift t a zero = refl
all_shift t a (suc n) = ap (λ b. t (suc a) && b) (all_shift t (suc a) n)

pub filter_is : (t : ℕ → Bool) (xs : List ℕ) → filter t xs ≡ kept t xs
unfolding filter
filter_is t [] = refl
filter_is t (x ∷ xs) = ap (λ ys. cond (t x) (x ∷ ys) ys) (filter_is t xs)
