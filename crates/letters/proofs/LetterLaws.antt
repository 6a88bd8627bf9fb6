-- Question 12's place, and what the letter of a duty says.
use Rattle.std.specs.Prelude.{◌≡◌, refl, Bool, true, false, cond, not, ◌&&◌, List, [], ◌∷◌, ℕ, suc, ◌+◌, eqb, length, Some}
use Rattle.std.proofs.Common.{ap, ◌∙◌, add-one, arith, eqb-true}
use Rattle.std.proofs.lemmas.Iterator.Adapters.{position_from-zero}
use Rattle.std.proofs.Math.Option.{Option, none, some}
use Rattle.std.specs.List.{position, position_from}
use Rattle.rows.specs.Rows.{state_after, available, duty_of}
use Rattle.letters.specs.Letters.{letter, is_letter, first_bad, or_count, misplaced}
use Rattle.letters.specs.CodeLetters.{found_of}

-- ---- the place

-- the first of those from `at` on, as a search by position gives it
pub first_found : (at : ℕ) (cs : List ℕ) → found_of (position_from (λ c. not (is_letter c)) at cs) ≡ first_bad at cs
unfolding first_bad
first_found at [] = refl
first_found at (c ∷ cs) = go (is_letter c) (first_found (suc at) cs)
  where
    go : (b : Bool) → found_of (position_from (λ x. not (is_letter x)) (suc at) cs) ≡ first_bad (suc at) cs
        → found_of (cond (not b) (Some at) (position_from (λ x. not (is_letter x)) (at + 1) cs)) ≡ cond b (first_bad (suc at) cs) (some at)
    go true e = rw (add-one at) e
    go false e = refl

pub found_at : (cs : List ℕ) → found_of (position (λ c. not (is_letter c)) cs) ≡ first_bad 0 cs
found_at cs = ap found_of (position_from-zero (λ c. not (is_letter c)) cs) ∙ first_found 0 cs

-- letters that question 12 lets through are as many as it asks
no_place : (f : Option ℕ) (count size : ℕ) → or_count f count size ≡ none → count ≡ size
no_place (some at) count size e = let z : ◌≡◌ {A = ℕ} 0 1 = cc in absurd (omega arith)
no_place none count size e = go (eqb count size) refl e
  where
    go : (b : Bool) → eqb count size ≡ b → cond b none (some count) ≡ none → count ≡ size
    go true q h = eqb-true count size q
    go false q h = let z : ◌≡◌ {A = ℕ} 0 1 = cc in absurd (omega arith)

pub placed_long : (size : ℕ) (r : List ℕ) → misplaced size r ≡ none → length r ≡ size
unfolding misplaced
placed_long size r e = no_place (first_bad 0 r) (length r) size e

-- ---- the letter of a duty

five_cases : (a b c d e : Bool) → is_letter (letter (cond a 2 (cond b 3 (cond c 0 (cond d 1 (cond e 4 0)))))) ≡ true
unfolding letter is_letter
five_cases true b c d e = refl
five_cases false true c d e = refl
five_cases false false true d e = refl
five_cases false false false true e = refl
five_cases false false false false true = refl
five_cases false false false false false = refl

-- it is one of the five
pub five : (mark state : ℕ) (worked : Bool) → is_letter (letter (duty_of mark state worked)) ≡ true
five mark state worked = five_cases (eqb state 1) (eqb state 2) (eqb state 3) worked (eqb mark 4)

abbrev after : Bool → Bool → Bool → ℕ
after s a b = cond s 1 (cond a 2 (cond b 3 0))

abbrev duty_in : ℕ → Bool → Bool → ℕ
duty_in state worked e = cond (eqb state 1) 2 (cond (eqb state 2) 3 (cond (eqb state 3) 0 (cond worked 1 (cond e 4 0))))

night_cases : (s a b worked e : Bool) → eqb (letter (duty_in (after s a b) worked e)) (letter 2) ≡ s
unfolding letter
night_cases true a b worked e = refl
night_cases false true b worked e = refl
night_cases false false true worked e = refl
night_cases false false false true e = refl
night_cases false false false false true = refl
night_cases false false false false false = refl

-- it is N exactly on started days
pub night_letter : (mark before : ℕ) (s worked : Bool) → eqb (letter (duty_of mark (state_after before s) worked)) (letter 2) ≡ s
night_letter mark before s worked = night_cases s (eqb before 1) (eqb before 2) worked (eqb mark 4)

day_cases : (s a b worked e ok : Bool) → (worked ≡ true → (eqb (after s a b) 0 && ok) ≡ true) → eqb (letter (duty_in (after s a b) worked e)) (letter 1) ≡ worked
unfolding letter
day_cases true a b true e ok h = h refl
day_cases true a b false e ok h = refl
day_cases false true b true e ok h = h refl
day_cases false true b false e ok h = refl
day_cases false false true true e ok h = h refl
day_cases false false true false e ok h = refl
day_cases false false false true e ok h = refl
day_cases false false false false true ok h = refl
day_cases false false false false false ok h = refl

-- it is `-` exactly on worked days, where only available days are worked
pub day_letter : (mark before : ℕ) (s worked : Bool) → (worked ≡ true → available mark (state_after before s) ≡ true)
    → eqb (letter (duty_of mark (state_after before s) worked)) (letter 1) ≡ worked
day_letter mark before s worked h = day_cases s (eqb before 1) (eqb before 2) worked (eqb mark 4) _ h
