-- The set by which a trial of a night pattern goes: its digits are her starts, those of the two days before the month first, and three in a row say a day's state.
use Rattle.std.specs.Prelude.{◌≡◌, refl, Bool, true, false, cond, not, ◌&&◌, ◌||◌, List, ℕ, zero, suc, ◌+◌, ◌*◌, ◌/◌, ◌%◌, ◌<◌, eqb}
use Rattle.std.proofs.Common.{sym, ap, ap₂, ◌∙◌, arith}
use Rattle.numbers.specs.Digits.{has}
use Rattle.numbers.proofs.SetLaws.{has_first, has_moved}
use Rattle.fields.specs.Fields.{duty}
use Rattle.rows.specs.Rows.{row_state}
use Rattle.trials.specs.CodeTrials.{before_of}

-- ---- its digits

module _ (before p : ℕ) (h : before < 4) where
  two_digits : p * 4 + before ≡ (p * 2 + before / 2) * 2 + before % 2
  two_digits = omega arith

  moved : (j : ℕ) → has (p * 4 + before) (suc j) ≡ has (p * 2 + before / 2) j
  moved j = ap (λ (x : ℕ). has x (suc j)) two_digits ∙ has_moved (p * 2 + before / 2) (before % 2) j (omega arith)

  first_digit : has (p * 4 + before) 0 ≡ eqb (before % 2) 1
  first_digit = ap (λ (x : ℕ). has x 0) two_digits ∙ has_first (p * 2 + before / 2) (before % 2) (omega arith)

  second_digit : has (p * 4 + before) 1 ≡ eqb (before / 2) 1
  second_digit = moved 0 ∙ has_first p (before / 2) (omega arith)

-- from the third on they are her starts
pub start_digit : (before p d : ℕ) → before < 4 → has (p * 4 + before) (d + 2) ≡ has p d
start_digit before p d h =
    let e : d + 2 ≡ suc (suc d) = omega arith in
    ap (λ (j : ℕ). has (p * 4 + before) j) e ∙ moved before p h (suc d) ∙ has_moved p (before / 2) d (omega arith)

-- ---- the state of a day, by the digits

-- day 0 is N, or n
zero_one : (p : ℕ) (x y : Bool) → eqb (cond x 1 (cond y 2 0)) 1 ≡ has (p * 4 + cond x 2 (cond y 1 0)) 1
zero_one p true y = sym (second_digit 2 p (omega arith))
zero_one p false true = sym (second_digit 1 p (omega arith))
zero_one p false false = sym (second_digit 0 p (omega arith))

zero_two : (p : ℕ) (x y : Bool) → eqb (cond x 1 (cond y 2 0)) 2 ≡ (not (has (p * 4 + cond x 2 (cond y 1 0)) 1) && has (p * 4 + cond x 2 (cond y 1 0)) 0)
zero_two p true y = sym (ap₂ (λ (u v : Bool). not u && v) (second_digit 2 p (omega arith)) (first_digit 2 p (omega arith)))
zero_two p false true = sym (ap₂ (λ (u v : Bool). not u && v) (second_digit 1 p (omega arith)) (first_digit 1 p (omega arith)))
zero_two p false false = sym (ap₂ (λ (u v : Bool). not u && v) (second_digit 0 p (omega arith)) (first_digit 0 p (omega arith)))

-- a day after: s says whether she starts, x and y whether the day before is N, or n
after_one : (s x y : Bool) → eqb (cond s 1 (cond x 2 (cond y 3 0))) 1 ≡ s
after_one true x y = refl
after_one false true y = refl
after_one false false true = refl
after_one false false false = refl

after_two : (s x y : Bool) → eqb (cond s 1 (cond x 2 (cond y 3 0))) 2 ≡ (not s && x)
after_two true x y = refl
after_two false true y = refl
after_two false false true = refl
after_two false false false = refl

after_open : (s x y : Bool) → eqb (cond s 1 (cond x 2 (cond y 3 0))) 0 ≡ (not s && (not x && not y))
after_open true x y = refl
after_open false true y = refl
after_open false false true = refl
after_open false false false = refl

pub before_small : (b : List ℕ) → before_of b < 4
before_small b = go _ _
  where
    go : (x y : Bool) → cond x 2 (cond y 1 0) < 4
    go true y = omega arith
    go false true = omega arith
    go false false = omega arith

twice : (s x y : Bool) → (not s && (not x && not (not x && y))) ≡ (not s && (not x && not y))
twice s true y = refl
twice s false y = refl

either : (s x : Bool) → (s || (not s && x)) ≡ (s || x)
either true x = refl
either false x = refl

module _ (b : List ℕ) (p : ℕ) where
  -- the digit of a start
  third : (d : ℕ) → has p d ≡ has (p * 4 + before_of b) (d + 2)
  third d = sym (start_digit (before_of b) p d (before_small b))

  -- a day is N
  state_one : (d : ℕ) → eqb (row_state b p d) 1 ≡ has (p * 4 + before_of b) (d + 1)
  unfolding row_state
  state_one zero = zero_one p (eqb (duty b 6) 2) (eqb (duty b 6) 3)
  state_one (suc d) =
      let e : d + 2 ≡ suc d + 1 = omega arith in
      after_one (has p d) (eqb (row_state b p d) 1) (eqb (row_state b p d) 2) ∙ third d ∙ ap (has (p * 4 + before_of b)) e

  -- or n
  state_two : (d : ℕ) → eqb (row_state b p d) 2 ≡ (not (has (p * 4 + before_of b) (d + 1)) && has (p * 4 + before_of b) d)
  unfolding row_state
  state_two zero = zero_two p (eqb (duty b 6) 2) (eqb (duty b 6) 3)
  state_two (suc d) =
      let e : d + 2 ≡ suc d + 1 = omega arith in
      let q : d + 1 ≡ suc d = omega arith in
      after_two (has p d) (eqb (row_state b p d) 1) (eqb (row_state b p d) 2)
      ∙ ap₂ (λ (u v : Bool). not u && v) (third d ∙ ap (has (p * 4 + before_of b)) e) (state_one d ∙ ap (has (p * 4 + before_of b)) q)

  -- it is open where she starts neither on it nor on the two days before it
  pub window_open : (d : ℕ) → eqb (row_state b p (suc d)) 0
      ≡ (not (has (p * 4 + before_of b) (d + 2)) && (not (has (p * 4 + before_of b) (d + 1)) && not (has (p * 4 + before_of b) d)))
  unfolding row_state
  window_open d =
      after_open (has p d) (eqb (row_state b p d) 1) (eqb (row_state b p d) 2)
      ∙ (λ j. not (third d j) && (not (state_one d j) && not (state_two d j)))
      ∙ twice (has (p * 4 + before_of b) (d + 2)) (has (p * 4 + before_of b) (d + 1)) (has (p * 4 + before_of b) d)

  -- it is N or n where she starts on it or on the day before it
  pub busy_window : (d : ℕ) → (eqb (row_state b p (suc d)) 1 || eqb (row_state b p (suc d)) 2)
      ≡ (has (p * 4 + before_of b) (d + 2) || has (p * 4 + before_of b) (d + 1))
  busy_window d =
      let e : suc d + 1 ≡ d + 2 = omega arith in
      let q : suc d ≡ d + 1 = omega arith in
      let x = has (p * 4 + before_of b) in
      ap₂ (λ (u v : Bool). u || v) (state_one (suc d)) (state_two (suc d))
      ∙ either (x (suc d + 1)) (x (suc d)) ∙ ap₂ (λ (m n : ℕ). x m || x n) e q
