-- What a day's step and a count of rests depend on: only the duties of their own places, and so only the days of q there.
use Rattle.std.specs.Prelude.{◌≡◌, Bool, true, false, cond, not, ◌&&◌, ◌||◌, List, ℕ, suc, ◌+◌, ◌-◌, ◌*◌, ◌/◌, ◌%◌, ◌^◌, ◌≤◌, ◌<◌, ltb, length}
use Rattle.std.proofs.Common.{sym, ap, ap₂, ◌∙◌, arith, pow_mono}
use Rattle.std.proofs.lemmas.Nat.{shl-shr}
use Rattle.numbers.specs.Sum.{one_if}
use Rattle.numbers.specs.Digits.{has}
use Rattle.numbers.proofs.DigitLaws.{bit_of_zero}
use Rattle.numbers.proofs.HalfLaws.{pow_twice, low_half, high_half}
use Rattle.numbers.proofs.AgreeLaws.{filter_agree, high_agree}
use Rattle.days.specs.Days.{is_rest}
use Rattle.days.specs.CodeMonth.{duty_at, rest_on}
use Rattle.daylists.specs.CodeWalk.{step_holds, branch}
use Rattle.days.specs.declared.month.Month.{Month}
use Rattle.days.proofs.RuleLaws.{rests_from, duty_worked}
use Rattle.days.proofs.WindowLaws.{windows_same, duty_same}

-- a and q are the same on the seven days from d on
abbrev pub Near : ℕ → ℕ → ℕ → Type 0
Near d a q = (j : ℕ) → d ≤ j → j < d + 7 → has a j ≡ has q j

pub near_high : (d a q : ℕ) → a / 2 ^ d ≡ q / 2 ^ d → Near d a q
near_high d a q e j l h = high_agree a q d j e l

module _ (m : Month) (row : List ℕ) (short : m.longest ≤ 6) (d a q : ℕ) (near : Near d a q) where
  duties_near : (u : ℕ) → d + 13 ≤ u + 6 → u ≤ d + 13 → duty_at row a u ≡ duty_at row q u
  duties_near u l h = duty_same row a q u (λ k. near (u - 7) (omega arith) (omega arith))

  pub step_same : step_holds m row d a ≡ step_holds m row d q
  unfolding step_holds
  step_same =
      ap (λ (b : Bool). ltb m.days (d + 7) || b)
      (ap₂ ◌&&◌
      (ap (λ (b : Bool). cond b (has m.available (d + 6)) (not (has m.fixed (d + 6)))) (near (d + 6) (omega arith) (omega arith)))
      (windows_same (duty_at row a) (duty_at row q) m.longest (d + 13) short (omega arith) duties_near))

  pub rest_same : rest_on row a d ≡ rest_on row q d
  unfolding rest_on
  rest_same = ap (λ (x : ℕ). one_if (is_rest x)) (duties_near (d + 7) (omega arith) (omega arith))

  pub branch_same : (f : ℕ → ℕ) → a / 2 ^ d % 64 ≡ q / 2 ^ d % 64 → branch m row f d a ≡ branch m row f d q
  unfolding branch
  branch_same f e = rw (step_same, rest_same, e)

-- ---- choices of the days from d on

-- one of the days after day d, with day d and without it
pub choice_next : (n d s : ℕ) → suc d ≤ n → s < 2 ^ (n - suc d) → s * 2 + 1 < 2 ^ (n - d)
choice_next n d s l h =
    let e : n - d ≡ suc (n - suc d) = omega arith in
    let q : 2 ^ (n - d) ≡ 2 ^ (n - suc d) + 2 ^ (n - suc d) = ap (λ (k : ℕ). 2 ^ k) e ∙ pow_twice (n - suc d) in
    omega arith

-- no seven of them, and seven
pub choice_few : (n d : ℕ) → n < d + 7 → 2 ^ (n - d) ≤ 64
choice_few n d h = pow_mono {i = n - d} {j = 6} (omega arith)

pub choice_many : (n d : ℕ) → d + 7 ≤ n → 128 ≤ 2 ^ (n - d)
choice_many n d h = pow_mono {i = 7} {j = n - d} (omega arith)

-- ---- rests

-- a day that is not worked is a rest where the row's is, and one that is worked is none
rest_off : (row : List ℕ) (q d : ℕ) → has q d ≡ false → rest_on row q d ≡ rest_on row 0 d
unfolding rest_on
rest_off row q d e =
    let i : d + 7 - 7 ≡ d = omega arith in
    let none : has 0 d ≡ false = rw (bit_of_zero d) in
    ap (λ (x : ℕ). one_if (is_rest x)) (duty_same row q 0 (d + 7) (λ k. rw i (e ∙ sym none)))

rest_worked : (row : List ℕ) (q d : ℕ) → has q d ≡ true → rest_on row q d ≡ 0
unfolding rest_on
rest_worked row q d e =
    let i : d + 7 - 7 ≡ d = omega arith in
    ap (λ (x : ℕ). one_if (is_rest x)) (sym (duty_worked row q (d + 7) (omega arith) (rw i e)))

-- the two choices of day d, where the days after it make A
pub rest_low : (row : List ℕ) (A d : ℕ) → rest_on row (A * 2 ^ suc d) d ≡ rest_on row 0 d
rest_low row A d =
    let even : A * 2 % 2 ≡ 0 = omega arith in
    rest_off row (A * 2 ^ suc d) d (rw (low_half d A, shl-shr (A * 2) d, even))

pub rest_high : (row : List ℕ) (A d : ℕ) → rest_on row (A * 2 ^ suc d + 2 ^ d) d ≡ 0
rest_high row A d =
    let odd : (A * 2 + 1) % 2 ≡ 1 = omega arith in
    rest_worked row (A * 2 ^ suc d + 2 ^ d) d (rw (high_half d A, shl-shr (A * 2 + 1) d, odd))

pub rests_same : (f g : ℕ → ℕ) (n d : ℕ) → ((u : ℕ) → d + 7 ≤ u → f u ≡ g u) → rests_from f n d ≡ rests_from g n d
rests_same f g n d h =
    ap length (filter_agree (λ t. is_rest (f t)) (λ t. is_rest (g t)) (d + 7) (n - d) (λ x l k. ap (λ (y : ℕ). is_rest y) (h x l)))

pub rests_high : (row : List ℕ) (n d a q : ℕ) → a / 2 ^ d ≡ q / 2 ^ d → rests_from (duty_at row a) n d ≡ rests_from (duty_at row q) n d
rests_high row n d a q e =
    rests_same (duty_at row a) (duty_at row q) n d (λ u l. duty_same row a q u (λ k. high_agree a q d (u - 7) e (omega arith)))
