-- The walk over the table and the days of rest lists what the walk over the month does.
use Rattle.std.specs.Prelude.{◌≡◌, refl, Bool, true, false, cond, ◌&&◌, List, [], ◌++◌, ℕ, zero, suc, ◌+◌, ◌-◌, ◌*◌, ◌/◌, ◌%◌, ◌^◌, ◌≤◌, ◌<◌}
use Rattle.std.proofs.Common.{sym, ap, ap₂, ◌∙◌, add-zero, mod-lt, zero-lt-suc, arith}
use Rattle.std.proofs.lemmas.Nat.{shl-shr}
use Rattle.numbers.specs.Digits.{has}
use Rattle.numbers.proofs.DigitLaws.{bit_of_zero}
use Rattle.numbers.proofs.AgreeLaws.{field_agree}
use Rattle.numbers.proofs.HalfLaws.{low_half, high_half}
use Rattle.days.specs.CodeMonth.{SmallMonth}
use Rattle.days.specs.declared.month.Month.{Month}
use Rattle.daylists.specs.CodeWalk.{Filled, Idle, step_holds, reach, onward, goes_on, listed, opens, walked}
use Rattle.daylists.proofs.LocalLaws.{choice_next, step_same, rest_low, rest_high}

has_cond : (b : Bool) (x r : ℕ) → has (cond b x 0) r ≡ (b && has x r)
has_cond true x r = refl
has_cond false x r = rw (bit_of_zero r)

module _ (m : Month) (row ways : List ℕ) (idle : ℕ) (small : SmallMonth m) (filled : Filled m row ways (64 * m.days + 64)) (rests : Idle row m.days idle) where
  opens_is : (d a r : ℕ) → d ≤ m.days → a / 2 ^ d < 2 ^ (m.days - d) → opens ways d a r ≡ goes_on m row d a r
  unfolding opens goes_on onward
  opens_is d a r l h =
      let x = a / 2 ^ d % 128 in
      let six : a / 2 ^ d % 128 % 64 ≡ a / 2 ^ d % 64 = omega arith in
      ap (λ (y : ℕ). has y r) (filled.entry d x (mod-lt (a / 2 ^ d) (zero-lt-suc 127)) (omega arith) (omega arith))
      ∙ has_cond (step_holds m row d (x * 2 ^ d)) (reach m row d (x % 64)) r
      ∙ ap₂ (λ (b : Bool) (y : ℕ). b && has (reach m row d y) r) (step_same m row small.short d (x * 2 ^ d) a (λ j i k. field_agree a d 7 j i k)) six

  pub walked_is : (d A r : ℕ) → d ≤ m.days → A < 2 ^ (m.days - d) → walked ways idle d (A * 2 ^ d) r ≡ listed m row d (A * 2 ^ d) r
  unfolding walked listed
  walked_is zero A r l h = rw (opens_is 0 (A * 2 ^ 0) r l (rw (shl-shr A 0) h))
  walked_is (suc d) A r l h =
      ap₂ (λ (b : Bool) (L : List ℕ). cond b L []) (opens_is (suc d) (A * 2 ^ suc d) r l (rw (shl-shr A (suc d)) h))
      (ap₂ ◌++◌
      (at (A * 2) (low_half d A) (ap (λ (x : ℕ). r + x) (rests.rest d (omega arith) ∙ sym (rest_low row A d)))
      (λ k. walked_is d (A * 2) k (omega arith) (omega (arith, choice_next m.days d A l h))))
      (at (A * 2 + 1) (high_half d A) (sym (ap (λ (x : ℕ). r + x) (rest_high row A d) ∙ add-zero r))
      (λ k. walked_is d (A * 2 + 1) k (omega arith) (choice_next m.days d A l h))))
    where
      at : (B : ℕ) {a k j : ℕ} → a ≡ B * 2 ^ d → k ≡ j → ((r : ℕ) → walked ways idle d (B * 2 ^ d) r ≡ listed m row d (B * 2 ^ d) r)
          → walked ways idle d a k ≡ listed m row d a j
      at B e g ih = rw (e, g) (ih _)
