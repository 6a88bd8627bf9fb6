-- The walk lists the numbers below 2^n that the rule over the month lets through, in their order.
use Rattle.std.specs.Prelude.{◌≡◌, refl, Bool, true, false, cond, ◌⊎◌, List, [], ◌++◌, ℕ, zero, suc, ◌+◌, ◌-◌, ◌*◌, ◌/◌, ◌%◌, ◌^◌, ◌≤◌, ◌<◌}
use Rattle.std.proofs.Common.{sym, ap, ap₂, ◌∙◌, subst, inl, inr, add_comm, zero-mul, eq-or-lt_of_le, add-one, arith, pow_pos, true≢false}
use Rattle.std.proofs.lemmas.Bool.{and_parts}
use Rattle.std.proofs.lemmas.Nat.{shl-shr}
use Rattle.std.proofs.Math.Pow.{high}
use Rattle.numbers.specs.Range.{up_from, filter}
use Rattle.numbers.specs.Digits.{has}
use Rattle.numbers.proofs.HalfLaws.{pow_twice, low_half, high_half, filter_halves}
use Rattle.numbers.proofs.AgreeLaws.{filter_none, high_agree}
use Rattle.days.specs.CodeMonth.{duty_at, rule_of, rest_on}
use Rattle.daylists.specs.CodeWalk.{step_holds, reach, goes_on, listed}
use Rattle.days.specs.declared.month.Month.{Month}
use Rattle.days.proofs.RuleLaws.{rests_from, rest_day, rests_done}
use Rattle.daylists.proofs.LocalLaws.{step_same, rests_high}
use Rattle.daylists.proofs.ReachLaws.{Bounded, never_cut, comes_to}

-- ---- the numbers whose first digits are A

same_high : (A d x : ℕ) → A * 2 ^ d ≤ x → x < A * 2 ^ d + 2 ^ d → A * 2 ^ d / 2 ^ d ≡ x / 2 ^ d
same_high A d x l h =
    let z : x - A * 2 ^ d < 2 ^ d = omega arith in
    let e : A * 2 ^ d + (x - A * 2 ^ d) ≡ x = omega arith in
    shl-shr A d ∙ sym (high A d z) ∙ ap (λ (y : ℕ). y / 2 ^ d) e

module _ (m : Month) (row : List ℕ) (b : Bounded m) where
  abbrev below : ℕ → ℕ → List ℕ
  below d a = filter (rule_of m row) (up_from a (2 ^ d))

  -- nothing is left where the walk does not go on
  cut_empty : (d A r : ℕ) → d ≤ m.days → r ≡ rests_from (duty_at row (A * 2 ^ d)) m.days d → goes_on m row d (A * 2 ^ d) r ≡ false → below d (A * 2 ^ d) ≡ []
  cut_empty d A r l e f = filter_none (rule_of m row) (A * 2 ^ d) (2 ^ d) (λ x i h. go x i h (rule_of m row x) refl)
    where
      go : (x : ℕ) → A * 2 ^ d ≤ x → x < A * 2 ^ d + 2 ^ d → (t : Bool) → rule_of m row x ≡ t → rule_of m row x ≡ false
      go x i h true y =
          let g = never_cut m row b x y d (A * 2 ^ d) r l (same_high A d x i h) e in
          absurd (true≢false (sym g ∙ f))
      go x i h false y = y

  rests_on : (d a r : ℕ) → d < m.days → r ≡ rests_from (duty_at row a) m.days (suc d) → r + rest_on row a d ≡ rests_from (duty_at row a) m.days d
  rests_on d a r l e =
      e' ∙ sym (rest_day row a m.days d l)
    where
      e' : r + rest_on row a d ≡ rest_on row a d + rests_from (duty_at row a) m.days (d + 1)
      e' = ap (λ (k : ℕ). k + rest_on row a d) (e ∙ ap (rests_from (duty_at row a) m.days) (sym (add-one d))) ∙ add_comm (rests_from (duty_at row a) m.days (d + 1)) (rest_on row a d)

  -- the other half has the same rests after day d
  rests_half : (d A : ℕ) → rests_from (duty_at row (A * 2 ^ suc d)) m.days (suc d) ≡ rests_from (duty_at row (A * 2 ^ suc d + 2 ^ d)) m.days (suc d)
  rests_half d A =
      rests_high row m.days (suc d) (A * 2 ^ suc d) (A * 2 ^ suc d + 2 ^ d) (same_high A (suc d) (A * 2 ^ suc d + 2 ^ d) (omega arith) (omega (arith, pow_twice d, pow_pos d)))

  -- the walk came here: each day from d on is as its step asks
  abbrev Came : ℕ → ℕ → Type 0
  Came d a = (e : ℕ) → d ≤ e → e ≤ m.days → step_holds m row e a ≡ true

  -- and goes on, for each number with the same days from d on
  came_on : (d a q : ℕ) → a / 2 ^ d ≡ q / 2 ^ d → Came d a → Came d q
  came_on d a q e f k l h = step_same m row b.small.short k q a (λ j i s. sym (high_agree a q d j e (omega arith))) ∙ f k l h

  goes_parts : (d a r : ℕ) → goes_on m row d a r ≡ true → (step_holds m row d a ≡ true) × (has (reach m row d (a / 2 ^ d % 64)) r ≡ true)
  unfolding goes_on
  goes_parts d a r g = and_parts (step_holds m row d a) (has (reach m row d (a / 2 ^ d % 64)) r) g

  came_next : (d a r : ℕ) → d ≤ m.days → Came (suc d) a → goes_on m row d a r ≡ true → Came d a
  came_next d a r l f g k h i = go (eq-or-lt_of_le h)
    where
      go : (d ≡ k) ⊎ (d < k) → step_holds m row k a ≡ true
      go (inl e) = subst (λ (x : ℕ). step_holds m row x a ≡ true) e (goes_parts d a r g).0
      go (inr q) = f k q i

  leaf_is : (A r : ℕ) (t : Bool) → goes_on m row 0 (A * 2 ^ 0) r ≡ t → Came 1 (A * 2 ^ 0) → A * 2 ^ 0 < 2 ^ m.days → r ≡ rests_from (duty_at row (A * 2 ^ 0)) m.days 0
      → listed m row 0 (A * 2 ^ 0) r ≡ below 0 (A * 2 ^ 0)
  unfolding listed filter up_from
  leaf_is A r true g f l e =
      let c = came_next 0 (A * 2 ^ 0) r (omega arith) f g in
      let y = comes_to m row b (A * 2 ^ 0) r l (λ d h. c d (omega arith) h) (goes_parts 0 (A * 2 ^ 0) r g).1 e in
      rw (g, y)
  leaf_is A r false g f l e = rw g (sym (cut_empty 0 A r (omega arith) e g))

  node_is : (d A r : ℕ) (t : Bool) → goes_on m row (suc d) (A * 2 ^ suc d) r ≡ t
      → (t ≡ false → below (suc d) (A * 2 ^ suc d) ≡ [])
      → (L H : List ℕ) → (t ≡ true → (L ≡ below d (A * 2 ^ suc d)) × (H ≡ below d (A * 2 ^ suc d + 2 ^ d)))
      → cond (goes_on m row (suc d) (A * 2 ^ suc d) r) (L ++ H) [] ≡ below (suc d) (A * 2 ^ suc d)
  node_is d A r true e f L H g = rw e (ap₂ ◌++◌ (g refl).0 (g refl).1 ∙ sym (filter_halves (rule_of m row) (A * 2 ^ suc d) d))
  node_is d A r false e f L H g = rw e (sym (f refl))

  listed_is : (d A r : ℕ) → d ≤ m.days → Came (suc d) (A * 2 ^ d) → A * 2 ^ d + 2 ^ d ≤ 2 ^ m.days → r ≡ rests_from (duty_at row (A * 2 ^ d)) m.days d
      → listed m row d (A * 2 ^ d) r ≡ below d (A * 2 ^ d)
  unfolding listed
  listed_is zero A r l f h e = leaf_is A r (goes_on m row 0 (A * 2 ^ 0) r) refl f (omega arith) e
  listed_is (suc d) A r l f h e =
      node_is d A r (goes_on m row (suc d) (A * 2 ^ suc d) r) refl (cut_empty (suc d) A r l e)
      (listed m row d (A * 2 ^ suc d) (r + rest_on row (A * 2 ^ suc d) d))
      (listed m row d (A * 2 ^ suc d + 2 ^ d) (r + rest_on row (A * 2 ^ suc d + 2 ^ d) d))
      (λ g.
      let came = came_next (suc d) (A * 2 ^ suc d) r l f g in
      let high = same_high A (suc d) (A * 2 ^ suc d + 2 ^ d) (omega arith) (omega (arith, pow_twice d, pow_pos d)) in (
        at (A * 2 ^ suc d) (A * 2) (low_half d A) came (omega (arith, pow_twice d)) (rests_on d (A * 2 ^ suc d) r (omega arith) e) (listed_is d (A * 2)),
        at (A * 2 ^ suc d + 2 ^ d) (A * 2 + 1) (high_half d A) (came_on (suc d) (A * 2 ^ suc d) (A * 2 ^ suc d + 2 ^ d) high came) (omega (arith, pow_twice d))
            (rests_on d (A * 2 ^ suc d + 2 ^ d) r (omega arith) (e ∙ rests_half d A)) (listed_is d (A * 2 + 1)),
      ))
    where
      at : (a B : ℕ) → a ≡ B * 2 ^ d → Came (suc d) a → a + 2 ^ d ≤ 2 ^ m.days → r + rest_on row a d ≡ rests_from (duty_at row a) m.days d
          → ((r : ℕ) → d ≤ m.days → Came (suc d) (B * 2 ^ d) → B * 2 ^ d + 2 ^ d ≤ 2 ^ m.days → r ≡ rests_from (duty_at row (B * 2 ^ d)) m.days d
          → listed m row d (B * 2 ^ d) r ≡ below d (B * 2 ^ d))
          → listed m row d a (r + rest_on row a d) ≡ below d a
      at a B g k i h ih =
          subst (λ (x : ℕ). listed m row d x (r + rest_on row a d) ≡ below d x) (sym g)
          (ih (r + rest_on row a d) (omega arith) (subst (Came (suc d)) g k) (subst (λ (x : ℕ). x + 2 ^ d ≤ 2 ^ m.days) g i)
          (h ∙ ap (λ (x : ℕ). rests_from (duty_at row x) m.days d) g))

  pub walk_lists : listed m row m.days 0 0 ≡ filter (rule_of m row) (up_from 0 (2 ^ m.days))
  walk_lists =
      let z = zero-mul (2 ^ m.days) in
      subst (λ (x : ℕ). listed m row m.days x 0 ≡ filter (rule_of m row) (up_from x (2 ^ m.days))) z
      (listed_is m.days 0 0 (omega arith) (λ e l h. absurd (omega arith)) (omega (arith, z))
      (sym (rests_done (duty_at row (0 * 2 ^ m.days)) m.days m.days (omega arith))))
