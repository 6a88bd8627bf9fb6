-- The letters that patterns make: their number, and each of them.
use Rattle.std.specs.Prelude.{◌≡◌, List, map, ℕ, zero, suc, ◌+◌, ◌*◌, ◌≤◌, ◌<◌, length, get_or}
use Rattle.std.proofs.Common.{sym, ap, ap₂, ◌∙◌, mul-le-mul_right, suc-mul, zero-mul, one-add, arith, length-append}
use Rattle.std.proofs.lemmas.List.{length-map, get_or_default}
use Rattle.std.proofs.Math.ListN.{get_or-map}
use Rattle.numbers.specs.Range.{up_from}
use Rattle.numbers.proofs.RangeLaws.{length_range, range_at}
use Rattle.fields.specs.Fields.{days, block}
use Rattle.rows.specs.Rows.{duty_on}
use Rattle.letters.specs.Letters.{letter, row_letters_of, row_letters, letters}

-- row i of m rows of n letters ends within them
pub row_fits : (m n i : ℕ) → i < m → i * n + n ≤ m * n
row_fits m n i h = let most : suc i * n ≤ m * n = mul-le-mul_right n h in omega (arith, rw suc-mul at most)

-- ---- the letters that patterns make

module _ (b : List ℕ) (n p q : ℕ) where
  pub row_length : length (row_letters_of b n p q) ≡ n
  unfolding row_letters_of
  row_length = length-map (up_from 1 n) (λ d. letter (duty_on b p q d)) ∙ length_range 1 n

  pub row_at : (d : ℕ) → d < n → get_or (row_letters_of b n p q) d 0 ≡ letter (duty_on b p q (suc d))
  unfolding row_letters_of
  row_at d h =
      let f : ℕ → ℕ = λ e. letter (duty_on b p q e) in
      get_or_default (map f (up_from 1 n)) d 0 (f 0) (rw (length-map (up_from 1 n) f, length_range 1 n) h)
      ∙ get_or-map f (up_from 1 n) d 0
      ∙ ap f (range_at 1 n d h ∙ one-add d)

module _ (w : List ℕ) (ps qs : ℕ → ℕ) where
  pub letters_length : (k : ℕ) → length (letters w ps qs k) ≡ k * days w
  unfolding letters
  letters_length zero = sym (zero-mul (days w))
  letters_length (suc k) =
      length-append (letters w ps qs k) (row_letters w k (ps k) (qs k))
      ∙ ap₂ (λ (x y : ℕ). x + y) (letters_length k) (row_length (block w k) (days w) (ps k) (qs k))
      ∙ sym (suc-mul k (days w))
