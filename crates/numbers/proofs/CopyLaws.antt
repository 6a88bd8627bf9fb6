-- A loop that writes the elements of a list over what stands in an array, from a place on or from its start.
use Rattle.std.specs.Prelude.{ℕ, ◌+◌, ◌≤◌, ◌<◌, ◌≡◌, List, ◌++◌, length, get_or, take, drop, set}
use Rattle.std.proofs.Common.{sym, ap, ◌∙◌, append-nil, zero-add, add-one, arith, drop_of_length-le, take_all}
use Rattle.std.proofs.lemmas.List.Edits.{length-paste}
use Rattle.std.proofs.Math.Seq.{paste, paste-zero, paste-suc}

-- the first i elements of s stand in xs from `at` on; the rest are still as in d
pub record Pasted {A : Type 0} (d : List A) (at : ℕ) (s : List A) (n : ℕ) (xs : List A) (i : ℕ) : Type 0 where
  pub upto : i ≤ n
  pub there : at + n ≤ length d
  pub given : n ≤ length s
  pub is : xs ≡ paste d at s i

module _ {A : Type 0} where
  pub pasted_start : (d : List A) (at : ℕ) (s : List A) (n : ℕ) → at + n ≤ length d → n ≤ length s → Pasted d at s n d 0
  pasted_start d at s n hd hs = record { upto = omega arith; there = hd; given = hs; is = paste-zero d at s }

  pub pasted_turn : {d : List A} {at : ℕ} {s : List A} {n : ℕ} {xs : List A} {i j : ℕ} {v : A} (z : A) → Pasted d at s n xs i → i < n → j ≡ at + i → v ≡ get_or s i z
      → Pasted d at s n (set xs j v) (i + 1)
  pasted_turn {d} {at} {s} {n} {xs} {i} {j} {v} z k h p e =
      let hd = k.there in
      let hs = k.given in
      record {
        upto = omega arith;
        there = hd;
        given = hs;
        is =
            ap (λ (l : List A). set l j v) k.is
            ∙ ap (λ (w : A). set (paste d at s i) j w) e
            ∙ ap (λ (q : ℕ). set (paste d at s i) q (get_or s i z)) p
            ∙ paste-suc d at s i z (omega arith) (omega arith)
            ∙ ap (paste d at s) (sym (add-one i));
      }

  pub pasted_long : {d : List A} {at : ℕ} {s : List A} {n : ℕ} {xs : List A} {i : ℕ} → Pasted d at s n xs i → length xs ≡ length d
  pasted_long {d} {at} {s} {n} {xs} {i} k =
      let hd = k.there in
      let hs = k.given in
      let hi = k.upto in
      ap length k.is ∙ length-paste d at s i (omega arith) (omega arith)

  -- n elements are written
  pub pasted_end : {d : List A} {at : ℕ} {s : List A} {n : ℕ} {xs : List A} {i : ℕ} → Pasted d at s n xs i → n ≤ i → xs ≡ paste d at s n
  pasted_end {d} {at} {s} {n} {xs} {i} k h =
      let hi = k.upto in
      let e : i ≡ n = omega arith in
      k.is ∙ ap (paste d at s) e

-- ---- from the start

abbrev pub Copied : {A : Type 0} → List A → List A → ℕ → List A → ℕ → Type 0
Copied d s n xs i = Pasted d 0 s n xs i

module _ {A : Type 0} where
  pub copied_start : (d s : List A) (n : ℕ) → n ≤ length d → n ≤ length s → Copied d s n d 0
  copied_start d s n hd hs = pasted_start d 0 s n (omega arith) hs

  pub copied_turn : {d s : List A} {n : ℕ} {xs : List A} {i : ℕ} {v : A} (z : A) → Copied d s n xs i → i < n → v ≡ get_or s i z → Copied d s n (set xs i v) (i + 1)
  copied_turn {i = i} z k h e = pasted_turn z k h (sym (zero-add i)) e

  pub copied_long : {d s : List A} {n : ℕ} {xs : List A} {i : ℕ} → Copied d s n xs i → length xs ≡ length d
  copied_long k = pasted_long k

  pub copied_front : {d s : List A} {n : ℕ} {xs : List A} {i : ℕ} → Copied d s n xs i → n ≤ i → xs ≡ take n s ++ drop n d
  copied_front {d} {s} {n} k h = pasted_end k h ∙ ap (λ (j : ℕ). take n s ++ drop j d) (zero-add n)

  -- all are written
  pub copied_end : {d s : List A} {n : ℕ} {xs : List A} {i : ℕ} → Copied d s n xs i → n ≤ i → length d ≡ n → length s ≡ n → xs ≡ s
  copied_end {d} {s} {n} k h ld ls =
      let past : length d ≤ n = omega arith in
      copied_front k h
      ∙ ap (λ (l : List A). l ++ drop n d) (take_all n s (omega arith))
      ∙ ap (λ (l : List A). s ++ l) (drop_of_length-le d past)
      ∙ append-nil s
