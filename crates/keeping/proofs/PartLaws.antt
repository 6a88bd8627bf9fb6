-- The n elements of a list from a place on: read, and others written over them.
use Rattle.std.specs.Prelude.{ℕ, ◌+◌, ◌-◌, ◌≤◌, ◌<◌, ◌≡◌, List, ◌++◌, length, get_or, take, drop}
use Rattle.std.proofs.Common.{sym, ap, ap₂, ◌∙◌, append_assoc, arith, length-append, length-drop, take-append-drop, length-take-le, take_at, drop_at, drop-drop, get_or-take, get_or-drop}
use Rattle.std.proofs.lemmas.List.{take-append-le, drop-append-le}
use Rattle.std.proofs.Math.Seq.{drop-append-add}

-- ---- read

pub part_long : (s : List ℕ) (at n : ℕ) → at + n ≤ length s → length (take n (drop at s)) ≡ n
part_long s at n h = length-take-le n (drop at s) (omega (arith, length-drop at s))

pub part_read : (s : List ℕ) (at n i : ℕ) → i < n → get_or s (at + i) 0 ≡ get_or (take n (drop at s)) i 0
part_read s at n i h = sym (get_or-take n (drop at s) i 0 h ∙ get_or-drop at s i 0)

-- ---- read after n others are written from `at` on

-- what lies in the first of two lists
part_before : (n b : ℕ) (xs ys : List ℕ) → b + n ≤ length xs → take n (drop b (xs ++ ys)) ≡ take n (drop b xs)
part_before n b xs ys h =
    ap (take n) (drop-append-le b xs ys (omega arith))
    ∙ take-append-le n (drop b xs) ys (omega (arith, length-drop b xs))

module _ (s : List ℕ) (at n : ℕ) (e : List ℕ) (fits : at + n ≤ length s) (long : length e ≡ n) where
  head_long : length (take at s) ≡ at
  head_long = length-take-le at s (omega arith)

  pub written_long : length (take at s ++ (e ++ drop (at + n) s)) ≡ length s
  written_long =
      let h = head_long in
      let d = length-drop (at + n) s in
      simp length-append (omega arith)

  pub read_same : take n (drop at (take at s ++ (e ++ drop (at + n) s))) ≡ e
  read_same = ap (take n) (drop_at (take at s) (e ++ drop (at + n) s) at head_long) ∙ take_at e (drop (at + n) s) n long

  pub read_before : (b : ℕ) → b + n ≤ at → take n (drop b (take at s ++ (e ++ drop (at + n) s))) ≡ take n (drop b s)
  read_before b h =
      let l = head_long in
      part_before n b (take at s) (e ++ drop (at + n) s) (omega arith)
      ∙ sym (part_before n b (take at s) (drop at s) (omega arith))
      ∙ ap (λ (xs : List ℕ). take n (drop b xs)) (take-append-drop at s)

  pub read_after : (b : ℕ) → at + n ≤ b → take n (drop b (take at s ++ (e ++ drop (at + n) s))) ≡ take n (drop b s)
  read_after b h =
      let l = head_long in
      let xs : List ℕ = take at s ++ e in
      let k : ℕ = b - (at + n) in
      let q : b ≡ length xs + k = omega (arith, length-append (take at s) e) in
      let p : at + n + k ≡ b = omega arith in
      ap (λ (ys : List ℕ). take n (drop b ys)) (sym (append_assoc (take at s) e (drop (at + n) s)))
      ∙ ap (λ (j : ℕ). take n (drop j (xs ++ drop (at + n) s))) q
      ∙ ap (take n) (drop-append-add xs (drop (at + n) s) k ∙ drop-drop k (at + n) s)
      ∙ ap (λ (j : ℕ). take n (drop j s)) p

-- others in the place of n
module _ (before one after : List ℕ) {s : List ℕ} (at n : ℕ) (is : s ≡ before ++ (one ++ after)) (there : length before ≡ at) (long : length one ≡ n) where
  front : take at s ≡ before
  front = ap (take at) is ∙ take_at before (one ++ after) at there

  back : drop (at + n) s ≡ after
  back = ap (drop (at + n)) (is ∙ sym (append_assoc before one after)) ∙ drop_at (before ++ one) after (at + n) (omega (arith, length-append before one))

  pub replaced : (e : List ℕ) → take at s ++ (e ++ drop (at + n) s) ≡ before ++ (e ++ after)
  replaced e = ap₂ (λ (a b : List ℕ). a ++ (e ++ b)) front back

  pub part_is : take n (drop at s) ≡ one
  part_is = ap (λ (l : List ℕ). take n (drop at l)) is ∙ ap (take n) (drop_at before (one ++ after) at there) ∙ take_at one after n long
