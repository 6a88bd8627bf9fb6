-- A buffer with one list written at its start and another in the part after it, as a lent rest of the buffer comes back.
use Rattle.std.specs.Prelude.{◌≡◌, List, [], ◌∷◌, ◌++◌, ℕ, ◌+◌, ◌-◌, ◌≤◌, ◌<◌, length, get_or, set, take, drop}
use Rattle.std.proofs.Common.{sym, ap, ◌∙◌, subst, append-nil, append_assoc, not-suc-le-zero, arith, length-append, length-drop, drop_of_length-le, get_or-set_same, get_or-set_other, take_all, drop-drop}
use Rattle.std.proofs.Math.Decide.{dec_lt}
use Rattle.std.proofs.Math.Seq.{take-append_seam, drop-append_seam}

module _ (A buf xs : List ℕ) (low : ℕ) (len : low ≡ length A) (first : xs ≡ A ++ drop (length A) buf) (room : length A ≤ length buf) where
  part_is : take (length xs - low) (drop low xs) ≡ drop (length A) buf
  part_is = rw (len, first, drop-append_seam)
      (take_all (length (A ++ drop (length A) buf) - length A) (drop (length A) buf) (simp (length-append, length-drop) (omega arith)))

  rest_is : drop (length xs - low) (drop low xs) ≡ []
  rest_is = rw (len, first, drop-append_seam)
      (drop_of_length-le (drop (length A) buf) {i = length (A ++ drop (length A) buf) - length A} (simp (length-append, length-drop) (omega arith)))

  both_written : (B ys : List ℕ) → ys ≡ B ++ drop (length B) (take (length xs - low) (drop low xs))
      → take low xs ++ (ys ++ drop (length xs - low) (drop low xs)) ≡ (A ++ B) ++ drop (length (A ++ B)) buf
  both_written B ys second = rw (second, part_is, rest_is, append-nil, len, first, take-append_seam, length-append, ← drop-drop, ← append_assoc)

-- one number written, and none
pub one_written : (L buf : List ℕ) (x : ℕ) → L ≡ x ∷ [] → length L ≤ length buf → set buf 0 x ≡ L ++ drop (length L) buf
one_written L [] x e h = absurd (not-suc-le-zero (subst (λ (l : List ℕ). length l ≤ 0) e h))
one_written L (y ∷ ys) x e h = rw e

pub none_written : (L buf : List ℕ) → L ≡ [] → buf ≡ L ++ drop (length L) buf
none_written L buf e = rw e

-- the buffer keeps its length
pub as_long : (L buf xs : List ℕ) → xs ≡ L ++ drop (length L) buf → length L ≤ length buf → length xs ≡ length buf
as_long L buf xs e h = rw e (simp (length-append, length-drop) (omega arith))

-- A list in two halves and room for it. The first half is written at the buffer's start, the second in the part after it.
pub record Halves (L A B buf : List ℕ) : Type 0 where
  pub whole : L ≡ A ++ B
  pub room : length L ≤ length buf

module _ {L A B buf xs : List ℕ} {low : ℕ} (h : Halves L A B buf) (len : low ≡ length A) (first : xs ≡ A ++ drop (length A) buf) where
  lengths : length L ≡ length A + length B
  lengths = simp length-append at (ap length h.whole)

  fits : length A ≤ length buf
  fits = omega (arith, lengths, h.room)

  pub low_most : low ≤ length xs
  low_most = omega (arith, len, fits, as_long A buf xs first fits)

  pub rest_room : length B ≤ length (take (length xs - low) (drop low xs))
  rest_room = rw (part_is A buf xs low len first fits, length-drop) (omega (arith, lengths, h.room))

  module _ {ys : List ℕ} {high : ℕ} (more : high ≡ length B) (second : ys ≡ B ++ drop (length B) (take (length xs - low) (drop low xs))) where
    pub halves_count : low + high ≡ length L
    halves_count = omega (arith, lengths)

    pub halves_written : take low xs ++ (ys ++ drop (length xs - low) (drop low xs)) ≡ L ++ drop (length L) buf
    halves_written = rw h.whole (both_written A buf xs low len first fits B ys second)

    pub halves_length : length (take low xs ++ (ys ++ drop (length xs - low) (drop low xs))) ≡ length buf
    halves_length = as_long L buf _ halves_written h.room

-- one more place set: the places below it are seen as f says, and then it too
pub seen_turn : {A : Type 0} (seen : A → ℕ) (past : A) (f : ℕ → ℕ) (row : List A) (i : ℕ) (v : A) → i < length row → ((t : ℕ) → t < i → seen (get_or row t past) ≡ f t) → seen v ≡ f i
    → (t : ℕ) → t < i + 1 → seen (get_or (set row i v) t past) ≡ f t
seen_turn seen past f row i v h below e t l = go (dec_lt t i)
  where
    go : Dec (t < i) → seen (get_or (set row i v) t past) ≡ f t
    go (yes q) = ap seen (get_or-set_other row i t v past (λ s. absurd (omega arith))) ∙ below t q
    go (no q) =
        let s : t ≡ i = omega arith in
        subst (λ (x : ℕ). seen (get_or (set row i v) x past) ≡ f x) (sym s) (ap seen (get_or-set_same row i v past h) ∙ e)

-- the same of numbers, seen as they are
pub place_turn : (f : ℕ → ℕ) (row : List ℕ) (i v : ℕ) → i < length row → ((t : ℕ) → t < i → get_or row t 0 ≡ f t) → v ≡ f i
    → (t : ℕ) → t < i + 1 → get_or (set row i v) t 0 ≡ f t
place_turn f row i v = seen_turn (λ x. x) 0 f row i v
