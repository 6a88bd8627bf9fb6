-- What the loops of `size` and `put` keep.
use Rattle.std.specs.Prelude.{ℕ, zero, suc, ◌+◌, ◌*◌, ◌/◌, ◌%◌, ◌^◌, ◌≤◌, ◌<◌, ◌≡◌, refl, max, List, [], ◌∷◌, ◌++◌, length, take, drop, set, get_or, ltb, Bool, true, false, cond}
use Rattle.std.proofs.Common.{sym, ap, ap₂, ◌∙◌, append_assoc, add-one, add-zero, length-append, length-drop, length-take-le, take_all, get_or-append-add, arith, lt-ltb, le-ltb, lt_of_not-le, lit≤, length-set, take-suc-set}
use Rattle.std.proofs.Math.Seq.{paste}
use Rattle.std.proofs.lemmas.List.{take-append-le}
use Rattle.std.proofs.lemmas.List.Edits.{paste_all, paste_more}
use Rattle.std.proofs.Math.Nat.{pow-succ', pow-le-pow_right}
use Rattle.codec.specs.Groups.{encode_groups, encode}
use Rattle.codec.specs.CodeBytes.{pasted}
use Rattle.codec.proofs.CodecLaws.{pow_at_least}
use Rattle.codec.proofs.EncodeLaws.{encode_last, encode_more, fewer}

pub one_byte : (w : ℕ) → w < 128 → length (encode w) ≡ 1
one_byte w h = ap length (encode_last w h)

pub byte_more : (w : ℕ) → 128 ≤ w → w < 2 ^ 49 → length (encode w) ≡ 1 + length (encode (w / 128))
byte_more w h s = ap length (encode_more w h s) ∙ omega arith

-- a number of k groups more than one
groups_length : (j k v : ℕ) → k ≤ j → (1 ≤ k → 128 ^ k ≤ v) → v < 128 ^ (k + 1) → length (encode_groups j v) ≡ k + 1
unfolding encode_groups
groups_length zero zero v m l h = refl
groups_length zero (suc k) v m l h = absurd (omega arith)
groups_length (suc j) zero v m l h = simp (lt-ltb v 128 h)
groups_length (suc j) (suc k) v m l h =
    let below : 128 * 128 ^ k ≤ v = rw (pow-succ' 128 k) at (l (omega arith)) in
    let some : 128 ≤ 128 * 128 ^ k = rw (add-one k, pow-succ' 128 k) at (pow_at_least k) in
    let more : length (encode_groups j (v / 128)) ≡ k + 1 = groups_length j k (v / 128) (omega arith) (λ _. omega arith) (fewer k v h) in
    let big : 128 ≤ v = omega arith in
    simp (le-ltb v 128 big) (omega (arith, more))

-- how the code finds the size: by the power of 128 that v, or 1 where it is 0, reaches
pub size_is : (v k : ℕ) → v < 2 ^ 49 → 128 ^ k ≤ max v 1 → max v 1 < 128 * 128 ^ k → k + 1 ≡ length (encode v)
unfolding encode
size_is v zero s l h = sym (groups_length 6 0 v (omega arith) (λ p. absurd (omega arith)) (omega arith))
size_is v (suc k) s l h = sym (groups_length 6 (suc k) v few (λ _. reached) below)
  where
    reached : 128 ^ suc k ≤ v
    reached = omega (arith, rw (add-one k) at (pow_at_least k))

    below : v < 128 ^ (suc k + 1)
    below = rw (add-one (suc k), pow-succ' 128 (suc k)) (omega arith)

    few : suc k ≤ 6
    few =
        let p : suc k < 7 = lt_of_not-le (λ (p : 7 ≤ suc k). let q : 128 ^ 7 ≤ 128 ^ suc k = pow-le-pow_right (lit≤ tt) p in absurd (omega (arith, q, reached))) in
        omega arith

some_byte : (w : ℕ) → 1 ≤ length (encode w)
unfolding encode encode_groups
some_byte w = go (ltb w 128)
  where
    go : (b : Bool) → 1 ≤ length (cond b (w ∷ []) ((128 + w % 128) ∷ encode_groups 5 (w / 128)))
    go true = omega arith
    go false = omega arith

-- the first i of the bytes before the last are written, and w is left to write
pub record Put (v : ℕ) (bytes : List ℕ) (i w : ℕ) : Type 0 where
  pub small : w < 2 ^ 49
  pub long : length bytes + 1 ≡ length (encode v)
  pub same : take i bytes ++ encode w ≡ encode v

pub put_start :
    (v : ℕ) (b : List ℕ) (at k : ℕ) → v < 2 ^ 49 → at + length (encode v) ≤ length b → k + 1 ≡ length (encode v) → Put v (take k (drop at b)) 0 v
put_start v b at k h fits l =
    let n : length (take k (drop at b)) ≡ k = length-take-le k (drop at b) (omega (arith, length-drop at b)) in
    record { small = h; long = omega (arith, n); same = refl }

module _ (v : ℕ) (bytes : List ℕ) (i w : ℕ) (p : Put v bytes i w) where
  left : i ≤ length bytes → i + length (encode w) ≡ length bytes + 1
  left h = omega (arith, p.long, ap length p.same, length-append (take i bytes) (encode w), length-take-le i bytes h)

  pub put_more : i < length bytes → Put v (set bytes i (128 + w % 128)) (i + 1) (w / 128)
  put_more h = record {
    small = omega (arith, p.small);
    long = ap (λ (n : ℕ). n + 1) (length-set bytes i _) ∙ p.long;
    same =
        rw (add-one i, take-suc-set bytes i (128 + w % 128) h, append_assoc)
        (ap (λ (xs : List ℕ). take i bytes ++ xs) (sym (encode_more w big p.small)) ∙ p.same);
  }
    where
      big : 128 ≤ w
      big = lt_of_not-le (λ (q : w ≤ 127). absurd (omega (arith, left (omega arith), one_byte w (omega arith))))

  module _ (over : i ≡ length bytes) where
    pub last_low : w < 128
    last_low = lt_of_not-le (λ (q : 128 ≤ w). absurd (omega (arith, left (omega arith), byte_more w q p.small, some_byte (w / 128))))

    all : bytes ++ (w ∷ []) ≡ encode v
    all =
        ap₂ (λ (xs ys : List ℕ). xs ++ ys) (sym (take_all i bytes (omega arith))) (sym (encode_last w last_low))
        ∙ p.same

    pub put_last :
        (b : List ℕ) (at : ℕ) → at + length (encode v) ≤ length b
        → set (paste b at bytes (length bytes)) (at + length bytes) w ≡ pasted b at (encode v)
    put_last b at fits =
        ap₂ (λ (xs : List ℕ) (x : ℕ). set ((take at b ++ xs) ++ drop (at + length bytes) b) (at + length bytes) x) front one
        ∙ paste_more b at (encode v) (length bytes) 0 (omega (arith, p.long)) (omega (arith, p.long))
        ∙ paste_all b at (encode v) (length bytes + 1) p.long
        ∙ ap (λ (n : ℕ). take at b ++ (encode v ++ drop (at + n) b)) p.long
      where
        front : take (length bytes) bytes ≡ take (length bytes) (encode v)
        front = sym (ap (take (length bytes)) (sym all) ∙ take-append-le (length bytes) bytes (w ∷ []) (omega arith))

        one : w ≡ get_or (encode v) (length bytes) 0
        one = sym (ap (λ (xs : List ℕ). get_or xs (length bytes) 0) (sym all) ∙ ap (λ (n : ℕ). get_or (bytes ++ (w ∷ [])) n 0) (sym (add-zero (length bytes))) ∙ get_or-append-add bytes (w ∷ []) 0 0)
