-- The bytes of a number below 2 ^ 49, by its last group and by its first of several.
use Rattle.std.specs.Prelude.{ℕ, zero, suc, ◌+◌, ◌*◌, ◌/◌, ◌%◌, ◌^◌, ◌≤◌, ◌<◌, ◌≡◌, refl, Bool, true, false, cond, List, [], ◌∷◌, length, ltb}
use Rattle.std.proofs.Common.{ap, add-one, arith, lt-ltb, le-ltb}
use Rattle.std.proofs.Math.Nat.{pow-succ'}
use Rattle.codec.specs.Groups.{encode_groups, encode}

pub encode_last : (v : ℕ) → v < 128 → encode v ≡ v ∷ []
unfolding encode
encode_last v h = simp (lt-ltb v 128 h)

pub fewer : (k v : ℕ) → v < 128 ^ (suc k + 1) → v / 128 < 128 ^ (k + 1)
fewer k v h =
    let p : v < 128 * 128 ^ (k + 1) = rw (add-one (suc k), pow-succ' 128 (suc k), ← add-one k) at h in
    omega arith

-- one group more may follow than do
spare : (k v : ℕ) → v < 128 ^ (k + 1) → encode_groups k v ≡ encode_groups (suc k) v
unfolding encode_groups
spare zero v h = simp (lt-ltb v 128 h)
spare (suc k) v h = go (ltb v 128) (spare k (v / 128) (fewer k v h))
  where
    go : (b : Bool) → encode_groups k (v / 128) ≡ encode_groups (suc k) (v / 128) →
        cond b (v ∷ []) ((128 + v % 128) ∷ encode_groups k (v / 128)) ≡ cond b (v ∷ []) ((128 + v % 128) ∷ encode_groups (suc k) (v / 128))
    go true e = refl
    go false e = ap (λ (l : List ℕ). (128 + v % 128) ∷ l) e

pub encode_more : (v : ℕ) → 128 ≤ v → v < 2 ^ 49 → encode v ≡ (128 + v % 128) ∷ encode (v / 128)
unfolding encode encode_groups
encode_more v h s = simp (le-ltb v 128 h) (ap (λ (l : List ℕ). (128 + v % 128) ∷ l) (spare 5 (v / 128) (omega arith)))

groups_most : (k v : ℕ) → length (encode_groups k v) ≤ k + 1
unfolding encode_groups
groups_most zero v = omega arith
groups_most (suc k) v = go (ltb v 128) (groups_most k (v / 128))
  where
    go : (b : Bool) → length (encode_groups k (v / 128)) ≤ k + 1 → length (cond b (v ∷ []) ((128 + v % 128) ∷ encode_groups k (v / 128))) ≤ suc k + 1
    go true h = omega arith
    go false h = omega arith

pub encode_most : (v : ℕ) → length (encode v) ≤ 7
unfolding encode
encode_most v = groups_most 6 v
