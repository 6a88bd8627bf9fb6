-- A number in bytes, said by the bytes alone: where it is cut off by the end, where it is too long or not in its shortest form, and where it is there.
-- proofs/BytesLaws shows that `decode` tells these three apart.
use Rattle.std.specs.Prelude.{ℕ, ◌^◌, ◌≤◌, ◌<◌, ◌≡◌, List, ◌++◌, length, get_or}
use Rattle.codec.specs.Groups.{encode}

-- each of the first k bytes is there, with its top bit set: another group follows it
abbrev pub TopBits : List ℕ → ℕ → Type 0
TopBits bs k = (j : ℕ) → j < k → 128 ≤ get_or bs j 0

-- question 1: fewer than seven bytes are left, and all have the top bit set
pub record CutOff (bs : List ℕ) : Type 0 where
  pub few : length bs < 7
  pub more_follow : TopBits bs (length bs)

-- question 2: the first seven have it; or the last group is 0 after others
pub data TooLong (bs : List ℕ) : Type 0 where
  seven : TopBits bs 7 → TooLong bs
  not_shortest : (k : ℕ) → 1 ≤ k → k < 7 → k < length bs → TopBits bs k → get_or bs k 0 ≡ 0 → TooLong bs

-- the number v is there, and what follows it
pub record Stands (bs : List ℕ) (v : ℕ) (after : List ℕ) : Type 0 where
  pub small : v < 2 ^ 49
  pub bytes : bs ≡ encode v ++ after
