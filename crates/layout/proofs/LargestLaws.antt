-- The largest ward, of edition two: 48 nurses, 31 days and 16 groups, every nurse in each, and ten pairs.
use Rattle.std.specs.Prelude.{ℕ, ◌-◌, ◌^◌, ◌≡◌, refl, List, [], ◌∷◌, ◌++◌, length, replicate}
use Rattle.codec.specs.Groups.{encode}
use Rattle.layout.specs.Grammar.{failed_by, good, check, bytes_of}
use Rattle.layout.specs.Layout.{ward}

abbrev pub largest : List ℕ
largest =
    0 ∷ 2 ∷ 48 ∷ 31 ∷ 16 ∷ 0 ∷ 1 ∷ 1 ∷ 1 ∷ 1 ∷ 0 ∷ 1 ∷ 1 ∷ 1 ∷ 1 ∷ 1 ∷ 1 ∷ 1
    ∷ (replicate 2016 0 ++ (replicate 16 (2 ^ 48 - 1) ++ (replicate 2046 0 ++ (10 ∷ 1 ∷ 2 ∷ 3 ∷ 4 ∷ 5 ∷ 6 ∷ 7 ∷ 8 ∷ 9 ∷ 10 ∷ []))))

pub largest_checked : check ward 0 largest ≡ good largest
unfolding check failed_by ward
largest_checked = refl

pub largest_count : length largest ≡ 4107
largest_count = refl

pub largest_long : length (bytes_of largest) ≡ 4203
unfolding bytes_of encode
largest_long = refl
