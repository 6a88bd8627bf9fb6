-- What the layout says of edition two's own numbers, in their place and out of it, computed by the prover.
use Rattle.std.specs.Prelude.{◌≡◌, refl, List, [], ◌∷◌, ◌++◌, ℕ}
use Rattle.refusals.specs.Refusals.{numbered}
use Rattle.refusals.specs.Questions as question
use Rattle.codec.specs.Groups.{decode, decode_groups, final}
use Rattle.layout.specs.Grammar.{failed_by, good, bad, read, check}
use Rattle.layout.specs.Layout.{ward}

-- a ward of two nurses and four days, up to its pairs: 56 numbers, one byte each
unfoldable pub to_pairs : List ℕ
to_pairs =
    0 ∷ 2
    ∷ 2 ∷ 4 ∷ 0 ∷ 1 ∷ 1 ∷ 1 ∷ 1 ∷ 1 ∷ 2 ∷ 3 ∷ 1 ∷ 1 ∷ 1 ∷ 1 ∷ 1 ∷ 1
    ∷ 0 ∷ 0 ∷ 0 ∷ 0 ∷ 0 ∷ 0 ∷ 0 ∷ 0 ∷ 1 ∷ 0 ∷ 4 ∷ 0 ∷ 0 ∷ 0 ∷ 0
    ∷ 0 ∷ 0 ∷ 0 ∷ 0 ∷ 0 ∷ 0 ∷ 0 ∷ 0 ∷ 1 ∷ 0 ∷ 4 ∷ 0 ∷ 0 ∷ 0 ∷ 1
    ∷ 1 ∷ 1 ∷ 0 ∷ 1 ∷ 0 ∷ 0 ∷ 0 ∷ 0 ∷ []

-- a ward of one nurse and one day, up to its pairs: 32 numbers
unfoldable pub one_day : List ℕ
one_day =
    0 ∷ 2
    ∷ 1 ∷ 1 ∷ 0 ∷ 1 ∷ 1 ∷ 1 ∷ 1 ∷ 1 ∷ 2 ∷ 3 ∷ 1 ∷ 1 ∷ 1 ∷ 1 ∷ 1 ∷ 1
    ∷ 0 ∷ 0 ∷ 0 ∷ 0 ∷ 0 ∷ 0 ∷ 0 ∷ 0 ∷ 1 ∷ 0 ∷ 1 ∷ 0
    ∷ 0 ∷ 0 ∷ []

-- numbers below 128 are also the bytes of their file: the reader's answer and the writer's
abbrev Taken : List ℕ → Type 0
Taken ws = (read ward 0 ws ≡ good ws) × (check ward 0 ws ≡ good ws)

abbrev Refused : List ℕ → ℕ → ℕ → Type 0
Refused ws question place = (read ward 0 ws ≡ bad (numbered question place)) × (check ward 0 ws ≡ bad (numbered question place))

pub record Shown : Type 0 where
  -- two pairs that share a day; none; as many as four days have
  pub two_pairs : Taken (to_pairs ++ (2 ∷ 2 ∷ 3 ∷ []))
  pub no_pairs : Taken (to_pairs ++ (0 ∷ []))
  pub three_pairs : Taken (to_pairs ++ (3 ∷ 1 ∷ 2 ∷ 3 ∷ []))
  pub no_count : Refused to_pairs question.whole 56
  pub eleven_pairs : Refused (to_pairs ++ (11 ∷ [])) question.range 56
  pub last_day : Refused (to_pairs ++ (3 ∷ 1 ∷ 2 ∷ 4 ∷ [])) question.range 59
  pub same_day : Refused (to_pairs ++ (2 ∷ 2 ∷ 2 ∷ [])) question.range 58
  pub day_zero : Refused (to_pairs ++ (2 ∷ 0 ∷ 2 ∷ [])) question.range 57
  pub past_pairs : Refused (to_pairs ++ (0 ∷ 7 ∷ [])) question.end 57
  -- four pairs in four days: no day is left for the fourth
  pub no_day_left : Refused (to_pairs ++ (4 ∷ 1 ∷ 2 ∷ 3 ∷ 3 ∷ [])) question.range 60
  pub none_in_one_day : Taken (one_day ++ (0 ∷ []))
  pub pair_in_one_day : Refused (one_day ++ (1 ∷ [])) question.range 32
  -- how a ward begins
  pub no_edition_one : Refused (0 ∷ 1 ∷ []) question.range 1
  pub edition_three : Refused (0 ∷ 3 ∷ []) question.range 1
  pub only_edition : Refused (0 ∷ 2 ∷ []) question.whole 2
  pub no_nurses : Refused (0 ∷ 2 ∷ 0 ∷ []) question.range 2
  pub many_nurses : Refused (49 ∷ []) question.range 0

pub shown : Shown
unfolding to_pairs one_day read check decode decode_groups final failed_by ward
shown = record {
  two_pairs = (refl, refl);
  no_pairs = (refl, refl);
  three_pairs = (refl, refl);
  no_count = (refl, refl);
  eleven_pairs = (refl, refl);
  last_day = (refl, refl);
  same_day = (refl, refl);
  day_zero = (refl, refl);
  past_pairs = (refl, refl);
  no_day_left = (refl, refl);
  none_in_one_day = (refl, refl);
  pair_in_one_day = (refl, refl);
  no_edition_one = (refl, refl);
  edition_three = (refl, refl);
  only_edition = (refl, refl);
  no_nurses = (refl, refl);
  many_nurses = (refl, refl);
}
