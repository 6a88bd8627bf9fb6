-- The fields of a ward by name, as functions of its numbers in file order. Nurses, groups and the seven days count from 0 here;
-- a nurse's marks take the day of the month, from 1; `needs` takes the day's index, from 0.
use Rattle.std.specs.Prelude.{ℕ, zero, suc, ◌+◌, ◌*◌, ◌^◌, ◌≤◌, ◌<◌, ◌≡◌, cond, List, eqb, length, get_or, take, drop}
use Rattle.fields.specs.Sizes.{nurse_places, day_places, tabu_most, pair_most, number_places}

-- A ward's body, which all that follows is about: from edition two on its numbers begin with 0 and the edition, at which nobody past the reader looks.
unfoldable pub body_of : List ℕ → List ℕ
body_of ws = cond (eqb (get_or ws 0 0) 0) (drop 2 ws) ws

-- ---- the ward

-- m, n, r
abbrev pub nurses : List ℕ → ℕ
nurses w = get_or w 0 0

abbrev pub days : List ℕ → ℕ
days w = get_or w 1 0

abbrev pub groups : List ℕ → ℕ
groups w = get_or w 2 0

-- V, the most nights; L, the longest night run; g1, g2, g3, the gaps; TL; D, the longest run of day duty
abbrev pub most_nights : List ℕ → ℕ
most_nights w = get_or w 3 0

abbrev pub longest_run : List ℕ → ℕ
longest_run w = get_or w 4 0

abbrev pub gap1 : List ℕ → ℕ
gap1 w = get_or w 5 0

abbrev pub gap2 : List ℕ → ℕ
gap2 w = get_or w 6 0

abbrev pub gap3 : List ℕ → ℕ
gap3 w = get_or w 7 0

abbrev pub tabu : List ℕ → ℕ
tabu w = get_or w 8 0

abbrev pub longest_days : List ℕ → ℕ
longest_days w = get_or w 9 0

-- the weights w, u, v for night are 10, 11, 12, and for day 13, 14, 15
abbrev pub weight : List ℕ → ℕ → ℕ
weight w k = get_or w (10 + k) 0

-- ---- a nurse

-- her numbers: seven duties, least and most nights, least and most rests, the marks
abbrev pub block_size : List ℕ → ℕ
block_size w = 11 + days w

unfoldable pub block_at : List ℕ → ℕ → ℕ
block_at w i = 16 + i * (11 + days w)

unfoldable pub block : List ℕ → ℕ → List ℕ
unfolding block_at
block w i = take (block_size w) (drop (block_at w i) w)

-- of her block: the duty of one of the seven days, oldest first
abbrev pub duty : List ℕ → ℕ → ℕ
duty b k = get_or b k 0

abbrev pub least_nights_of : List ℕ → ℕ
least_nights_of b = get_or b 7 0

abbrev pub most_nights_of : List ℕ → ℕ
most_nights_of b = get_or b 8 0

abbrev pub least_rests_of : List ℕ → ℕ
least_rests_of b = get_or b 9 0

abbrev pub most_rests_of : List ℕ → ℕ
most_rests_of b = get_or b 10 0

-- her mark of day d
abbrev pub mark_on : List ℕ → ℕ → ℕ
mark_on b zero = 0
mark_on b (suc d) = get_or b (11 + d) 0

-- ---- the groups and the days

unfoldable pub groups_at : List ℕ → ℕ
groups_at w = 16 + nurses w * (11 + days w)

-- the groups' members, nurse i as bit i - 1 of the document and i here
unfoldable pub member_sets : List ℕ → List ℕ
unfolding groups_at
member_sets w = take (groups w) (drop (groups_at w) w)

-- a day's numbers: night need, day need, then for each group night low, night high, day low, day high
abbrev pub needs_size : List ℕ → ℕ
needs_size w = 4 * groups w + 2

unfoldable pub needs_at : List ℕ → ℕ → ℕ
unfolding groups_at
needs_at w d = groups_at w + groups w + d * needs_size w

unfoldable pub needs : List ℕ → ℕ → List ℕ
unfolding needs_at
needs w d = take (needs_size w) (drop (needs_at w d) w)

-- of a day's numbers, k being 0 for night and 1 for day: its need, and a group's low and high
abbrev pub need : List ℕ → ℕ → ℕ
need needs k = get_or needs k 0

abbrev pub low : List ℕ → ℕ → ℕ → ℕ
low needs k g = get_or needs (4 * g + 2 * k + 2) 0

abbrev pub high : List ℕ → ℕ → ℕ → ℕ
high needs k g = get_or needs (4 * g + 2 * k + 3) 0

-- ---- what later editions add after the days; an older edition lacks it, and its numbers end there

-- where the days end
unfoldable pub tail_at : List ℕ → ℕ
unfolding needs_at
tail_at w = needs_at w (days w)

-- edition two: how many pairs of days off there are, and the first day of pair k, from 1; its other day is the next
abbrev pub pair_count : List ℕ → ℕ
pair_count w = get_or w (tail_at w) 0

abbrev pub pair_day : List ℕ → ℕ → ℕ
pair_day w k = get_or w (tail_at w + k) 0

-- ---- an accepted ward: what the reader's yes says of its numbers, as far as later code leans on it

-- of a nurse's block in a month of n days
pub record Block (b : List ℕ) (n : ℕ) : Type 0 where
  pub long : length b ≡ 11 + n
  pub duties : (k : ℕ) → k < 7 → duty b k ≤ 4
  pub least_nights : least_nights_of b ≤ 15
  pub nights_at_most : most_nights_of b ≤ 15
  pub least_rests : least_rests_of b ≤ 31
  pub most_rests : most_rests_of b ≤ 31
  pub marks : (d : ℕ) → d < n → get_or b (11 + d) 0 < 7

pub record Accepted (w : List ℕ) : Type 0 where
  pub nurses_some : 1 ≤ nurses w
  pub nurses_most : nurses w ≤ nurse_places
  pub days_some : 1 ≤ days w
  pub days_most : days w ≤ day_places
  pub groups_most : groups w ≤ 16
  pub nights_most : most_nights w ≤ 15
  pub run_some : 1 ≤ longest_run w
  pub run_most : longest_run w ≤ 3
  pub gap1_most : gap1 w ≤ 5
  pub gap2_most : gap2 w ≤ 5
  pub gap3_most : gap3 w ≤ 5
  pub tabu_at_most : tabu w ≤ tabu_most
  pub day_run_some : 1 ≤ longest_days w
  pub day_run_most : longest_days w ≤ 6
  pub weight_some : (k : ℕ) → k < 6 → 1 ≤ weight w k
  pub weight_most : (k : ℕ) → k < 6 → weight w k ≤ 100
  pub header : 16 ≤ length w
  pub bound : length w ≤ number_places
  pub block_fits : (i : ℕ) → i < nurses w → block_at w i + (11 + days w) ≤ length w
  pub groups_fit : groups_at w + groups w ≤ length w
  pub needs_fit : (d : ℕ) → d < days w → needs_at w d + needs_size w ≤ length w
  pub tail_fits : tail_at w ≤ length w
  pub pairs_most : pair_count w ≤ pair_most
  pub pair_fits : (k : ℕ) → 1 ≤ k → k ≤ pair_count w → tail_at w + k < length w
  pub pair_day_some : (k : ℕ) → 1 ≤ k → k ≤ pair_count w → 1 ≤ pair_day w k
  pub pair_day_most : (k : ℕ) → 1 ≤ k → k ≤ pair_count w → pair_day w k < days w
  pub blocks : (i : ℕ) → i < nurses w → Block (block w i) (days w)
  pub member_sets_most : (g : ℕ) → get_or (member_sets w) g 0 < 2 ^ nurses w
  pub needs_most : (d j : ℕ) → d < days w → get_or (needs w d) j 0 ≤ 48
  pub low_high : (d k g : ℕ) → d < days w → k < 2 → g < groups w → low (needs w d) k g ≤ high (needs w d) k g
