-- What the code counts on columns: sums over 64 places, whoever stands there. f says which bits of the column are set.
use Rattle.std.specs.Prelude.{◌≡◌, Bool, ◌&&◌, List, ℕ, ◌+◌, ◌-◌, ◌*◌, ◌≤◌, length, get_or}
use Rattle.fields.specs.Sizes.{nurse_places}
use Rattle.history.specs.declared.Search.{Search}
use Rattle.history.specs.declared.Search.TheVariants.{Nights, Days}
use Rattle.numbers.specs.Sum.{sum_to, count_to, Is}
use Rattle.numbers.specs.Digits.{has}
use Rattle.fields.specs.Fields.{weight, member_sets, needs, need, low, high}
use Rattle.penalty.specs.Weights.{Weights}
use Rattle.penalty.specs.declared.duty.Duty.{Duty}

-- the weights of a duty, and the same with highs ignored
unfoldable pub weights_of : List ℕ → ℕ → Weights
weights_of w k = record { w = weight w (3 * k); u = weight w (3 * k + 1); v = weight w (3 * k + 2) }

abbrev pub no_high : Weights → Weights
no_high wt = record { w = wt.w; u = wt.u; v = 0 }

-- what an accepted ward says of its groups and a day's numbers
pub record DayNeeds (sets needs : List ℕ) : Type 0 where
  pub groups : length sets ≤ 16
  pub size : length needs ≡ 4 * length sets + 2
  pub small : (j : ℕ) → get_or needs j 0 ≤ 48

-- ---- one duty of one day

abbrev pub members_in : List ℕ → (ℕ → Bool) → ℕ → ℕ
members_in sets f g = count_to 64 (λ i. f i && has (get_or sets g 0) i)

unfoldable pub need_term : Weights → List ℕ → ℕ → (ℕ → Bool) → ℕ
need_term wt needs k f = wt.w * (need needs k - count_to 64 f)

unfoldable pub low_term : Weights → List ℕ → List ℕ → ℕ → (ℕ → Bool) → ℕ → ℕ
low_term wt sets needs k f g = wt.u * (low needs k g - members_in sets f g)

unfoldable pub high_term : Weights → List ℕ → List ℕ → ℕ → (ℕ → Bool) → ℕ → ℕ
high_term wt sets needs k f g = wt.v * (members_in sets f g - high needs k g)

-- both terms of a group
unfoldable pub group_term : Weights → List ℕ → List ℕ → ℕ → (ℕ → Bool) → ℕ → ℕ
unfolding low_term high_term
group_term wt sets needs k f g = low_term wt sets needs k f g + high_term wt sets needs k f g

abbrev pub duty_short : Weights → List ℕ → List ℕ → ℕ → (ℕ → Bool) → ℕ
duty_short wt sets needs k f = need_term wt needs k f + sum_to (length sets) (low_term wt sets needs k f)

abbrev pub duty_over : Weights → List ℕ → List ℕ → ℕ → (ℕ → Bool) → ℕ
duty_over wt sets needs k f = sum_to (length sets) (high_term wt sets needs k f)

abbrev pub duty_cost : Weights → List ℕ → List ℕ → ℕ → (ℕ → Bool) → ℕ
duty_cost wt sets needs k f = need_term wt needs k f + sum_to (length sets) (group_term wt sets needs k f)

-- what a duty's two results are, and their bounds
pub record DutyIs (r : Duty) (s b o c : ℕ) : Type 0 where
  pub short_is : Is r.short s b
  pub over_is : Is r.over o c

-- ---- the days

abbrev pub short_in : List ℕ → ℕ → ℕ → (ℕ → Bool) → ℕ
short_in w k d f = duty_short (weights_of w k) (member_sets w) (needs w d) k f

abbrev pub over_in : List ℕ → ℕ → ℕ → (ℕ → Bool) → ℕ
over_in w k d f = duty_over (weights_of w k) (member_sets w) (needs w d) k f

-- one day on its two columns, by night or by day
abbrev pub short_with : Search → List ℕ → ℕ → ℕ → ℕ → ℕ
short_with Nights w d night day = short_in w 0 d (has night) + short_in w 1 d (has day)
short_with Days w d night day = short_in w 1 d (has day)

abbrev pub over_with : Search → List ℕ → ℕ → ℕ → ℕ → ℕ
over_with Nights w d night day = over_in w 0 d (has night)
over_with Days w d night day = over_in w 1 d (has day)

abbrev pub DayCounts : Search → List ℕ → ℕ → ℕ → ℕ → Duty → Type 0
DayCounts which w d night day r = DutyIs r (short_with which w d night day) 163200 (over_with which w d night day) 104000

-- a penalty's bounds, from which its total fits
pub record Bounded (short over unplaced : ℕ) : Type 0 where
  pub short_most : short ≤ 5059200
  pub over_most : over ≤ 3224000
  pub unplaced_most : unplaced ≤ nurse_places
