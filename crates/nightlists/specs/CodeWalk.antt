-- The walk that finds the common list: over the days from the last to the first, not started before started.
use Rattle.std.specs.Prelude.{◌≡◌, Bool, cond, ◌&&◌, ◌||◌, List, [], ◌∷◌, ◌++◌, ℕ, zero, suc, ◌+◌, ◌-◌, ◌^◌, ◌≤◌, min, max, leb, ltb, eqb}
use Rattle.fields.specs.Sizes.{day_places}
use Rattle.fields.specs.declared.rules.Rules.{Rules}
use Rattle.nightlists.specs.declared.State.{State}
use Rattle.std.specs.declared.option.Option.{Option}
use Rattle.std.specs.declared.option.Option.TheVariants.{Some, None}
use Rattle.fields.specs.Rules.{gap}
use Rattle.nights.specs.Hers.{hers_of}
use Rattle.nights.specs.Own.{has_pair}

-- a run of so many starts is followed by a gap that is wide enough, or by nothing
abbrev pub closed : Rules → ℕ → ℕ → Bool
closed r run dist = eqb dist 0 || leb (2 + gap r run) dist

-- no day is decided yet
abbrev pub none_yet : State
none_yet = record { first = 0; run = 0; dist = 0; count = 0 }

-- one more start, before all that are decided
abbrev pub start_at : Rules → ℕ → State → Option State
start_at r day s =
    cond (leb r.most s.count) None
    (cond (eqb s.first 0) (Some (record { first = day; run = 1; dist = 0; count = s.count + 1 }))
    (cond (eqb s.first (day + 2))
    (cond (leb r.longest s.run) None (Some (record { first = day; run = s.run + 1; dist = s.dist; count = s.count + 1 })))
    (cond (ltb s.first (day + 3)) None
    (cond (closed r s.run s.dist) (Some (record { first = day; run = 1; dist = s.first - day; count = s.count + 1 })) None))))

-- the pattern made so far, where it is one
abbrev pub here : Bool → ℕ → List ℕ
here done a = cond done (a ∷ []) []

abbrev pub onward : Option State → (State → List ℕ) → List ℕ
onward (Some t) f = f t
onward None f = []

-- the patterns that the walk lists: `left` days undecided, a the number that the decided ones make
unfoldable pub listed : Rules → ℕ → ℕ → State → List ℕ
listed r zero a s = here (closed r s.run s.dist) a
listed r (suc d) a s = listed r d a s ++ onward (start_at r (suc d) s) (λ t. listed r d (a + 2 ^ d) t)

-- ---- which days the walk goes on to

-- the least gap after a run of so many starts as it is, or with more starts
abbrev pub from_two : Rules → ℕ
from_two r = cond (leb r.longest 2) r.g2 (min r.g2 r.g3)

abbrev pub from_one : Rules → ℕ
from_one r = cond (leb r.longest 1) r.g1 (min r.g1 (from_two r))

unfoldable pub least_gap : Rules → ℕ → ℕ
least_gap r run = cond (leb run 1) (from_one r) (cond (eqb run 2) (from_two r) r.g3)

-- no start before a run that far from the start after it makes its gap wide enough
unfoldable pub lost : Rules → ℕ → ℕ → Bool
lost r run dist = ltb 0 dist && ltb dist (2 + least_gap r run)

-- how far before a start another run begins, at least
unfoldable pub apart_by : Rules → ℕ
apart_by r = max 3 (2 + least_gap r 1)

-- on how many of the days, from the first on, a new run begins: done, the pattern made so far is one
unfoldable pub new_days : Bool → ℕ → State → ℕ → ℕ
new_days done apart s left = cond (eqb s.first 0) left (cond done (min left (s.first - apart)) 0)

-- one start more there
abbrev pub new_run : State → ℕ → State
new_run s day = record { first = day + 1; run = 1; dist = s.first - (day + 1); count = s.count + 1 }

-- on how many of them, from the first on, no start comes before the new one: no more may come, or there is no day for one
unfoldable pub last_days : Rules → ℕ → State → ℕ → ℕ
last_days r apart s days = cond (eqb r.most (s.count + 1)) days (cond (leb r.longest 1) (min days apart) (min days 2))

-- on how many of these, from the first on, the gap after the new run is wide enough
unfoldable pub shut_days : Rules → State → ℕ → ℕ
shut_days r s days = cond (eqb s.first 0) days (min days (s.first - (2 + r.g1)))

-- the number a with one start more, on each of the first so many days
unfoldable pub leaves : ℕ → ℕ → List ℕ
leaves a zero = []
leaves a (suc d) = leaves a d ++ ((a + 2 ^ d) ∷ [])

-- one start more in the first run, two days before its first
unfoldable pub lengthened : Rules → State → ℕ → Option State
lengthened r s left =
    cond (leb r.longest s.run) None
    (cond (ltb s.first 3) None
    (cond (ltb (left + 2) s.first) None
    (cond (lost r (s.run + 1) s.dist) None (Some (record { first = s.first - 2; run = s.run + 1; dist = s.dist; count = s.count + 1 })))))

-- what the walk asks where `left` days are undecided and the others make the number a
pub record Ready (left a : ℕ) : Type 0 where
  pub few_days : left ≤ day_places
  pub fits : a + 2 ^ left ≤ 2 ^ 32

-- The number a of a pattern made so far with one start more, after which the state is t: so many days are then left undecided, and
-- the others make the number b.
pub record OneStart (a : ℕ) (t : State) (left b : ℕ) (u : State) : Type 0 where
  pub left_is : left ≡ t.first - 1
  pub from_is : b ≡ a + 2 ^ (t.first - 1)
  pub state_is : u ≡ t

-- what the walk that looks for a pattern of nurse i's looks for: a night pattern of hers, under which some pair is hers
unfoldable pub hers_with_pair : List ℕ → ℕ → ℕ → Bool
hers_with_pair w i p = hers_of w i p && has_pair w i p
