-- What the loops over a nurse's list ask, and what they look at.
use Rattle.std.specs.Prelude.{◌≡◌, Bool, true, not, List, map, ℕ, ◌<◌, eqb, length, get_or}
use Rattle.std.proofs.Props.{props}
use Rattle.numbers.specs.Range.{filter, any_of}
use Rattle.numbers.specs.Patterns.{unpaired}
use Rattle.fields.specs.Fields.{Accepted, days, block}
use Rattle.nights.specs.Nights.{common_of}
use Rattle.nights.specs.Hers.{hers_of}
use Rattle.nights.specs.Own.{own_pattern, with_pairs}
use Rattle.history.specs.declared.Search.{Search}
use Rattle.history.specs.declared.Search.TheVariants.{Nights, Days}
use Rattle.penalty.specs.declared.columns.Columns.{Columns}
use Rattle.tables.specs.CodeTables.{TableOf}
use Rattle.margins.specs.declared.Margins.{Margins}
use Rattle.margins.specs.CodeMargins.{SearchMargins}
use Rattle.trials.specs.CodeTrials.{before_of, start_set, WorkableDays, NightTrials, DayTrials}
use Rattle.tries.specs.declared.lists.Offered.{Offered}
use Rattle.tries.specs.declared.lists.Offered.TheVariants.{Own, Common}
use Rattle.tries.specs.declared.lists.Tried.{Tried}
use Rattle.tries.specs.declared.nurse.InForce.{InForce}

-- she may take what is not barred
abbrev pub allowed_by : List ℕ → ℕ → Bool
allowed_by bars p = not (any_of (λ x. eqb x p) bars)

abbrev pub Bars : (ℕ → Bool) → List ℕ → Type 0
Bars may bars = (p : ℕ) → may p ≡ allowed_by bars p

-- t tells of each of the list whether its nights are nurse i's
abbrev pub Tells : (ℕ → Bool → Type 0) → List ℕ → ℕ → List ℕ → Type 0
Tells t w i list = (k : ℕ) (b : Bool) → k < length list → t (get_or list k 0) b → b ≡ hers_of w i (get_or list k 0)

-- all night patterns of the list are nurse i's
abbrev pub AllHers : List ℕ → ℕ → List ℕ → Type 0
AllHers w i list = (k : ℕ) → k < length list → hers_of w i (get_or list k 0) ≡ true

-- a table that her trials go by
pub record NightTable (w : List ℕ) (before : ℕ) (c t : List ℕ) (cost : ℕ → ℕ) : Type 0 where
  pub table : TableOf c (days w) t
  pub trials : NightTrials w before c cost

pub record DayTable (w c t : List ℕ) (cost : ℕ → ℕ) : Type 0 where
  pub table : TableOf c (days w) t
  pub trials : DayTrials w c cost

-- a night pattern of hers, and the set by which its trials go
pub record PatternNeeds (w : List ℕ) (n i x p : ℕ) : Type 0 where
  pub ward : Accepted w
  pub days_are : n ≡ days w
  pub set_is : x ≡ start_set (before_of (block w i)) p
  pub hers : hers_of w i p ≡ true

-- what nurse i tries of a list: by night what is her own of it with every pair, by day all of it
abbrev pub tried_in : Search → List ℕ → ℕ → List ℕ → List ℕ
tried_in Nights w i list = filter (own_pattern w i) (with_pairs w list)
tried_in Days w i list = map unpaired list

-- the patterns of a list that is tried
abbrev pub offered : Offered → List ℕ
offered (Own list) = list.now
offered (Common list) = list.now

-- by night the list is all hers, or the common one
abbrev pub NightList : List ℕ → ℕ → Offered → Type 0
NightList w i (Own list) = AllHers w i list.now
NightList w i (Common list) = list.now ≡ common_of w

pub record ListNeeds (which : Search) (x : Tried) (c t : List ℕ) : Type 0 where
  pub listed : which ≡ Nights → NightList x.nurse.ward.numbers.now x.nurse.index x.list
  pub before_is : which ≡ Nights → x.before ≡ before_of (block x.nurse.ward.numbers.now x.nurse.index)
  pub table : TableOf c (days x.nurse.ward.numbers.now) t

-- the margins are those of the columns
abbrev pub MarginsIn : Search → List ℕ → Columns → Margins → Type 0
MarginsIn which w cols m = SearchMargins which w cols.night cols.day m.nightly m.daily

-- a fact with one proof at most, so that a struct may carry it
pub margins_prop : (which : Search) (w : List ℕ) (cols : Columns) (m : Margins) → IsProp (MarginsIn which w cols m)
margins_prop Nights w cols m = Prim.hlevel props
margins_prop Days w cols m = Prim.hlevel props

-- what is tried of a nurse, by what a step counts by
pub record NurseNeeds (y : InForce) (x : Tried) : Type 0 where
  pub listed : y.search ≡ Nights → NightList x.nurse.ward.numbers.now x.nurse.index x.list
  pub before_is : y.search ≡ Nights → x.before ≡ before_of (block x.nurse.ward.numbers.now x.nurse.index)
  pub workable_are : y.search ≡ Nights → WorkableDays x.nurse.ward.numbers.now x.nurse.index x.workable
  pub made : MarginsIn y.search x.nurse.ward.numbers.now y.cols.now y.margins.now
