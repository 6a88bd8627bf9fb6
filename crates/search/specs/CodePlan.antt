-- Everyone's lists by a plan, and what the loops over them need.
use Rattle.std.specs.Prelude.{ℕ, ◌<◌, ◌≡◌, List, get_or}
use Rattle.std.specs.Borrow.{Bor}
use Rattle.std.proofs.Props.{props}
use Rattle.fields.specs.Sizes.{nurse_places}
use Rattle.fields.specs.Fields.{nurses, block}
use Rattle.nights.specs.Nights.{common_of}
use Rattle.history.specs.declared.Search.{Search}
use Rattle.history.specs.declared.Search.TheVariants.{Nights}
use Rattle.trials.specs.CodeTrials.{before_of, WorkableDays}
use Rattle.tries.specs.CodeTries.{AllHers}
use Rattle.tries.specs.declared.lists.Offered.{Offered}
use Rattle.tries.specs.declared.lists.Offered.TheVariants.{Own, Common}
use Rattle.ownlists.specs.declared.Source.{Source}
use Rattle.ownlists.specs.declared.Source.TheVariants.{Kept, Whole, Among}
use Rattle.ownlists.specs.declared.OwnList.{OwnList}
use Rattle.ownlists.specs.CodeOwn.{no_list}
use Rattle.search.specs.CodeSeek.{listed_by, stretch}

-- what the code hands on as nurse i's list
abbrev pub IsOffered : List ℕ → Source → Offered → Type 0
IsOffered lists (Kept own) (Own list) = list.now ≡ own.now
IsOffered lists (Kept own) (Common list) = ⊥
IsOffered lists Whole (Own list) = list.now ≡ lists
IsOffered lists Whole (Common list) = ⊥
IsOffered lists Among (Own list) = ⊥
IsOffered lists Among (Common list) = list.now ≡ lists

-- by night: what is kept, or else the whole list, is all hers, or the lists are the common one
pub record SourceHers (w lists : List ℕ) (i : ℕ) (s : Source) : Type 0 where
  pub kept_hers : (own : Bor (List ℕ)) → s ≡ Kept own → AllHers w i own.now
  pub whole_hers : s ≡ Whole → AllHers w i lists
  pub among_common : s ≡ Among → lists ≡ common_of w

pub record NightPlan (w lists : List ℕ) (i : ℕ) (x : OwnList) : Type 0 where
  pub source_hers : SourceHers w lists i x.source
  pub workable_are : WorkableDays w i x.workable
  pub before_is : x.before ≡ before_of (block w i)

-- what is asked of nurse i's lists
pub record PlanAt (which : Search) (w lists : List ℕ) (i : ℕ) (x : OwnList) : Type 0 where
  pub by_night : which ≡ Nights → NightPlan w lists i x

pub record Tries (which : Search) (w lists : List ℕ) (plan : List OwnList) : Type 0 where
  pub each : (i : ℕ) → i < nurses w → PlanAt which w lists i (get_or plan i no_list)

-- by day each nurse has her stretch of the lists
abbrev pub HasStretch : List ℕ → List ℕ → ℕ → OwnList → Type 0
HasStretch lists ends i x = listed_by lists x.source ≡ stretch lists ends i

pub record DayPlan (lists ends : List ℕ) (plan : List OwnList) : Type 0 where
  pub each : (i : ℕ) → i < nurse_places → HasStretch lists ends i (get_or plan i no_list)

-- a fact with one proof at most, so that a struct may carry it
pub tries_prop : (which : Search) (w lists : List ℕ) (plan : List OwnList) → IsProp (Tries which w lists plan)
tries_prop which w lists plan = Prim.hlevel props
