-- What the choice of an exchange asks: everyone's lists by a plan, the columns of the record, and each nurse's part of both.
use Rattle.std.specs.Prelude.{ℕ, ◌+◌, ◌≤◌, ◌<◌, ◌≡◌, Bool, false, not, ◌&&◌, ◌||◌, List, eqb, get_or, take}
use Rattle.fields.specs.Sizes.{nurse_places}
use Rattle.numbers.specs.Sum.{count_to, Is}
use Rattle.fields.specs.Fields.{nurses, tabu}
use Rattle.history.specs.declared.Search.{Search}
use Rattle.history.specs.Slot.{Slot}
use Rattle.history.specs.Phase.{Phase}
use Rattle.penalty.specs.declared.columns.Columns.{Columns}
use Rattle.penalty.specs.CodeColumns.{Shows}
use Rattle.removals.specs.CodeGiven.{given_up_by}
use Rattle.search.specs.Stored.{held}
use Rattle.search.specs.CodeSeek.{Agree, SeeksBy, SoughtSound, tried_at}
use Rattle.search.specs.declared.offers.Offers.{Offers}
use Rattle.search.specs.declared.Record.{Record as Stored}

-- these columns are those of a stored record
pub record ColumnsOf (which : Search) (w : List ℕ) (r : Stored) (cols : Columns) : Type 0 where
  pub shows : (slots : ℕ → Slot) → Agree w r slots → Shows which w slots cols

-- ---- of what a search offers

abbrev pub tried_in_offers : Offers → ℕ → List ℕ
tried_in_offers o = tried_at o.search o.ward.now.numbers.now o.lists.now o.plan.now

abbrev pub SeeksIn : Offers → Phase → Type 0
SeeksIn o P = SeeksBy o.search o.ward.now.numbers.now (tried_in_offers o) P

abbrev pub SoundIn : Offers → Stored → Type 0
SoundIn o r = SoughtSound o.search o.ward.now.numbers.now (tried_in_offers o) r

-- ---- one nurse

-- she may take what is neither in use by her nor given up by her in one of the removals held
abbrev pub MayBy : (ℕ → Bool) → List ℕ → ℕ → Stored → Type 0
MayBy may w i r =
    (p : ℕ) → may p ≡ not ((get_or r.placed i false && eqb (get_or r.patterns i 0) p) || given_up_by (take (held (tabu w) r) r.removals) (i + 1) p)

-- ---- everyone

pub record BestNeeds (o : Offers) (cols : Columns) (unplaced : ℕ) (r : Stored) : Type 0 where
  pub shown : ColumnsOf o.search o.ward.now.numbers.now r cols
  pub counted : Is unplaced (count_to (nurses o.ward.now.numbers.now) (λ j. not (get_or r.placed j false))) nurse_places

-- an exchange of nurse i
pub record ExchangeNeeds (w : List ℕ) (i unplaced : ℕ) (r : Stored) : Type 0 where
  pub nurse : i < nurses w
  pub unplaced_most : unplaced ≤ nurse_places
  pub steps_few : r.steps < 1000000

-- a step: there is a phase that it serves
pub record StepNeeds (o : Offers) (cols : Columns) (r : Stored) : Type 0 where
  pub shown : ColumnsOf o.search o.ward.now.numbers.now r cols
  pub phase : Phase
  pub sought : SeeksIn o phase
  pub steps_few : r.steps < 1000000
