-- Everyone's own night patterns of the common list, as far as they are kept.
use Rattle.std.specs.Prelude.{◌≡◌, List, ℕ, ◌-◌, ◌≤◌, ◌<◌, length, get_or, take, drop}
use Rattle.std.specs.Borrow.{Bor}
use Rattle.numbers.specs.Range.{filter}
use Rattle.fields.specs.Fields.{nurses, block}
use Rattle.nights.specs.Hers.{hers_of}
use Rattle.trials.specs.CodeTrials.{before_of, WorkableDays}
use Rattle.ownlists.specs.declared.Source.{Source}
use Rattle.ownlists.specs.declared.Source.TheVariants.{Kept, Whole, Among}
use Rattle.ownlists.specs.declared.OwnList.{OwnList}
use Rattle.ownlists.specs.declared.Stretch.{Stretch}
use Rattle.ownlists.specs.declared.Place.{Place}
use Rattle.ownlists.specs.declared.Place.TheVariants.{Kept as KeptAt, Whole as WholeAt, Among as AmongAt}
use Rattle.ownlists.specs.declared.OwnPlace.{OwnPlace}

-- ---- in the lent array

-- hers stand from where the stretch begins to where it ends
pub record StretchIs (own hers : List ℕ) (s : Stretch) : Type 0 where
  pub begins : s.begin ≤ s.end
  pub finishes : s.end ≤ length own
  pub stretch : take (s.end - s.begin) (drop s.begin own) ≡ hers

abbrev pub PlaceAt : List ℕ → List ℕ → List ℕ → ℕ → Place → Type 0
PlaceAt w list own i (KeptAt s) = StretchIs own (filter (hers_of w i) list) s
PlaceAt w list own i WholeAt = filter (hers_of w i) list ≡ list
PlaceAt w list own i AmongAt = Unit {0}

-- what is kept of nurse i
pub record OwnPlaceAt (w list own : List ℕ) (i : ℕ) (x : OwnPlace) : Type 0 where
  pub place_is : PlaceAt w list own i x.place
  pub workable_are : WorkableDays w i x.workable
  pub before_is : x.before ≡ before_of (block w i)

-- past the last nurse
abbrev pub no_place : OwnPlace
no_place = record { place = AmongAt; workable = 0; before = 0 }

-- of everyone
pub record OwnPlaces (w list own : List ℕ) (r : List OwnPlace) : Type 0 where
  pub each : (i : ℕ) → i < nurses w → OwnPlaceAt w list own i (get_or r i no_place)

-- ---- as parts of it

abbrev pub SourceAt : List ℕ → List ℕ → ℕ → Source → Type 0
SourceAt w list i (Kept own) = own.now ≡ filter (hers_of w i) list
SourceAt w list i Whole = filter (hers_of w i) list ≡ list
SourceAt w list i Among = Unit {0}

-- what is known of nurse i
pub record OwnAt (w list : List ℕ) (i : ℕ) (x : OwnList) : Type 0 where
  pub source_is : SourceAt w list i x.source
  pub workable_are : WorkableDays w i x.workable
  pub before_is : x.before ≡ before_of (block w i)

-- past the last nurse
abbrev pub no_list : OwnList
no_list = record { source = Among; workable = 0; before = 0 }

-- of everyone
pub record OwnLists (w list : List ℕ) (r : List OwnList) : Type 0 where
  pub each : (i : ℕ) → i < nurses w → OwnAt w list i (get_or r i no_list)

-- ---- cut from the array

-- a stretch that the array has is cut from it; what is not kept stays so
abbrev pub IsCut : List ℕ → Place → Source → Type 0
IsCut own (KeptAt s) x = (part : Bor (List ℕ)) × (x ≡ Kept part) × (s.begin ≤ s.end → s.end ≤ length own → part.now ≡ take (s.end - s.begin) (drop s.begin own))
IsCut own WholeAt x = x ≡ Whole
IsCut own AmongAt x = x ≡ Among

pub record LentAt (own : List ℕ) (p : OwnPlace) (x : OwnList) : Type 0 where
  pub source_is : IsCut own p.place x.source
  pub workable_same : x.workable ≡ p.workable
  pub before_same : x.before ≡ p.before
