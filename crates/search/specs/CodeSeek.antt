-- The two searches that the code makes, by night and by day: what they cost, what a nurse tries, and which phases they serve.
use Rattle.std.specs.Prelude.{ℕ, ◌+◌, ◌-◌, ◌≤◌, ◌<◌, ◌≡◌, true, cond, List, [], eqb, length, get_or, take, drop}
use Rattle.numbers.specs.Range.{Ascending}
use Rattle.fields.specs.Fields.{nurses, tabu}
use Rattle.nights.specs.Nights.{common_of}
use Rattle.history.specs.declared.Search.{Search}
use Rattle.history.specs.declared.Search.TheVariants.{Nights, Days}
use Rattle.history.specs.Slot.{Slot}
use Rattle.penalty.specs.Penalty.{starts_in, worked_in, night_penalty, day_penalty}
use Rattle.ownlists.specs.declared.Source.{Source}
use Rattle.ownlists.specs.declared.Source.TheVariants.{Kept, Whole, Among}
use Rattle.ownlists.specs.declared.OwnList.{OwnList}
use Rattle.ownlists.specs.CodeOwn.{no_list}
use Rattle.tries.specs.CodeTries.{tried_in}
use Rattle.history.specs.Phase.{Phase, Answer, ended, End, end_zero, end_asked, end_none}
use Rattle.search.specs.Stored.{slot_at, view_of, sound_stored}
use Rattle.search.specs.declared.Searched.{Searched}
use Rattle.search.specs.declared.Searched.TheVariants.{Nights as ByNight, Days as ByDay}
use Rattle.search.specs.declared.Ending.{Ending}
use Rattle.search.specs.declared.Ending.TheVariants.{Zero, Asked, None}
use Rattle.search.specs.declared.Advanced.{Advanced}
use Rattle.search.specs.declared.Record.{Record as Stored}

-- the penalty of everyone's slots
abbrev pub cost_of : Search → List ℕ → (ℕ → Slot) → ℕ
cost_of Days w slots = day_penalty w slots
cost_of Nights w slots = night_penalty w slots

-- the pattern that a slot counts with: hers, or her marks while she is unplaced
abbrev pub pattern_for : Search → List ℕ → ℕ → Slot → ℕ
pattern_for Days w i s = worked_in w i s
pattern_for Nights w i s = starts_in w i s

-- these slots are those of a stored record, as far as there are nurses
unfoldable pub Agree : List ℕ → Stored → (ℕ → Slot) → Type 0
Agree w r slots = (i : ℕ) → i < nurses w → slots i ≡ slot_at r i

-- nurse i's stretch of the lists
abbrev pub stretch : List ℕ → List ℕ → ℕ → List ℕ
stretch lists ends i = take (get_or ends (i + 1) 0 - get_or ends i 0) (drop (get_or ends i 0) lists)

-- what nurse i tries: by day her stretch, by night what is hers of the common list with every pair
abbrev pub tried_by : Search → List ℕ → List ℕ → List ℕ → ℕ → List ℕ
tried_by Days w lists ends i = tried_in Days w i (stretch lists ends i)
tried_by Nights w lists ends i = tried_in Nights w i lists

-- which search it is, and where its stretches end: by night there are none
abbrev pub search_of : {D : Type 0} → Searched D → Search
search_of ByNight = Nights
search_of (ByDay ends) = Days

abbrev pub ends_of : Searched (List ℕ) → List ℕ
ends_of ByNight = []
ends_of (ByDay ends) = ends

-- the lists as the loops over them need them
pub record Lists (which : Search) (w lists ends : List ℕ) : Type 0 where
  pub common_list : which ≡ Nights → lists ≡ common_of w
  pub begins : which ≡ Days → (i : ℕ) → i < nurses w → get_or ends i 0 ≤ get_or ends (i + 1) 0
  pub finishes : which ≡ Days → (i : ℕ) → i < nurses w → get_or ends (i + 1) 0 ≤ length lists

-- a phase that the search serves, where nurse i tries tried i
pub record SeeksBy (which : Search) (w : List ℕ) (tried : ℕ → List ℕ) (P : Phase) : Type 0 where
  pub nurses_are : P.nurses ≡ nurses w
  pub tabu_is : P.tabu ≡ tabu w
  pub cost_is : (slots : ℕ → Slot) → P.cost slots ≡ cost_of which w slots
  pub patterns_are : (i : ℕ) → i < nurses w → P.patterns i ≡ tried i
  pub ascending : (i : ℕ) → i < P.nurses → Ascending (P.patterns i)

-- there is one by which the record is sound: question 11
abbrev pub SoughtSound : Search → List ℕ → (ℕ → List ℕ) → Stored → Type 0
SoughtSound which w tried r = (P : Phase) × SeeksBy which w tried P × (sound_stored P r ≡ true)

-- over these lists
abbrev pub Seeks : Search → List ℕ → List ℕ → List ℕ → Phase → Type 0
Seeks which w lists ends P = SeeksBy which w (tried_by which w lists ends) P

abbrev pub ServedSound : Search → List ℕ → List ℕ → List ℕ → Stored → Type 0
ServedSound which w lists ends r = SoughtSound which w (tried_by which w lists ends) r

-- ---- by a plan: where nurse i's own patterns stand says which list is hers

abbrev pub listed_by : List ℕ → Source → List ℕ
listed_by lists (Kept own) = own.now
listed_by lists Whole = lists
listed_by lists Among = lists

abbrev pub list_at : List ℕ → List OwnList → ℕ → List ℕ
list_at lists plan i = listed_by lists (get_or plan i no_list).source

abbrev pub tried_at : Search → List ℕ → List ℕ → List OwnList → ℕ → List ℕ
tried_at which w lists plan i = tried_in which w i (list_at lists plan i)

-- how an advance ended
abbrev pub end_by : Ending → End
end_by Zero = end_zero
end_by Asked = end_asked
end_by None = end_none

-- the answers of an advance of the phase P: the letters go by the penalty that it leaves
abbrev pub answer_of : Phase → Advanced → Answer
answer_of P x = ended (end_by x.ending) x.steps x.penalty (cond (eqb x.penalty 0) (P.letters (view_of P x.after).slots) [])
