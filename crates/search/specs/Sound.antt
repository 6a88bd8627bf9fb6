-- Question 11 in words of its own. proofs/SoundLaws shows that `sound_stored` is the same.
use Rattle.std.specs.Prelude.{ℕ, suc, ◌≤◌, ◌<◌, ◌≡◌, true, false, get_or}
use mathlib.Core.List.{Memᴰ}
use Rattle.fields.specs.Sizes.{nurse_places, removal_places}
use Rattle.history.specs.Phase.{Phase}
use Rattle.removals.specs.Removals.{no_removal}
use Rattle.removals.specs.declared.Removal.{Removal as StoredRemoval}
use Rattle.search.specs.declared.Record.{Record as Stored}
use Rattle.search.specs.Stored.{held}

-- a removal names a nurse, by her number from 1, with one of hers or with none; a pattern that is not used is 0
pub record Names (P : Phase) (x : StoredRemoval) : Type 0 where
  pub nurse : ℕ
  pub named : x.nurse ≡ suc nurse
  pub inside : nurse < P.nurses
  pub hers : x.has ≡ true → Memᴰ x.pattern (P.patterns nurse)
  pub unused : x.has ≡ false → x.pattern ≡ 0

pub record Sound (P : Phase) (r : Stored) : Type 0 where
  -- each placed nurse holds one of her own; an unplaced nurse's pattern is 0
  pub placed : (i : ℕ) → i < P.nurses → get_or r.placed i false ≡ true → Memᴰ (get_or r.patterns i 0) (P.patterns i)
  pub unplaced : (i : ℕ) → i < P.nurses → get_or r.placed i false ≡ false → get_or r.patterns i 0 ≡ 0
  -- past the last nurse nothing is used
  pub past : (i : ℕ) → P.nurses ≤ i → i < nurse_places → (get_or r.placed i false ≡ false) × (get_or r.patterns i 0 ≡ 0)
  -- there are as many removals as steps so far but not above TL, and all after them is 0
  pub named : (j : ℕ) → j < held P.tabu r → Names P (get_or r.removals j no_removal)
  pub past_held : (j : ℕ) → held P.tabu r ≤ j → j < removal_places → get_or r.removals j no_removal ≡ no_removal
