-- What is kept comes back as it was, whatever else is kept meanwhile under other numbers; and storage of zeros keeps nothing.
use Rattle.std.specs.Prelude.{ℕ, ◌≡◌, ◌≢◌, List, [], ◌∷◌, length, replicate}
use Rattle.std.proofs.Math.Option.{none}
use Rattle.search.specs.Stored.{Sized}
use Rattle.search.specs.declared.Record.{Record as Stored}
use Rattle.refusals.specs.Questions as question
use Rattle.refusals.specs.Refusals.{numbered}
use Rattle.std.specs.declared.result.Result.TheVariants.{Ok, Err}
use Rattle.outcomes.specs.Outcomes.{refused_with}
use Rattle.keeping.specs.Storage.{keep_no, kept_in, returned_to, returned_of}

-- a keeping of some record, of this search or another, under some number
pub record Keeping : Type 0 where
  pub number : ℕ
  pub rec : Stored

-- the storage after a list of keepings, refused ones among them
abbrev pub kept_all : List Keeping → List ℕ → List ℕ
kept_all [] storage = storage
kept_all (k ∷ ks) storage = kept_all ks (kept_in storage k.number k.rec)

-- none of these keepings is under n; their records' arrays are as long as they are declared
abbrev pub OthersThan : ℕ → List Keeping → Type 0
OthersThan n [] = Unit
OthersThan n (k ∷ ks) = (k.number ≢ n) × Sized k.rec × OthersThan n ks

-- proofs/AssuranceLaws shows it, for storage of any content and length, any record and any record in hand
pub record Assurance : Type 0 where
  pub unchanged : (storage : List ℕ) (n : ℕ) (kept in_hand : Stored) (meanwhile : List Keeping) → Sized kept → keep_no storage n ≡ none → OthersThan n meanwhile
      → (returned_of (kept_all meanwhile (kept_in storage n kept)) n in_hand ≡ Ok kept) × (returned_to (kept_all meanwhile (kept_in storage n kept)) n in_hand ≡ kept)
  pub zeros : (words n : ℕ) (in_hand : Stored)
      → (returned_of (replicate words 0) n in_hand ≡ Err (refused_with (numbered question.storage 0) in_hand)) × (returned_to (replicate words 0) n in_hand ≡ in_hand)
  -- the storage keeps its length
  pub same_length : (storage : List ℕ) (n : ℕ) (r : Stored) → Sized r → length (kept_in storage n r) ≡ length storage
