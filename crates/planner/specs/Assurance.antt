-- After a return, every list of advances goes as it would have gone from the moment of keeping, whatever was done between, if nothing else was kept under that
-- number and only keeping wrote the storage meanwhile. What is done between is nothing to the storage but keepings: of any records, of this search or another.
use Rattle.std.specs.Prelude.{ℕ, ◌≡◌, List}
use Rattle.std.proofs.Math.Option.{none}
use Rattle.std.specs.declared.result.Result.TheVariants.{Ok}
use Rattle.history.specs.Phase.{Call, in_turn}
use Rattle.search.specs.Stored.{Sized}
use Rattle.search.specs.declared.Record.{Record as Stored}
use Rattle.keeping.specs.Storage.{keep_no, kept_in, returned_to, returned_of}
use Rattle.keeping.specs.Assurance.{Keeping, kept_all, OthersThan}
use Rattle.planner.specs.Advances.{advance_nights, advance_days}

-- proofs/AssuranceLaws shows it: for storage of any content, any record kept and any record in hand at the return
pub record AfterReturn (storage : List ℕ) (n : ℕ) (kept in_hand : Stored) (meanwhile : List Keeping) : Type 0 where
  pub done : returned_of (kept_all meanwhile (kept_in storage n kept)) n in_hand ≡ Ok kept
  pub nights : (file : List ℕ) (cs : List Call)
      → in_turn (advance_nights file) cs (returned_to (kept_all meanwhile (kept_in storage n kept)) n in_hand) ≡ in_turn (advance_nights file) cs kept
  pub days : (file nights : List ℕ) (cs : List Call)
      → in_turn (advance_days file nights) cs (returned_to (kept_all meanwhile (kept_in storage n kept)) n in_hand) ≡ in_turn (advance_days file nights) cs kept

abbrev pub Assured : Type 0
Assured = (storage : List ℕ) (n : ℕ) (kept in_hand : Stored) (meanwhile : List Keeping) → Sized kept → keep_no storage n ≡ none → OthersThan n meanwhile
    → AfterReturn storage n kept in_hand meanwhile
