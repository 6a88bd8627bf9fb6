-- What the code makes of a stored record in a step. proofs/StoredLaws shows that it is the meaning.
use Rattle.std.specs.Prelude.{ℕ, suc, ◌+◌, true, set, Option, Some, None}
use Rattle.std.proofs.Math.Option.{none, some}
use Rattle.history.specs.Phase.{Phase}
use Rattle.history.specs.Record.{best, cost_after}
use Rattle.removals.specs.Removals.{stored_removal}
use Rattle.removals.specs.CodePush.{pushed}
use Rattle.search.specs.Stored.{slot_at, view_of}
use Rattle.search.specs.declared.Record.{Record as Stored}
use Rattle.removals.specs.declared.Removal.{Removal as StoredRemoval}
use Rattle.search.specs.declared.Stepped.{Stepped}

-- ---- the record

-- what a step of nurse i takes away
abbrev pub removal_by : Stored → ℕ → StoredRemoval
removal_by r i = stored_removal (record { nurse = suc i; pattern = slot_at r i })

-- nurse i takes p
unfoldable pub exchanged_in : ℕ → Stored → ℕ → ℕ → Stored
exchanged_in tl r i p =
    record {
      patterns = set r.patterns i p;
      placed = set r.placed i true;
      removals = pushed tl r.steps (removal_by r i) r.removals;
      steps = r.steps + 1;
    }

-- a step, if there is an exchange, and the penalty of the record after it
unfoldable pub stepped_of : Phase → Stored → Option Stepped
stepped_of P r =
    elim (best P (view_of P r)) [
      | none ↦ None
      | some s ↦ Some (record { after = exchanged_in P.tabu r s.nurse s.pattern; penalty = cost_after P (view_of P r) s })
    ]
