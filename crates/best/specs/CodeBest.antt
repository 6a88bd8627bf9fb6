-- The best exchange as loops find it: nurse by nurse, and each nurse's list in order. proofs/BestLaws shows that it is the one that a step takes.
use Rattle.std.specs.Prelude.{ℕ, zero, suc, Bool, true, cond, List, [], ◌∷◌, ltb, Option as StoredOption, Some, None}
use Rattle.std.proofs.Math.Option.{Option, none, some}
use Rattle.history.specs.Phase.{Step, Phase}
use Rattle.history.specs.Record.{Record, may_take, cost_after}
use Rattle.best.specs.declared.Exchange.{Exchange}

-- the best so far, if there is one
abbrev pub Best : Type 0
Best = StoredOption Exchange

-- nurse i with p at cost c
abbrev pub exchange : ℕ → ℕ → ℕ → Best
exchange i p c = Some (record { nurse = i; pattern = p; cost = c })

-- does an exchange that costs so much go before the best so far?
abbrev pub improves : Best → ℕ → Bool
improves None c = true
improves (Some b) c = ltb c b.cost

-- one more: nurse i with p, if she may take it, where it costs less than the best so far
abbrev pub considered : (ℕ → Bool) → (ℕ → ℕ) → ℕ → Best → ℕ → Best
considered may cost i b p = cond (may p) (cond (improves b (cost p)) (exchange i p (cost p)) b) b

-- a list of hers in order
unfoldable pub over_list : (ℕ → Bool) → (ℕ → ℕ) → ℕ → Best → List ℕ → Best
over_list may cost i b [] = b
over_list may cost i b (p ∷ ps) = over_list may cost i (considered may cost i b p) ps

-- the first m nurses in turn, each with her own list
unfoldable pub over_nurses : (ℕ → ℕ → Bool) → (ℕ → ℕ → ℕ) → (ℕ → List ℕ) → ℕ → Best
over_nurses may cost lists zero = None
over_nurses may cost lists (suc m) = over_list (may m) (cost m) m (over_nurses may cost lists m) (lists m)

-- what it costs, over all, that nurse i takes p
abbrev pub cost_in : Phase → Record → ℕ → ℕ → ℕ
cost_in P r i p = cost_after P r (record { nurse = i; pattern = p })

-- the best exchange of the first m nurses
abbrev pub best_over : Phase → Record → ℕ → Best
best_over P r m = over_nurses (may_take r) (cost_in P r) P.patterns m

-- the exchange that was found
abbrev pub found : Best → Option Step
found None = none
found (Some b) = some (record { nurse = b.nurse; pattern = b.pattern })
