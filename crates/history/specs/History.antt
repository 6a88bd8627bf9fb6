-- The history of a search, and what an advance adds to it, from what the advance is handed alone.
use Rattle.std.specs.Prelude.{ℕ, zero, suc, ◌-◌, Bool, false, cond, not, ◌&&◌, ◌||◌, List, [], ◌∷◌, eqb, length}
use Rattle.std.proofs.Math.Option.{Option, none, some}
use Rattle.history.specs.Slot.{Slot}
use Rattle.history.specs.Phase.{Step, Phase, Call, Answer, refused, ended, End, holds, exchanges, least, run, stops, refusal, given}

-- the steps made, the last one first; empty at fresh
abbrev pub History : Type 0
History = List Step

-- in use by her is the pattern of her last step; before her first she is unplaced
abbrev pub in_use : History → ℕ → Slot
in_use [] i = none
in_use (s ∷ h) i = cond (eqb i s.nurse) (some s.pattern) (in_use h i)

-- given up by her in the last n steps: each later step of hers gives up the pattern of her step before, which is the one in use before it
abbrev pub given_up : ℕ → History → ℕ → ℕ → Bool
given_up zero h i p = false
given_up (suc n) [] i p = false
given_up (suc n) (s ∷ h) i p = (eqb i s.nurse && holds (in_use h i) p) || given_up n h i p

-- the penalty is that of the patterns in use
unfoldable pub penalty : Phase → History → ℕ
penalty P h = P.cost (in_use h)

-- neither in use by her nor given up by her in the last TL steps
unfoldable pub allowed : Phase → History → ℕ → ℕ → Bool
allowed P h i p = not (holds (in_use h i) p) && not (given_up P.tabu h i p)

-- the step that comes after h
unfoldable pub next : Phase → History → Option Step
next P h = least (λ s. penalty P (s ∷ h)) (exchanges P (allowed P h))

-- the history after up to k steps more, past zero or not, and what ended them
unfoldable pub extend : Phase → Bool → ℕ → History → History × End
extend P past_zero k h = run (λ g. stops past_zero (penalty P g)) (next P) (λ s g. s ∷ g) k h

-- the answers of an advance that took the history from h to where it ended
unfoldable pub reply : Phase → History → History × End → Answer × History
reply P h r = (ended r.1 (length r.0 - length h) (penalty P r.0) (given P (in_use r.0)), r.0)

-- what an advance answers, and the history after it. A refused one adds nothing
unfoldable pub advance : Phase → Call → History → Answer × History
advance P c h = elim (refusal P c (length h)) [ some n ↦ (refused n, h) | none ↦ reply P h (extend P c.past_zero c.steps h) ]
