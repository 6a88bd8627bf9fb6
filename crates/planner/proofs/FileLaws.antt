-- The advances' answers from the file's bytes, by night and by day.
use Rattle.std.specs.Prelude.{ℕ, ◌≡◌, refl, Bool, List, length}
use Rattle.std.proofs.Common.{ap, ◌∙◌, subst}
use Rattle.std.specs.declared.result.Result.{Result}
use Rattle.std.specs.declared.result.Result.TheVariants.{Err}
use Rattle.refusals.specs.declared.Refusal.{Refusal}
use Rattle.fields.specs.Fields.{body_of}
use Rattle.layout.specs.Grammar.{Read, good, bad}
use Rattle.ward.specs.Answers.{read_ward}
use Rattle.history.specs.Phase.{Phase, Answer}
use Rattle.search.specs.Stored.{advance_stored}
use Rattle.search.specs.declared.Record.{Record as Stored}
use Rattle.outcomes.specs.declared.Advance.{Advance}
use Rattle.outcomes.specs.declared.Refused.{Refused}
use Rattle.outcomes.specs.Outcomes.{refused_with, advance_of, left_by, call_of}
use Rattle.planner.specs.Advances.{advance_over}

-- `phase` is the phase of a ward, and `lists` what stands in the buffer after an advance
module _ (phase : List ℕ → Phase) (lists : Read → List ℕ) (file : List ℕ) (rec : Stored) (k : ℕ) (past_zero : Bool) (buffer : List ℕ) where
  abbrev advanced : Answer × Stored
  advanced = advance_over phase (read_ward file) (call_of k past_zero (length buffer)) rec

  abbrev advanced_on : List ℕ → Answer × Stored
  advanced_on w = advance_stored (phase w) (call_of k past_zero (length buffer)) rec

  pub file_refused : {n : Refusal} → read_ward file ≡ bad n → (Err (refused_with n rec) ≡ advance_of advanced) × (buffer ≡ left_by advanced.0 (lists (read_ward file)) buffer)
  unfolding advance_over advance_of left_by
  file_refused e = rw e (refl, refl)

  -- `on` is what stands there over a ward's body, w
  pub file_advanced : (on : List ℕ → List ℕ) → ((ws : List ℕ) → on (body_of ws) ≡ lists (good ws)) → {ws w after : List ℕ} {x : Result Advance Refused} → read_ward file ≡ good ws
      → w ≡ body_of ws → (x ≡ advance_of (advanced_on w)) × (after ≡ left_by (advanced_on w).0 (on w) buffer)
      → (x ≡ advance_of advanced) × (after ≡ left_by advanced.0 (lists (read_ward file)) buffer)
  unfolding advance_over
  file_advanced on same {ws} {w} {after} {x} e q f =
      let g = subst (λ (v : List ℕ). (x ≡ advance_of (advanced_on v)) × (after ≡ left_by (advanced_on v).0 (on v) buffer)) q f in
      rw e (g.0, g.1 ∙ ap (λ (l : List ℕ). left_by (advanced_on (body_of ws)).0 l buffer) (same ws))
