-- Question 8 by the record in which everyone has her night pattern.
use Rattle.std.specs.Prelude.{ℕ, ◌≡◌, Bool, true, false, List, eqb, get_or, replicate}
use Rattle.std.proofs.Common.{sym, ap, ap₂, ◌∙◌, arith}
use Rattle.std.proofs.lemmas.List.{get_or-replicate}
use Rattle.std.proofs.Math.Option.{some}
use Rattle.fields.specs.Sizes.{nurse_places}
use Rattle.numbers.specs.Range.{up_from, all}
use Rattle.fields.specs.Fields.{Accepted, nurses}
use Rattle.nights.specs.Own.{own_pattern}
use Rattle.penalty.specs.Penalty.{night_penalty}
use Rattle.removals.specs.Removals.{slot}
use Rattle.search.specs.CodeSeek.{Agree}
use Rattle.search.specs.declared.Record.{Record as Stored}
use Rattle.phases.specs.Phases.{nights_open, night_of}

pub everyone_placed : (w nights : List ℕ) (r : Stored) → Accepted w → r.placed ≡ replicate nurse_places true → r.patterns ≡ nights → Agree w r (λ i. some (night_of nights i))
unfolding Agree
everyone_placed w nights r a e q i h =
    sym (ap₂ (λ (b : Bool) (p : ℕ). slot b p) (ap (λ (l : List Bool). get_or l i false) e ∙ get_or-replicate nurse_places i true false (omega (arith, a.nurses_most))) (ap (λ (l : List ℕ). get_or l i 0) q))

module _ (w nights : List ℕ) {b : Bool} (e : b ≡ all (λ i. own_pattern w i (night_of nights i)) (up_from 0 (nurses w))) where
  pub opens_at_zero : {p : ℕ} → b ≡ true → p ≡ night_penalty w (λ i. some (night_of nights i)) → eqb p 0 ≡ nights_open w (night_of nights)
  unfolding nights_open
  opens_at_zero f q = rw (← e, f, q)

  pub stays_shut : b ≡ false → false ≡ nights_open w (night_of nights)
  unfolding nights_open
  stays_shut f = rw (← e, f)
