-- When an advance stops.
use Rattle.std.specs.Prelude.{ℕ, ◌≡◌, refl, Bool, true, false, ◌≢◌}
use Rattle.std.proofs.Common.{sym, ◌∙◌, true≢false, eqb-true, ne_eqb}
use Rattle.std.proofs.lemmas.Bool.{false≢true}
use Rattle.history.specs.Phase.{stops}

pub stops_at : (past_zero : Bool) (c : ℕ) → stops past_zero c ≡ true → (past_zero ≡ false) × (c ≡ 0)
stops_at true c e = absurd (false≢true e)
stops_at false c e = (refl, eqb-true c 0 e)

pub stops_when : (past_zero : Bool) (c : ℕ) → past_zero ≡ false → c ≡ 0 → stops past_zero c ≡ true
stops_when past_zero c p z = rw (p, z)

pub goes_on_at : (past_zero : Bool) (c : ℕ) → stops past_zero c ≡ false → past_zero ≡ false → c ≢ 0
goes_on_at past_zero c e p z = true≢false (sym (stops_when past_zero c p z) ∙ e)

pub goes_when : (past_zero : Bool) (c : ℕ) → (past_zero ≡ false → c ≢ 0) → stops past_zero c ≡ false
goes_when true c f = refl
goes_when false c f = ne_eqb c 0 (f refl)
