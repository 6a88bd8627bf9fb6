-- Histories that grew by steps each of which was the one to take.
use Rattle.std.specs.Prelude.{◌≡◌, refl, Bool, false, ◌≢◌, [], ◌∷◌, ◌++◌}
use Rattle.std.proofs.Common.{ap, subst}
use Rattle.history.specs.Phase.{Step, Phase}
use Rattle.history.specs.History.{History, penalty}
use Rattle.history.specs.Claim.{Least, Steps}
use Rattle.history.proofs.FitLaws.{Fit, fit_fresh, fit_more}

-- from h on, by advances that go on past zero or do not: each step was due and the one to take
pub data Grew (P : Phase) (past_zero : Bool) (h : History) : History → Type 0 where
  start : Grew P past_zero h []
  more : {s : Step} {new : History} → Grew P past_zero h new → (past_zero ≡ false → penalty P (new ++ h) ≢ 0) → Least P (new ++ h) s → Grew P past_zero h (s ∷ new)

-- from fresh on
pub data Grown (P : Phase) : History → Type 0 where
  fresh : Grown P []
  and : {s : Step} {h : History} → Grown P h → Least P h s → Grown P (s ∷ h)

module _ (P : Phase) (past_zero : Bool) (h : History) where
  -- a step at its place
  abbrev DueAt : Step → History → Type 0
  DueAt s earlier = (past_zero ≡ false → penalty P (earlier ++ h) ≢ 0) × Least P (earlier ++ h) s

  pub each_of : (later : History) (s : Step) (earlier : History) → Grew P past_zero h (later ++ (s ∷ earlier)) → DueAt s earlier
  each_of [] s earlier (more g d f) = (d, f)
  each_of (t ∷ later) s earlier (more g d f) = each_of later s earlier g

  pub grew_of : (new : History) → ((later : History) (s : Step) (earlier : History) → new ≡ later ++ (s ∷ earlier) → DueAt s earlier) → Grew P past_zero h new
  grew_of [] f = start
  grew_of (s ∷ new) f =
      let d = f [] s new refl in
      more (grew_of new (λ later t earlier q. f (s ∷ later) t earlier (ap {B = History} (λ g. s ∷ g) q))) d.0 d.1

  pub fit_grew : {new : History} → Fit P h → Grew P past_zero h new → Fit P (new ++ h)
  fit_grew f start = f
  fit_grew f (more {s = s} {new = new} g d l) = fit_more P (new ++ h) (fit_grew f g) s l.allowed.nurse l.allowed.hers

  pub grown_grew : {new : History} → Grown P h → Grew P past_zero h new → Grown P (new ++ h)
  grown_grew g start = g
  grown_grew g (more m d l) = and (grown_grew g m) l

module _ (P : Phase) where
  pub grown_fit : {h : History} → Grown P h → Fit P h
  grown_fit fresh = fit_fresh P
  grown_fit (and {s = s} {h = h} g l) = fit_more P h (grown_fit g) s l.allowed.nurse l.allowed.hers

  each_grown : (later : History) (s : Step) (earlier : History) → Grown P (later ++ (s ∷ earlier)) → Least P earlier s
  each_grown [] s earlier (and g l) = l
  each_grown (t ∷ later) s earlier (and g l) = each_grown later s earlier g

  pub grown_steps : {h : History} → Grown P h → Steps P h
  grown_steps g later s earlier q = each_grown later s earlier (subst (Grown P) q g)

  pub grown_part : (later earlier : History) → Grown P (later ++ earlier) → Grown P earlier
  grown_part [] earlier g = g
  grown_part (t ∷ later) earlier (and g l) = grown_part later earlier g
