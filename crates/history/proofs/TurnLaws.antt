-- What each operation of a list says of the patterns in use after it.
use Rattle.std.specs.Prelude.{ℕ, Bool}
use Rattle.std.proofs.Common.{sym, subst}
use Rattle.std.proofs.Math.Option.{Option}
use Rattle.history.specs.Phase.{Phase, Call}
use Rattle.history.specs.History.{History}
use Rattle.history.specs.Session.{Operation, Answered, Session}
use Rattle.history.specs.Claim.{Made, Went, refuses, goes, keeps, keeps_not, returns, returns_not}
use Rattle.history.proofs.FitLaws.{Fit}
use Rattle.history.proofs.GrewLaws.{grew_of, fit_grew}
use Rattle.history.proofs.SessionLaws.{kept_only, Every, every_advanced, every_kept}

module _ (P : Phase) where
  pub made_fit : {c : Call} {h h' : History} {e : _} {n p : _} {l : _} → Fit P h → Made P c h h' e n p l → Fit P h'
  made_fit {c = c} {h = h} f m = subst (Fit P) (sym m.added) (fit_grew P c.past_zero h f (grew_of P c.past_zero h m.new m.each))

  pub went_fit : {room : Bool} {s s' : Session History} {o : Operation} {a : Answered} → Every (Fit P) s → Went P room s o a s' → Every (Fit P) s'
  went_fit each (refuses e) = each
  went_fit {s = s} each (goes {h' = h'} q m) = every_advanced (Fit P) s each h' (made_fit each.in_hand m)
  went_fit {s = s} each (keeps {n = n} {kept = kept} e own others) =
      subst (λ (k : ℕ → Option History). Every (Fit P) (record { in_hand = s.in_hand; kept = k })) (sym (kept_only s.kept n s.in_hand kept own others)) (every_kept (Fit P) s each n)
  went_fit each (keeps_not e) = each
  went_fit {s = s} each (returns {n = n} {h = h} e q) = every_advanced (Fit P) s each h (each.kept n h q)
  went_fit each (returns_not f) = each
