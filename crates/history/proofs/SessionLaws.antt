-- Laws of sessions: what holds of every search in them, and two that go alike.
use Rattle.std.specs.Prelude.{ℕ, ◌≡◌, refl, Bool, true, false, cond, ◌&&◌, ◌≢◌, List, [], ◌∷◌, leb, eqb}
use Rattle.std.proofs.Common.{sym, ap, ◌∙◌, subst, leb-true, le-leb, eqb-true, eq-eqb, ne_eqb}
use Rattle.std.proofs.lemmas.Bool.{eqb-false, and_parts, false_from_ne_true, and_from}
use Rattle.std.proofs.Math.Option.{Option, none, some, map, none-ne-some, some-injective, map-map}
use Rattle.std.proofs.Math.Path.{fun_ext}
use Rattle.history.specs.Phase.{Call, Answer, in_turn}
use Rattle.history.specs.Session.{Operation, operation_advance, operation_keep, operation_return, Answered, stored, Session, begun, known, kept_with, keep_number, no13, act}
use Rattle.history.specs.Claim.{Storable}
use Rattle.history.proofs.TestLaws.{not_both}

-- ---- two ways to take a list that go alike: f takes what the first leaves to what the second leaves, as long as I holds

module _ {O A S R : Type 0} (step : O → S → A × S) (step' : O → R → A × R) (f : S → R) (I : S → Type 0)
    (keeps : (o : O) (s : S) → I s → I (step o s).1)
    (one : (o : O) (s : S) → I s → step' o (f s) ≡ ((step o s).0, f (step o s).1)) where
  pub in_turn_alike : (os : List O) (s : S) → I s → in_turn step' os (f s) ≡ ((in_turn step os s).0, f (in_turn step os s).1)
  in_turn_alike [] s i = refl
  in_turn_alike (o ∷ os) s i = rw (one o s i, in_turn_alike os (step o s).1 (keeps o s i))

-- ---- question 13

pub storable : (room : Bool) (n : ℕ) → (room && keep_number n) ≡ true → Storable room n
storable room n e =
    let a = and_parts room (keep_number n) e in
    let b = and_parts (leb 1 n) (leb n 8) a.1 in
    (a.0, leb-true 1 n b.0, leb-true n 8 b.1)

pub storable_true : (room : Bool) (n : ℕ) → Storable room n → (room && keep_number n) ≡ true
storable_true room n s = and_from room (keep_number n) s.0 (and_from (leb 1 n) (leb n 8) (le-leb 1 n s.1) (le-leb n 8 s.2))

pub storable_false : (room : Bool) (n : ℕ) → (Storable room n → ⊥) → (room && keep_number n) ≡ false
storable_false room n f = false_from_ne_true (room && keep_number n) (λ e. f (storable room n e))

pub not_storable : (room : Bool) (n : ℕ) → (room && keep_number n) ≡ false → Storable room n → ⊥
not_storable room n e s = not_both (storable_true room n s) e

-- ---- what is kept once a search is kept under n: it under n, and under other numbers what was; nothing else is so

module _ {T : Type 0} (kept : ℕ → Option T) (n : ℕ) (t : T) where
  pub kept_own : kept_with kept n t n ≡ some t
  kept_own = rw (eq-eqb n n refl)

  pub kept_others : (m : ℕ) → m ≢ n → kept_with kept n t m ≡ kept m
  kept_others m d = rw (ne_eqb m n d)

  pub kept_only : (after : ℕ → Option T) → after n ≡ some t → ((m : ℕ) → m ≢ n → after m ≡ kept m) → after ≡ kept_with kept n t
  kept_only after own others = fun_ext (λ m. go m (eqb m n) refl)
    where
      go : (m : ℕ) (b : Bool) → eqb m n ≡ b → after m ≡ cond b (some t) (kept m)
      go m true e = ap after (eqb-true m n e) ∙ own
      go m false e = others m (eqb-false m n e)

-- ---- an operation, case by case

module _ {T : Type 0} (adv : Call → T → Answer × T) (room : Bool) (n : ℕ) (s : Session T) where
  pub act_keeps : (room && keep_number n) ≡ true
      → act adv room (operation_keep n) s ≡ (stored none, record { in_hand = s.in_hand; kept = kept_with s.kept n s.in_hand })
  unfolding act
  act_keeps e = rw e

  pub act_keeps_not : (room && keep_number n) ≡ false → act adv room (operation_keep n) s ≡ (stored no13, s)
  unfolding act
  act_keeps_not e = rw e

  pub act_returns : {t : T} → (room && keep_number n) ≡ true → s.kept n ≡ some t → act adv room (operation_return n) s ≡ (stored none, record { in_hand = t; kept = s.kept })
  unfolding act
  act_returns e q = rw (q, act, e)

  pub act_nothing : s.kept n ≡ none → act adv room (operation_return n) s ≡ (stored no13, s)
  unfolding act
  act_nothing q = rw (q, act)

  unstorable_some : {t : T} → (room && keep_number n) ≡ false → s.kept n ≡ some t → act adv room (operation_return n) s ≡ (stored no13, s)
  unfolding act
  unstorable_some e q = rw (q, act, e)

  pub act_returns_not : (room && keep_number n) ≡ false → act adv room (operation_return n) s ≡ (stored no13, s)
  act_returns_not e = go (s.kept n) refl
    where
      go : (o : Option T) → s.kept n ≡ o → act adv room (operation_return n) s ≡ (stored no13, s)
      go none q = act_nothing q
      go (some t) q = unstorable_some e q

-- the case that an operation is in
pub data Acts {T : Type 0} (adv : Call → T → Answer × T) (room : Bool) (s : Session T) : Operation → Type 0 where
  advancing : {c : Call} → Acts adv room s (operation_advance c)
  keeping : {n : ℕ} → (room && keep_number n) ≡ true → Acts adv room s (operation_keep n)
  not_keeping : {n : ℕ} → (room && keep_number n) ≡ false → Acts adv room s (operation_keep n)
  returning : {n : ℕ} (t : T) → (room && keep_number n) ≡ true → s.kept n ≡ some t → Acts adv room s (operation_return n)
  nothing_kept : {n : ℕ} → s.kept n ≡ none → Acts adv room s (operation_return n)
  not_returning : {n : ℕ} → (room && keep_number n) ≡ false → Acts adv room s (operation_return n)

pub acts : {T : Type 0} (adv : Call → T → Answer × T) (room : Bool) (s : Session T) (o : Operation) → Acts adv room s o
acts adv room s (operation_advance c) = advancing
acts adv room s (operation_keep n) = go (room && keep_number n) refl
  where
    go : (b : Bool) → (room && keep_number n) ≡ b → Acts adv room s (operation_keep n)
    go true e = keeping e
    go false e = not_keeping e
acts {T} adv room s (operation_return n) = go (room && keep_number n) refl (s.kept n) refl
  where
    go : (b : Bool) → (room && keep_number n) ≡ b → (o : Option T) → s.kept n ≡ o → Acts adv room s (operation_return n)
    go false e o q = not_returning e
    go true e none q = nothing_kept q
    go true e (some t) q = returning t e q

-- ---- what holds of every search in a session

pub record Every {T : Type 0} (I : T → Type 0) (s : Session T) : Type 0 where
  pub in_hand : I s.in_hand
  pub kept : (n : ℕ) (t : T) → s.kept n ≡ some t → I t

pub every_begun : {T : Type 0} (I : T → Type 0) (t : T) → I t → Every I (begun t)
every_begun I t i = record { in_hand = i; kept = λ n u e. absurd (none-ne-some u e) }

module _ {T : Type 0} (I : T → Type 0) (s : Session T) (each : Every I s) where
  pub every_advanced : (t : T) → I t → Every I (record { in_hand = t; kept = s.kept })
  every_advanced t i = record { in_hand = i; kept = each.kept }

  pub every_kept : (n : ℕ) → Every I (record { in_hand = s.in_hand; kept = kept_with s.kept n s.in_hand })
  every_kept n = record { in_hand = each.in_hand; kept = λ m t q. go m t (eqb m n) q }
    where
      go : (m : ℕ) (t : T) (b : Bool) → cond b (some s.in_hand) (s.kept m) ≡ some t → I t
      go m t true q = subst I (some-injective s.in_hand t q) each.in_hand
      go m t false q = each.kept m t q

module _ {T : Type 0} (adv : Call → T → Answer × T) (room : Bool) (I : T → Type 0) (keeps : (c : Call) (t : T) → I t → I (adv c t).1) where
  pub every_act : (o : Operation) (s : Session T) → Every I s → Every I (act adv room o s).1
  unfolding act
  every_act o s each = go o (acts adv room s o)
    where
      go : (o : Operation) → Acts adv room s o → Every I (act adv room o s).1
      go (operation_advance c) advancing = every_advanced I s each (adv c s.in_hand).1 (keeps c s.in_hand each.in_hand)
      go (operation_keep n) (keeping e) = rw (act_keeps adv room n s e) (every_kept I s each n)
      go (operation_keep n) (not_keeping e) = rw (act_keeps_not adv room n s e) each
      go (operation_return n) (returning t e q) = rw (act_returns adv room n s e q) (every_advanced I s each t (each.kept n t q))
      go (operation_return n) (nothing_kept q) = rw (act_nothing adv room n s q) each
      go (operation_return n) (not_returning e) = rw (act_returns_not adv room n s e) each

  pub every_turns : (ops : List Operation) (s : Session T) → Every I s → Every I (in_turn (act adv room) ops s).1
  every_turns [] s each = each
  every_turns (o ∷ os) s each = every_turns os (act adv room o s).1 (every_act o s each)

-- ---- two sessions that go alike: f takes the searches of the first to those of the second, as long as I holds

known_kept : {T U : Type 0} (f : T → U) (kept : ℕ → Option T) (n : ℕ) (t : T)
    → kept_with (λ m. map f (kept m)) n (f t) ≡ (λ m. map f (kept_with kept n t m))
known_kept {T} {U} f kept n t = fun_ext (λ m. go m (eqb m n))
  where
    go : (m : ℕ) (b : Bool) → cond b (some (f t)) (map f (kept m)) ≡ map f (cond b (some t) (kept m))
    go m true = refl
    go m false = refl

pub known_then : {T U W : Type 0} (g : U → W) (f : T → U) (s : Session T) → known g (known f s) ≡ known (λ t. g (f t)) s
known_then {T} {U} {W} g f s = ap (λ (kept : ℕ → Option W). record { in_hand = g (f s.in_hand); kept = kept }) (fun_ext (λ n. map-map g f (s.kept n)))

module _ {T U : Type 0} (adv : Call → T → Answer × T) (adv' : Call → U → Answer × U) (room : Bool) (f : T → U) (I : T → Type 0)
    (keeps : (c : Call) (t : T) → I t → I (adv c t).1)
    (one : (c : Call) (t : T) → I t → adv' c (f t) ≡ ((adv c t).0, f (adv c t).1)) where
  abbrev Alike : Operation → Session T → Type 0
  Alike o s = act adv' room o (known f s) ≡ ((act adv room o s).0, known f (act adv room o s).1)

  advance_alike : (c : Call) (s : Session T) → Every I s → Alike (operation_advance c) s
  unfolding act
  advance_alike c s each = rw (one c s.in_hand each.in_hand)

  keep_alike : (n : ℕ) (s : Session T) → (room && keep_number n) ≡ true → Alike (operation_keep n) s
  keep_alike n s e =
      act_keeps adv' room n (known f s) e
      ∙ ap (λ (kept : ℕ → Option U). (stored none, record { in_hand = f s.in_hand; kept = kept })) (known_kept f s.kept n s.in_hand)
      ∙ sym (ap (λ (r : Answered × Session T). (r.0, known f r.1)) (act_keeps adv room n s e))

  return_alike : (n : ℕ) (s : Session T) (t : T) → (room && keep_number n) ≡ true → s.kept n ≡ some t → Alike (operation_return n) s
  return_alike n s t e q =
      act_returns adv' room n (known f s) e (ap (map f) q)
      ∙ sym (ap (λ (r : Answered × Session T). (r.0, known f r.1)) (act_returns adv room n s e q))

  refused_alike : (o : Operation) (s : Session T) → act adv' room o (known f s) ≡ (stored no13, known f s) → act adv room o s ≡ (stored no13, s) → Alike o s
  refused_alike o s p q = p ∙ sym (ap (λ (r : Answered × Session T). (r.0, known f r.1)) q)

  pub act_alike : (o : Operation) (s : Session T) → Every I s → Alike o s
  act_alike o s each = go o (acts adv room s o)
    where
      go : (o : Operation) → Acts adv room s o → Alike o s
      go (operation_advance c) advancing = advance_alike c s each
      go (operation_keep n) (keeping e) = keep_alike n s e
      go (operation_keep n) (not_keeping e) = refused_alike (operation_keep n) s (act_keeps_not adv' room n (known f s) e) (act_keeps_not adv room n s e)
      go (operation_return n) (returning t e q) = return_alike n s t e q
      go (operation_return n) (nothing_kept q) =
          refused_alike (operation_return n) s (act_nothing adv' room n (known f s) (ap (map f) q)) (act_nothing adv room n s q)
      go (operation_return n) (not_returning e) =
          refused_alike (operation_return n) s (act_returns_not adv' room n (known f s) e) (act_returns_not adv room n s e)

  pub turns_alike : (ops : List Operation) (s : Session T) → Every I s
      → in_turn (act adv' room) ops (known f s) ≡ ((in_turn (act adv room) ops s).0, known f (in_turn (act adv room) ops s).1)
  turns_alike = in_turn_alike (act adv room) (act adv' room) (known f) (Every I) (every_act adv room I keeps) act_alike
