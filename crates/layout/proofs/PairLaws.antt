-- What a yes says of the numbers after the days: the pairs' count, and each pair's first day.
use Rattle.std.specs.Prelude.{ℕ, zero, suc, ◌+◌, ◌-◌, ◌≤◌, ◌<◌, ◌≡◌, Bool, true, false, cond, List, [], ◌∷◌, length, get_or, ltb, eqb}
use Rattle.std.proofs.Common.{arith}
use Rattle.layout.specs.declared.Head.{Head}
use Rattle.layout.specs.Grammar.{Grammar, done, number, good, check}
use Rattle.layout.specs.Layout.{range, since, pairs, pairs_most, two}
use Rattle.layout.proofs.GrammarLaws.{in_range}
use Rattle.layout.proofs.AcceptLaws.{first_let_through}

pub pairs_few : (n : ℕ) → pairs_most n ≤ 10
pairs_few n = go (eqb n 1)
  where
    go : (b : Bool) → cond {A = ℕ} b 0 10 ≤ 10
    go true = omega arith
    go false = omega arith

-- the first day that stands at j is there, and it is one of a pair
pub record FirstDay (n before j : ℕ) (ws : List ℕ) : Type 0 where
  pub there : j < length ws
  pub above : before < get_or ws j 0
  pub inside : get_or ws j 0 ≤ n - 1

first_day : (h : Head) (k before i : ℕ) (ws vs : List ℕ) → check (pairs h k before) i ws ≡ good vs → (j : ℕ) → j < k → FirstDay h.n before j ws
unfolding check
first_day h zero before i ws vs e j l = absurd (omega arith)
first_day h (suc k) before i [] vs e j l = absurd (cc)
first_day h (suc k) before i (w ∷ ws) vs e zero l =
    let t = first_let_through (range (before + 1) (h.n - 1)) (pairs h k) i w ws vs e in
    let r = in_range (range (before + 1) (h.n - 1)) w t.0 in
    record { there = omega arith; above = omega (arith, r.0); inside = r.1 }
first_day h (suc k) before i (w ∷ ws) vs e (suc j) l =
    let t = first_let_through (range (before + 1) (h.n - 1)) (pairs h k) i w ws vs e in
    let r = in_range (range (before + 1) (h.n - 1)) w t.0 in
    let d = first_day h k w (i + 1) ws t.1.0 t.1.1 j (omega arith) in
    record { there = omega (arith, d.there); above = omega (arith, r.0, d.above); inside = d.inside }

-- as many pairs as the first number says, none where there is no number
pub record Paired (n : ℕ) (ws : List ℕ) : Type 0 where
  pub few : get_or ws 0 0 ≤ 10
  pub each : (k : ℕ) → 1 ≤ k → k ≤ get_or ws 0 0 → FirstDay n 0 k ws

none_paired : (n : ℕ) → Paired n []
none_paired n = record { few = omega arith; each = λ k l m. absurd (omega arith) }

some_paired : (h : Head) (i c : ℕ) (ws vs : List ℕ) → c ≤ pairs_most h.n → check (pairs h c 0) i ws ≡ good vs → Paired h.n (c ∷ ws)
some_paired h i c ws vs l e = record { few = omega (arith, pairs_few h.n); each = each_of }
  where
    each_of : (k : ℕ) → 1 ≤ k → k ≤ c → FirstDay h.n 0 k (c ∷ ws)
    each_of zero p q = absurd (omega arith)
    each_of (suc k) p q =
        let d = first_day h c 0 i ws vs e k (omega arith) in
        record { there = omega (arith, d.there); above = d.above; inside = d.inside }

-- what stands from an edition on is there, or nothing is
since_there : (from : ℕ) (h : Head) (g : Grammar) (i : ℕ) (ws vs : List ℕ) (P : List ℕ → Type 0)
    → P [] → (check g i ws ≡ good vs → P ws) → check (since from h g) i ws ≡ good vs → P ws
unfolding check
since_there from h g i ws vs P none some e = go (ltb h.edition from) ws some e
  where
    go : (b : Bool) (us : List ℕ) → (check g i us ≡ good vs → P us) → check (cond b done g) i us ≡ good vs → P us
    go true [] f q = none
    go true (u ∷ us) f q = absurd (cc)
    go false us f q = f q

counted_paired : (h : Head) (i : ℕ) (ws vs : List ℕ) → check (number (range 0 (pairs_most h.n)) (λ k. pairs h k 0)) i ws ≡ good vs → Paired h.n ws
unfolding check
counted_paired h i [] vs e = absurd (cc)
counted_paired h i (c ∷ ws) vs e =
    let t = first_let_through (range 0 (pairs_most h.n)) (λ k. pairs h k 0) i c ws vs e in
    some_paired h (i + 1) c ws t.1.0 (in_range (range 0 (pairs_most h.n)) c t.0).1 t.1.1

pub paired : (h : Head) (i : ℕ) (ws vs : List ℕ) → check (two h) i ws ≡ good vs → Paired h.n ws
paired h i ws vs e = since_there 2 h _ i ws vs (Paired h.n) (none_paired h.n) (counted_paired h i ws vs) e
