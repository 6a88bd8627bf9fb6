-- What an accepted list of numbers is, for any grammar.
use Rattle.std.specs.Prelude.{ℕ, zero, suc, ◌+◌, ◌^◌, ◌≤◌, ◌<◌, ◌≡◌, refl, List, [], ◌∷◌, length, get_or, drop}
use Rattle.std.proofs.Common.{ap, ◌∙◌, arith}
use Rattle.std.specs.declared.result.Result.{Result}
use Rattle.std.specs.declared.result.Result.TheVariants.{Ok, Err}
use Rattle.codec.specs.declared.Number.{Number}
use Rattle.codec.specs.declared.Fault.{Fault}
use Rattle.codec.specs.declared.Fault.TheVariants.{Ended, Long}
use Rattle.codec.specs.Groups.{decode}
use Rattle.layout.specs.declared.Field.{Field}
use Rattle.layout.specs.Grammar.{Grammar, done, number, failed_by, Read, good, bad, prepend, on_pass, on_number, read, check}
use Rattle.layout.specs.CodeWant.{Within}
use Rattle.layout.proofs.GrammarLaws.{in_range}

-- every number fits seven groups
abbrev pub AllSmall : List ℕ → Type 0
AllSmall [] = Unit
AllSmall (w ∷ ws) = (w < 2 ^ 49) × AllSmall ws

pub small_at : (ws : List ℕ) (i : ℕ) → AllSmall ws → i < length ws → get_or ws i 0 < 2 ^ 49
small_at [] i h l = absurd (omega arith)
small_at (w ∷ ws) zero h l = h.0
small_at (w ∷ ws) (suc i) h l = small_at ws i h.1 (omega arith)

-- what a number's questions let through
let_through : (q at v : ℕ) (r : Read) (vs : List ℕ) → on_pass q at (prepend (v ∷ []) r) ≡ good vs → (q ≡ 0) × ((us : List ℕ) × (r ≡ good us) × (vs ≡ v ∷ us))
let_through zero at v (good us) vs e = (refl, (us, refl, (cc)))
let_through zero at v (bad n) vs e = absurd (cc)
let_through (suc q) at v r vs e = absurd (cc)

-- a number, and what is left after it
pub first_let_through :
    (f : Field) (k : ℕ → Grammar) (i w : ℕ) (ws vs : List ℕ) → check (number f k) i (w ∷ ws) ≡ good vs
    → (failed_by f w ≡ 0) × ((us : List ℕ) × (check (k w) (i + 1) ws ≡ good us) × (vs ≡ w ∷ us))
unfolding check
first_let_through f k i w ws vs e = let_through (failed_by f w) i w (check (k w) (i + 1) ws) vs e

pub record Accepted (n : ℕ) (ws vs : List ℕ) : Type 0 where
  pub same : vs ≡ ws
  pub few : length ws ≤ n
  pub small : AllSmall ws

pub accepted : (g : Grammar) (n i : ℕ) (ws vs : List ℕ) → Within n g → check g i ws ≡ good vs → Accepted n ws vs
unfolding check
accepted done n i [] vs h e = record { same = cc; few = omega arith; small = tt }
accepted done n i (w ∷ ws) vs h e = absurd (cc)
accepted (number f k) n i [] vs h e = absurd (cc)
accepted (number f k) zero i (w ∷ ws) vs h e = absurd h
accepted (number f k) (suc n) i (w ∷ ws) vs h e =
    let t = first_let_through f k i w ws vs e in
    let r = in_range f w t.0 in
    let a = accepted (k w) n (i + 1) ws t.1.0 (h.1 w r.0 r.1) t.1.1 in
    record {
      same = t.1.2 ∙ ap (λ (l : List ℕ). w ∷ l) a.same;
      few = omega (arith, a.few);
      small = (omega (arith, h.0), a.small);
    }

-- what a reading lets through passes the questions of a list of numbers, whatever the bytes
pub read_checked : (g : Grammar) (at i : ℕ) (bs ws : List ℕ) → read g at bs ≡ good ws → check g i ws ≡ good ws
unfolding read check
read_checked done at i [] ws e = ap (check done i) (let n : ws ≡ [] = cc in n) ∙ e
read_checked done at i (b ∷ bs) ws e = absurd (cc)
read_checked (number f k) at i bs ws e = go (decode bs) refl e (λ v used us. read_checked (k v) (at + used) (i + 1) (drop used bs) us)
  where
    passed : (v : ℕ) (us : List ℕ) → failed_by f v ≡ 0 → check (k v) (i + 1) us ≡ good us → check (number f k) i (v ∷ us) ≡ good (v ∷ us)
    passed v us q h = rw (q, h)

    go : (n : Result Number Fault) → decode bs ≡ n → on_number f at n (λ v used. prepend (v ∷ []) (read (k v) (at + used) (drop used bs))) ≡ good ws
        → ((v used : ℕ) (us : List ℕ) → read (k v) (at + used) (drop used bs) ≡ good us → check (k v) (i + 1) us ≡ good us) → check (number f k) i ws ≡ good ws
    go (Ok n) d x on =
        let l = let_through (failed_by f n.value) at n.value (read (k n.value) (at + n.used) (drop n.used bs)) ws x in
        rw l.1.2 (passed n.value l.1.0 l.0 (on n.value n.used l.1.0 l.1.1))
    go (Err Ended) d x on = absurd (cc)
    go (Err Long) d x on = absurd (cc)
