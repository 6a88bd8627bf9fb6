-- Questions in order: the first no of several.
use Rattle.std.specs.Prelude.{ℕ, Bool, true, false, ◌≡◌, refl}
use Rattle.std.proofs.Common.{sym, ap, ◌∙◌, arith}
use Rattle.std.proofs.Math.Option.{Option, none, some}
use Rattle.std.specs.declared.result.Result.{Result}
use Rattle.std.specs.declared.result.Result.TheVariants.{Ok, Err}
use Rattle.refusals.specs.declared.Refusal.{Refusal}
use Rattle.refusals.specs.Refusals.{refusal_in, answer_by, unless, first}

-- where a question that code asked is a no, and where it is a yes
module _ {X : Type 0} {a : Result X Refusal} {A : Option Refusal} (B : Option Refusal) (asked : refusal_in a ≡ A) where
  pub first_no_lem : {n : Refusal} → a ≡ Err n → some n ≡ first A B
  first_no_lem e = let q : A ≡ some _ = sym asked ∙ ap refusal_in e in rw q

  pub first_yes : {x : X} → a ≡ Ok x → B ≡ first A B
  first_yes e = let q : A ≡ none = sym asked ∙ ap refusal_in e in rw q

pub first_assoc : (a b c : Option Refusal) → first (first a b) c ≡ first a (first b c)
first_assoc none b c = refl
first_assoc (some n) b c = refl

pub first_last : (a : Option Refusal) → first a none ≡ a
first_last none = refl
first_last (some n) = refl

-- none refuses only where neither does
pub first_none : (a b : Option Refusal) → first a b ≡ none → (a ≡ none) × (b ≡ none)
first_none none b e = (refl, e)
first_none (some n) b e = (e, let z : ◌≡◌ {A = ℕ} 0 1 = cc in absurd (omega arith))

pub unless_none : (b : Bool) (q i : ℕ) → unless b q i ≡ none → b ≡ true
unless_none true q i e = refl
unless_none false q i e = let z : ◌≡◌ {A = ℕ} 0 1 = cc in absurd (omega arith)

pub refusal_path : (n m : Refusal) → n.question ≡ m.question → n.place ≡ m.place → n ≡ m
refusal_path n m q p = λ i. record { question = q i; place = p i }

-- the refusal in the answer with this refusal
pub refusal_back : (o : Option Refusal) → refusal_in (answer_by o) ≡ o
refusal_back none = refl
refusal_back (some n) = refl
