-- What `decode_groups` is at each return of `groups`.
use Rattle.std.specs.Prelude.{ℕ, zero, suc, ◌+◌, ◌-◌, ◌*◌, ◌^◌, ◌≤◌, ◌<◌, ◌≡◌, refl, List, [], ◌∷◌, length, get_or}
use Rattle.std.proofs.Common.{ap, ◌∙◌, le_trans, add-one, arith, lt-ltb, le-ltb, lit≤}
use Rattle.std.proofs.lemmas.Result.{err_from_is_err_and}
use Rattle.std.proofs.Math.Nat.{pow-succ', pow-le-pow_right}
use Rattle.std.specs.Result.{IsErrAnd}
use Rattle.std.specs.declared.result.Result.{Result}
use Rattle.std.specs.declared.result.Result.TheVariants.{Err}
use Rattle.codec.specs.declared.Number.{Number}
use Rattle.codec.specs.declared.Fault.{Fault}
use Rattle.codec.specs.declared.Fault.TheVariants.{Ended, Long}
use Rattle.codec.specs.Groups.{decode_groups, final, under, value}
use Rattle.codec.specs.CodeBytes.{Below}

-- what the exit of a `?` that keeps the error returns
pub passed_on : {T E : Type 0} (r : Result T E) {x : E} → IsErrAnd r (λ (e : E). e ≡ x) → r ≡ Err x
passed_on r h =
    let (y, is, same) = err_from_is_err_and r h in
    is ∙ ap Err same

-- the last group's case does not depend on how many may follow
pub last_group : (more least b : ℕ) (bs : List ℕ) → b < 128 → decode_groups more least (b ∷ bs) ≡ final least b
unfolding decode_groups
last_group zero least b bs h = simp (lt-ltb b 128 h)
last_group (suc k) least b bs h = simp (lt-ltb b 128 h)

pub at_end : (more least : ℕ) (file : List ℕ) → length file ≡ 0 → Err Ended ≡ decode_groups more least file
unfolding decode_groups
at_end zero least [] e = refl
at_end (suc k) least [] e = refl
at_end k least (b ∷ bs) e = absurd (omega arith)

-- a byte that stands first
pub first_byte : {file : List ℕ} {b : ℕ} {rest : List ℕ} → file ≡ b ∷ rest → get_or file 0 0 < 256 → b < 256
first_byte is h = rw is at h

-- the next group and what follows it
module _ (more least : ℕ) {file : List ℕ} {b : ℕ} {rest : List ℕ} (is : file ≡ b ∷ rest) where
  pub last_low : b < 128 → b < least → Err Long ≡ decode_groups more least file
  unfolding final
  last_low s l = rw (is, last_group more least b rest s, lt-ltb _ _ l) refl

  pub last_good : b < 128 → least ≤ b → value b 1 ≡ decode_groups more least file
  unfolding final
  last_good s l = rw (is, last_group more least b rest s, le-ltb _ _ l) refl

  pub too_long : 128 ≤ b → more ≡ 0 → Err Long ≡ decode_groups more least file
  unfolding decode_groups
  too_long h e = rw (is, e, le-ltb _ _ h) refl

  pub further :
      (k : ℕ) (n : Result Number Fault) → 128 ≤ b → more ≡ suc k → n ≡ decode_groups k 1 rest → under b n ≡ decode_groups more least file
  unfolding decode_groups
  further k n h e next = rw (is, e, le-ltb _ _ h, next) refl

pub below_further : (b v more k : ℕ) → b < 256 → more ≡ suc k → v < 128 ^ (k + 1) → b - 128 + 128 * v < 128 ^ (more + 1)
below_further b v more k hb e hv = rw (e, add-one, pow-succ', ← add-one k) (omega arith)

pub pow_at_least : (k : ℕ) → 128 ≤ 128 ^ (k + 1)
pow_at_least zero = omega arith
pow_at_least (suc k) = rw (add-one, pow-succ', ← add-one k) (omega (arith, pow_at_least k))

pub below_first : (more : ℕ) {b : ℕ} → b < 128 → Below more (record { value = b; used = 1 })
below_first more {b} h = (omega (arith, pow_at_least more), omega arith)

pub pow_most : (k : ℕ) → k ≤ 5 → 128 ^ (k + 1) ≤ 2 ^ 42
pow_most k h =
    let s : k + 1 ≤ 6 = omega arith in
    le_trans (pow-le-pow_right (lit≤ tt) s) (lit≤ {m = 128 ^ 6} {n = 2 ^ 42} tt)
