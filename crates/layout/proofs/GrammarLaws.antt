-- Reading and checking by any grammar, a number at a time.
use Rattle.std.specs.Prelude.{ℕ, zero, suc, ◌+◌, ◌-◌, ◌≤◌, ◌<◌, ◌≡◌, refl, Bool, true, false, cond, List, [], ◌∷◌, ◌++◌, length, drop, ltb}
use Rattle.std.proofs.Common.{sym, ap, ◌∙◌, subst, append_assoc, arith, ltb-false}
use Rattle.std.specs.declared.option.Option.TheVariants.{None, Some}
use Rattle.std.specs.declared.result.Result.{Result}
use Rattle.std.specs.declared.result.Result.TheVariants.{Ok, Err}
use Rattle.refusals.specs.Refusals.{numbered}
use Rattle.layout.specs.declared.Field.{Field}
use Rattle.codec.specs.declared.Number.{Number}
use Rattle.codec.specs.declared.Fault.{Fault}
use Rattle.codec.specs.declared.Fault.TheVariants.{Ended, Long}
use Rattle.codec.specs.Groups.{value, decode, decode_groups, final, under}
use Rattle.layout.specs.Grammar.{Grammar, done, number, failed_by, fits, Read, good, bad, prepend, on_pass, on_number, read, check}
use Rattle.layout.specs.CodeWant.{wanted, after, Within, SmallField}

-- a number that fails nothing is in its range
pub in_range : (f : Field) (v : ℕ) → failed_by f v ≡ 0 → (f.least ≤ v) × (v ≤ f.most)
unfolding failed_by
in_range f v e = go (ltb v f.least) (ltb f.most v) refl refl e
  where
    go : (a b : Bool) → ltb v f.least ≡ a → ltb f.most v ≡ b → cond {A = ℕ} a 3 (cond b 3 (cond (fits f.after v) 0 4)) ≡ 0 → (f.least ≤ v) × (v ≤ f.most)
    go true b p q h = absurd (omega arith)
    go false true p q h = absurd (omega arith)
    go false false p q h = (ltb-false _ _ p, ltb-false _ _ q)

pub is_number : (g : Grammar) {f : Field} → wanted g ≡ Some f → g ≡ number f (after g)
is_number done e = absurd (cc)
is_number (number f' k) {f} e = let z : f' ≡ f = cc in ap (λ (x : Field). number x k) z

pub is_done : (g : Grammar) → wanted g ≡ None → g ≡ done
is_done done e = refl
is_done (number f k) e = absurd (cc)

pub small : (n : ℕ) (g : Grammar) → Within n g → SmallField (wanted g)
small n done h = tt
small zero (number f k) h = absurd h
small (suc n) (number f k) h = h.0

pub within_some : (n : ℕ) (g : Grammar) {f : Field} → Within n g → wanted g ≡ Some f → 0 < n
within_some n done w e = absurd (cc)
within_some zero (number f' k) w e = absurd w
within_some (suc n) (number f' k) w e = omega arith

-- there is room for the number, and for the rest after it
pub within_step :
    (n : ℕ) (g : Grammar) (f : Field) (v : ℕ) → Within n g → wanted g ≡ Some f → failed_by f v ≡ 0 →
    (0 < n) × (Within (n - 1) (after g v))
within_step n g f v h e a = go n (subst (Within n) (is_number g e) h)
  where
    go : (m : ℕ) → Within m (number f (after g)) → (0 < m) × (Within (m - 1) (after g v))
    go zero w = absurd w
    go (suc m) w =
        let r = in_range f v a in
        let q : m ≡ suc m - 1 = omega arith in
        (omega arith, subst (λ (i : ℕ). Within i (after g v)) q (w.1 v r.0 r.1))

pub prepend_nil : (r : Read) → r ≡ prepend [] r
prepend_nil (good vs) = refl
prepend_nil (bad n) = refl

pub prepend_more : (us vs : List ℕ) (r : Read) → prepend us (prepend vs r) ≡ prepend (us ++ vs) r
prepend_more us vs (good ws) = ap good (sym (append_assoc us vs ws))
prepend_more us vs (bad n) = refl

unless_no : (q at : ℕ) (r : Read) → (q ≡ 0 → ⊥) → on_pass q at r ≡ bad (numbered q at)
unless_no zero at r h = absurd (h refl)
unless_no (suc q) at r h = refl

module _ (g : Grammar) (f : Field) (at : ℕ) (bs : List ℕ) (e : wanted g ≡ Some f) where
  next : read g at bs ≡ on_number f at (decode bs) (λ v used. prepend (v ∷ []) (read (after g v) (at + used) (drop used bs)))
  unfolding read
  next = ap (λ (x : Grammar). read x at bs) (is_number g e)

  pub read_good :
      (v used : ℕ) → decode bs ≡ value v used → failed_by f v ≡ 0 →
      read g at bs ≡ prepend (v ∷ []) (read (after g v) (at + used) (drop used bs))
  read_good v used d a = next ∙ simp (d, a)

  pub read_ended : decode bs ≡ Err Ended → read g at bs ≡ bad (numbered 1 at)
  read_ended d = next ∙ simp d

  pub read_long : decode bs ≡ Err Long → read g at bs ≡ bad (numbered 2 at)
  read_long d = next ∙ simp d

  pub read_failed : (v used : ℕ) → decode bs ≡ value v used → (failed_by f v ≡ 0 → ⊥) → read g at bs ≡ bad (numbered (failed_by f v) at)
  read_failed v used d a = next ∙ simp d (unless_no (failed_by f v) at _ a)

pub read_over : (g : Grammar) (at : ℕ) (bs : List ℕ) → wanted g ≡ None → length bs ≤ 0 → read g at bs ≡ good []
unfolding read
read_over g at [] e h = ap (λ (x : Grammar). read x at []) (is_done g e)
read_over g at (b ∷ bs) e h = absurd (omega arith)

pub read_extra : (g : Grammar) (at : ℕ) (bs : List ℕ) → wanted g ≡ None → 0 < length bs → read g at bs ≡ bad (numbered 5 at)
unfolding read
read_extra g at [] e h = absurd (omega arith)
read_extra g at (b ∷ bs) e h = ap (λ (x : Grammar). read x at (b ∷ bs)) (is_done g e)

-- a number takes a byte at least, and no more than there are
abbrev Inside : List ℕ → Result Number Fault → Type 0
Inside bs (Ok n) = (0 < n.used) × (n.used ≤ length bs)
Inside bs (Err fault) = Unit

inside_cond : (x y : Bool) (b : ℕ) (bs : List ℕ) (n : Result Number Fault) → Inside (b ∷ bs) n → Inside (b ∷ bs) (cond x (cond y (Err Long) (value b 1)) n)
inside_cond true true b bs n h = tt
inside_cond true false b bs n h = (omega arith, omega arith)
inside_cond false y b bs n h = h

inside_under : (b : ℕ) (bs : List ℕ) (n : Result Number Fault) → Inside bs n → Inside (b ∷ bs) (under b n)
unfolding under
inside_under b bs (Ok n) h = (omega arith, omega arith)
inside_under b bs (Err fault) h = tt

inside_groups : (more least : ℕ) (bs : List ℕ) → Inside bs (decode_groups more least bs)
unfolding decode_groups final
inside_groups zero least [] = tt
inside_groups (suc more) least [] = tt
inside_groups zero least (b ∷ bs) = inside_cond (ltb b 128) (ltb b least) b bs (Err Long) tt
inside_groups (suc more) least (b ∷ bs) =
    inside_cond (ltb b 128) (ltb b least) b bs (under b (decode_groups more 1 bs)) (inside_under b bs (decode_groups more 1 bs) (inside_groups more 1 bs))

pub inside : (bs : List ℕ) (v used : ℕ) → decode bs ≡ value v used → (0 < used) × (used ≤ length bs)
unfolding decode
inside bs v used d = subst (Inside bs) d (inside_groups 6 0 bs)

module _ (g : Grammar) (f : Field) (i : ℕ) (e : wanted g ≡ Some f) where
  pub check_good :
      (v : ℕ) (vs : List ℕ) → failed_by f v ≡ 0 → check g i (v ∷ vs) ≡ prepend (v ∷ []) (check (after g v) (i + 1) vs)
  unfolding check
  check_good v vs a = ap (λ (x : Grammar). check x i (v ∷ vs)) (is_number g e) ∙ simp a

  pub check_failed : (v : ℕ) (vs : List ℕ) → (failed_by f v ≡ 0 → ⊥) → check g i (v ∷ vs) ≡ bad (numbered (failed_by f v) i)
  unfolding check
  check_failed v vs a = ap (λ (x : Grammar). check x i (v ∷ vs)) (is_number g e) ∙ unless_no (failed_by f v) i _ a

  pub check_missing : check g i [] ≡ bad (numbered 1 i)
  unfolding check
  check_missing = ap (λ (x : Grammar). check x i []) (is_number g e)

pub check_ended : (g : Grammar) (i : ℕ) → wanted g ≡ None → check g i [] ≡ good []
unfolding check
check_ended g i e = ap (λ (x : Grammar). check x i []) (is_done g e)

pub check_extra : (g : Grammar) (i v : ℕ) (vs : List ℕ) → wanted g ≡ None → check g i (v ∷ vs) ≡ bad (numbered 5 i)
unfolding check
check_extra g i v vs e = ap (λ (x : Grammar). check x i (v ∷ vs)) (is_done g e)
