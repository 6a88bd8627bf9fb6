-- A number's round trips: what was written is read, and what was read is written.
use Rattle.std.specs.Prelude.{ℕ, zero, suc, ◌+◌, ◌-◌, ◌*◌, ◌/◌, ◌%◌, ◌^◌, ◌≤◌, ◌<◌, ◌≡◌, refl, Bool, true, false, cond, List, [], ◌∷◌, ◌++◌, length, drop, get_or, ltb}
use Rattle.std.proofs.Common.{sym, ap, ap₂, ◌∙◌, add-one, arith, lt-ltb, le-ltb, ltb-true, ltb-false}
use Rattle.std.proofs.Math.Nat.{pow-succ'}
use Rattle.std.specs.declared.result.Result.{Result}
use Rattle.std.specs.declared.result.Result.TheVariants.{Ok, Err}
use Rattle.codec.specs.declared.Number.{Number}
use Rattle.codec.specs.declared.Fault.{Fault}
use Rattle.codec.specs.declared.Fault.TheVariants.{Long}
use Rattle.codec.specs.Groups.{encode_groups, encode, value, under, final, decode_groups, decode}
use Rattle.codec.proofs.CodecLaws.{last_group, pow_at_least}
use Rattle.codec.proofs.EncodeLaws.{fewer}

-- ---- what was written is read

last_read : (k least v : ℕ) (rest : List ℕ) → v < 128 → least ≤ v → decode_groups k least (v ∷ rest) ≡ value v 1
unfolding final
last_read k least v rest h l = last_group k least v rest h ∙ simp (le-ltb v least l)

groups_read :
    (k least v : ℕ) (rest : List ℕ) → v < 128 ^ (k + 1) → least ≤ v → least ≤ 1 →
    decode_groups k least (encode_groups k v ++ rest) ≡ value v (length (encode_groups k v))
unfolding encode_groups decode_groups under
groups_read zero least v rest h l m = last_read 0 least v rest h l
groups_read (suc k) least v rest h l m = go (ltb v 128) refl (λ p. groups_read k 1 (v / 128) rest (fewer k v h) p (omega arith))
  where
    go : (b : Bool) → ltb v 128 ≡ b →
        (1 ≤ v / 128 → decode_groups k 1 (encode_groups k (v / 128) ++ rest) ≡ value (v / 128) (length (encode_groups k (v / 128)))) →
        decode_groups (suc k) least (cond b (v ∷ []) ((128 + v % 128) ∷ encode_groups k (v / 128)) ++ rest)
        ≡ value v (length (cond b (v ∷ []) ((128 + v % 128) ∷ encode_groups k (v / 128))))
    go true e ih = last_read (suc k) least v rest (ltb-true _ _ e) l
    go false e ih =
        let big : 128 ≤ v = ltb-false _ _ e in
        let top : 128 ≤ 128 + v % 128 = omega arith in
        let low : 128 + v % 128 - 128 + 128 * (v / 128) ≡ v = omega arith in
        simp (le-ltb (128 + v % 128) 128 top, ih (omega arith), low, add-one)

pub number_read : (v : ℕ) (rest : List ℕ) → v < 2 ^ 49 → decode (encode v ++ rest) ≡ value v (length (encode v))
unfolding encode decode
number_read v rest h = groups_read 6 0 v rest h (omega arith) (omega arith)

-- ---- what was read is written

abbrev pub AllBytes : List ℕ → Type 0
AllBytes [] = Unit
AllBytes (b ∷ bs) = (b < 256) × AllBytes bs

pub all_bytes : (bs : List ℕ) → ((i : ℕ) → get_or bs i 0 < 256) → AllBytes bs
all_bytes [] h = tt
all_bytes (b ∷ bs) h = (h 0, all_bytes bs (λ i. h (suc i)))

pub all_drop : (n : ℕ) (bs : List ℕ) → AllBytes bs → AllBytes (drop n bs)
all_drop zero bs a = a
all_drop (suc n) [] a = tt
all_drop (suc n) (b ∷ bs) a = all_drop n bs a.1

abbrev number_or : Number → Result Number Fault → Number
number_or n (Ok m) = m
number_or n (Err fault) = n

pub same_value : {v used v' used' : ℕ} → value v used ≡ value v' used' → (v ≡ v') × (used ≡ used')
same_value {v} {used} e =
    let n = ap (number_or (record { value = v; used = used })) e in
    (ap (λ (m : Number). m.value) n, ap (λ (m : Number). m.used) n)

pub no_value : {fault : Fault} {v used : ℕ} → Err fault ≡ value v used → ⊥
no_value e = cc

record Back (k least : ℕ) (bs : List ℕ) (v used : ℕ) : Type 0 where
  same : encode_groups k v ++ drop used bs ≡ bs
  small : v < 128 ^ (k + 1)
  least_is : least ≤ v

last_back :
    (k least b : ℕ) (bs : List ℕ) (v used : ℕ) → b < 128 →
    (x : Bool) → ltb b least ≡ x → cond x (Err Long) (value b 1) ≡ value v used → Back k least (b ∷ bs) v used
unfolding encode_groups
last_back k least b bs v used h true p e = absurd (no_value e)
last_back k least b bs v used h false p e =
    let s = same_value e in
    let ev : b ≡ v = s.0 in
    record {
      same = ap₂ (λ (x y : ℕ). encode_groups k x ++ drop y (b ∷ bs)) (sym ev) (sym s.1) ∙ ap (λ (l : List ℕ). l ++ bs) (one_group k);
      small = omega (arith, pow_at_least k);
      least_is = omega (arith, ltb-false b least p);
    }
  where
    one_group : (j : ℕ) → encode_groups j b ≡ b ∷ []
    one_group zero = refl
    one_group (suc j) = simp (lt-ltb b 128 h)

groups_back : (k least : ℕ) (bs : List ℕ) (v used : ℕ) → least ≤ 1 → AllBytes bs → decode_groups k least bs ≡ value v used → Back k least bs v used
unfolding decode_groups final under encode_groups
groups_back zero least [] v used m a e = absurd (no_value e)
groups_back (suc k) least [] v used m a e = absurd (no_value e)
groups_back zero least (b ∷ bs) v used m a e = go (ltb b 128) refl e
  where
    go : (x : Bool) → ltb b 128 ≡ x → cond x (cond (ltb b least) (Err Long) (value b 1)) (Err Long) ≡ value v used → Back zero least (b ∷ bs) v used
    go true p q = last_back zero least b bs v used (ltb-true _ _ p) (ltb b least) refl q
    go false p q = absurd (no_value q)
groups_back (suc k) least (b ∷ bs) v used m a e = go (ltb b 128) refl e (λ v' used'. groups_back k 1 bs v' used' (omega arith) a.1)
  where
    more : (r : Result Number Fault) → under b r ≡ value v used → 128 ≤ b → ((v' used' : ℕ) → r ≡ value v' used' → Back k 1 bs v' used') →
        Back (suc k) least (b ∷ bs) v used
    more (Ok n) q h ih =
        let r = ih n.value n.used refl in
        let s = same_value q in
        let ev : b - 128 + 128 * n.value ≡ v = s.0 in
        let d : v / 128 ≡ n.value = omega (arith, a.0, r.least_is) in
        let lo : 128 + v % 128 ≡ b = omega (arith, a.0, r.least_is) in
        let big : 128 ≤ v = omega (arith, r.least_is) in
        record {
          same = rw (le-ltb v 128 big, d, lo, ← s.1, add-one) (ap (λ (l : List ℕ). b ∷ l) r.same);
          small = rw (add-one, pow-succ', ← add-one k) (omega (arith, a.0, r.small));
          least_is = omega (arith, m, big);
        }
    more (Err fault) q h ih = absurd (no_value q)

    go : (x : Bool) → ltb b 128 ≡ x → cond x (cond (ltb b least) (Err Long) (value b 1)) (under b (decode_groups k 1 bs)) ≡ value v used →
        ((v' used' : ℕ) → decode_groups k 1 bs ≡ value v' used' → Back k 1 bs v' used') → Back (suc k) least (b ∷ bs) v used
    go true p q ih = last_back (suc k) least b bs v used (ltb-true _ _ p) (ltb b least) refl q
    go false p q ih = more (decode_groups k 1 bs) q (ltb-false _ _ p) ih

-- what is read is in at most seven groups, and its bytes are those that it is written as
pub number_back : (bs : List ℕ) (v used : ℕ) → AllBytes bs → decode bs ≡ value v used → (encode v ++ drop used bs ≡ bs) × (v < 2 ^ 49)
unfolding encode decode
number_back bs v used a e = let b = groups_back 6 0 bs v used (omega arith) a e in (b.same, b.small)
