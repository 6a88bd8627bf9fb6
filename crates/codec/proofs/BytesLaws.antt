-- What `decode` answers, said by the bytes alone: specs/Bytes.
use Rattle.std.specs.Prelude.{ℕ, zero, suc, ◌+◌, ◌≤◌, ◌<◌, ◌≡◌, refl, ◌↔◌, ◌⊎◌, Bool, true, false, cond, List, [], ◌∷◌, length, drop, get_or, ltb}
use Rattle.std.proofs.Common.{sym, ap, ◌∙◌, subst, inl, inr, lt_of_not-le, arith, ltb-true, ltb-false}
use Rattle.std.proofs.Math.ListN.{get_or-eq_default}
use Rattle.std.specs.declared.result.Result.{Result}
use Rattle.std.specs.declared.result.Result.TheVariants.{Ok, Err}
use Rattle.codec.specs.declared.Number.{Number}
use Rattle.codec.specs.declared.Fault.{Fault}
use Rattle.codec.specs.declared.Fault.TheVariants.{Ended, Long}
use Rattle.codec.specs.Groups.{encode, value, under, final, decode_groups, decode}
use Rattle.codec.specs.Bytes.{TopBits, CutOff, TooLong, seven, not_shortest, Stands}
use Rattle.codec.proofs.NumberLaws.{AllBytes, same_value, number_read, number_back}

-- the number's last group is in byte k, with at most `more` groups before it
record Last (more : ℕ) (bs : List ℕ) (k : ℕ) : Type 0 where
  few : k ≤ more
  there : k < length bs
  follow : TopBits bs k
  low : get_or bs k 0 < 128

-- what each answer of `decode_groups more least bs` says of the bytes
abbrev Means : ℕ → ℕ → List ℕ → Result Number Fault → Type 0
Means more least bs (Err Ended) = (length bs ≤ more) × TopBits bs (length bs)
Means more least bs (Err Long) = TopBits bs (suc more) ⊎ ((k : ℕ) × Last more bs k × (1 ≤ k + least) × (get_or bs k 0 ≡ 0))
Means more least bs (Ok n) = (k : ℕ) × Last more bs k × (1 ≤ k + least → 1 ≤ get_or bs k 0)

module _ (b : ℕ) (bs : List ℕ) where
  -- a last group
  last_here : (more : ℕ) → b < 128 → Last more (b ∷ bs) 0
  last_here more h = record { few = omega arith; there = omega arith; follow = λ j l. absurd (omega arith); low = h }

  last_means : (more least : ℕ) → least ≤ 1 → b < 128 → (x : Bool) → ltb b least ≡ x → Means more least (b ∷ bs) (cond x (Err Long) (value b 1))
  last_means more least m h true e = inr (0, last_here more h, omega (arith, ltb-true b least e), omega (arith, ltb-true b least e))
  last_means more least m h false e = (0, last_here more h, λ l. omega (arith, ltb-false b least e))

  -- a group that others follow
  module _ (h : 128 ≤ b) where
    top_on : (k : ℕ) → TopBits bs k → TopBits (b ∷ bs) (suc k)
    top_on k t zero l = h
    top_on k t (suc j) l = t j (omega arith)

    last_on : (more k : ℕ) → Last more bs k → Last (suc more) (b ∷ bs) (suc k)
    last_on more k l = record { few = omega (arith, l.few); there = omega (arith, l.there); follow = top_on k l.follow; low = l.low }

    under_means : (more least : ℕ) (n : Result Number Fault) → Means more 1 bs n → Means (suc more) least (b ∷ bs) (under b n)
    unfolding under
    under_means more least (Ok n) (k, l, some) = (suc k, last_on more k l, λ _. some (omega arith))
    under_means more least (Err Ended) (few, top) = (omega arith, top_on (length bs) top)
    under_means more least (Err Long) (inl top) = inl (top_on (suc more) top)
    under_means more least (Err Long) (inr (k, l, _, e)) = inr (suc k, last_on more k l, omega arith, e)

  first_means : (more least : ℕ) (n : Result Number Fault) → least ≤ 1 → (128 ≤ b → Means more least (b ∷ bs) n) → (x : Bool) → ltb b 128 ≡ x
      → Means more least (b ∷ bs) (cond x (final least b) n)
  unfolding final
  first_means more least n m on true e = last_means more least m (ltb-true b 128 e) (ltb b least) refl
  first_means more least n m on false e = on (ltb-false b 128 e)

groups_mean : (more least : ℕ) (bs : List ℕ) → least ≤ 1 → Means more least bs (decode_groups more least bs)
unfolding decode_groups
groups_mean zero least [] m = (omega arith, λ j l. absurd (omega arith))
groups_mean (suc more) least [] m = (omega arith, λ j l. absurd (omega arith))
groups_mean zero least (b ∷ bs) m = first_means b bs zero least (Err Long) m (λ h. inl (top_on b bs h 0 (λ j l. absurd (omega arith)))) (ltb b 128) refl
groups_mean (suc more) least (b ∷ bs) m =
    first_means b bs (suc more) least (under b (decode_groups more 1 bs)) m
    (λ h. under_means b bs h more least (decode_groups more 1 bs) (groups_mean more 1 bs (omega arith))) (ltb b 128) refl

decode_means : (bs : List ℕ) → Means 6 0 bs (decode bs)
unfolding decode
decode_means bs = groups_mean 6 0 bs (omega arith)

-- ---- no two of them hold of the same bytes

module _ (bs : List ℕ) where
  -- the top bits end before a byte that has none
  ends : (k j : ℕ) → TopBits bs k → get_or bs j 0 < 128 → k ≤ j
  ends k j t l = let p : k < suc j = lt_of_not-le (λ q. absurd (omega (arith, t j q))) in omega arith

  past : get_or bs (length bs) 0 < 128
  past = let e : get_or bs (length bs) 0 ≡ 0 = get_or-eq_default bs 0 (omega arith) in omega arith

  only_cut_off : (n : Result Number Fault) → Means 6 0 bs n → CutOff bs → n ≡ Err Ended
  only_cut_off (Ok n) (k, l, _) c = absurd (omega (arith, l.there, ends (length bs) k c.more_follow l.low))
  only_cut_off (Err Ended) m c = refl
  only_cut_off (Err Long) (inl t) c = absurd (omega (arith, c.few, ends 7 (length bs) t past))
  only_cut_off (Err Long) (inr (k, l, _, _)) c = absurd (omega (arith, l.there, ends (length bs) k c.more_follow l.low))

  only_too_long : (n : Result Number Fault) → Means 6 0 bs n → TooLong bs → n ≡ Err Long
  only_too_long (Ok n) (k, l, _) (seven t) = absurd (omega (arith, l.few, ends 7 k t l.low))
  only_too_long (Ok n) (k, l, some) (not_shortest j after-others j<7 there t e) =
      let low : get_or bs j 0 < 128 = omega arith in
      let same : j ≡ k = omega (arith, ends j k t l.low, ends k j l.follow low) in
      let z = some (omega arith) in
      let y : get_or bs k 0 ≡ 0 = subst (λ (i : ℕ). get_or bs i 0 ≡ 0) same e in
      absurd (omega arith)
  only_too_long (Err Ended) (few, top) (seven t) = absurd (omega (arith, ends 7 (length bs) t past))
  only_too_long (Err Ended) (few, top) (not_shortest j _ _ there t e) = absurd (omega (arith, top j there))
  only_too_long (Err Long) m t = refl

  -- ---- the laws

  pub cut_off_when : (decode bs ≡ Err Ended) ↔ CutOff bs
  cut_off_when = (λ e. cut (subst (Means 6 0 bs) e (decode_means bs)), only_cut_off (decode bs) (decode_means bs))
    where
      cut : Means 6 0 bs (Err Ended) → CutOff bs
      cut (few, top) = record { few = omega arith; more_follow = top }

  pub too_long_when : (decode bs ≡ Err Long) ↔ TooLong bs
  too_long_when = (λ e. long (subst (Means 6 0 bs) e (decode_means bs)), only_too_long (decode bs) (decode_means bs))
    where
      long : Means 6 0 bs (Err Long) → TooLong bs
      long (inl t) = seven t
      long (inr (k, l, after-others, e)) = not_shortest k (omega arith) (omega (arith, l.few)) l.there l.follow e

  pub stands_value : (v : ℕ) (after : List ℕ) → Stands bs v after → decode bs ≡ value v (length (encode v))
  stands_value v after s = ap decode s.bytes ∙ number_read v after s.small

  pub value_stands : (v used : ℕ) → AllBytes bs → decode bs ≡ value v used → Stands bs v (drop used bs)
  value_stands v used a e = let b = number_back bs v used a e in record { small = b.1; bytes = sym b.0 }

  -- a number takes the bytes that it is written as
  pub value_used : (v used : ℕ) → AllBytes bs → decode bs ≡ value v used → used ≡ length (encode v)
  value_used v used a e = (same_value (sym e ∙ stands_value v (drop used bs) (value_stands v used a e))).1
