-- Edition two beside edition one.
use Rattle.std.specs.Prelude.{ℕ, zero, suc, ◌+◌, ◌≤◌, ◌≡◌, refl, Bool, true, false, cond, List, [], ◌∷◌, drop, ltb}
use Rattle.std.proofs.Common.{ap, ◌∙◌, arith, ltb-false, le-ltb}
use Rattle.std.specs.declared.result.Result.{Result}
use Rattle.std.specs.declared.result.Result.TheVariants.{Ok, Err}
use Rattle.refusals.specs.Refusals.{numbered}
use Rattle.refusals.specs.Questions as question
use Rattle.codec.specs.declared.Number.{Number}
use Rattle.codec.specs.declared.Fault.{Fault}
use Rattle.codec.specs.declared.Fault.TheVariants.{Ended, Long}
use Rattle.codec.specs.Groups.{value, decode, decode_groups, final, under}
use Rattle.layout.specs.Grammar.{failed_by, bad, prepend, on_pass, on_number, read, check}
use Rattle.layout.specs.Layout.{range, sizes, first, ward, ward_one}
use Rattle.layout.specs.Editions.{Later, Editions}

-- ---- a number that is read as 0 is the byte 0

abbrev NotZero : Result Number Fault → Type 0
NotZero (Ok n) = 1 ≤ n.value
NotZero (Err fault) = Unit

last_some : (least b : ℕ) → (least ≤ b → 1 ≤ b) → NotZero (final least b)
unfolding final
last_some least b h = go (ltb b least) refl
  where
    go : (x : Bool) → ltb b least ≡ x → NotZero (cond x (Err Long) (value b 1))
    go true e = tt
    go false e = h (ltb-false b least e)

under_some : (b : ℕ) (n : Result Number Fault) → NotZero n → NotZero (under b n)
unfolding under
under_some b (Ok n) h = omega arith
under_some b (Err fault) h = tt

either_some : (x : Bool) (n k : Result Number Fault) → NotZero n → NotZero k → NotZero (cond x n k)
either_some true n k p q = p
either_some false n k p q = q

-- groups after the first: the shortest form has no 0 at its end
more_some : (more : ℕ) (bs : List ℕ) → NotZero (decode_groups more 1 bs)
unfolding decode_groups
more_some zero [] = tt
more_some (suc more) [] = tt
more_some zero (b ∷ bs) = either_some (ltb b 128) (final 1 b) (Err Long) (last_some 1 b (λ l. l)) tt
more_some (suc more) (b ∷ bs) =
    either_some (ltb b 128) (final 1 b) (under b (decode_groups more 1 bs)) (last_some 1 b (λ l. l)) (under_some b (decode_groups more 1 bs) (more_some more bs))

not_zero : (file : List ℕ) → (Later file → ⊥) → NotZero (decode file)
unfolding decode decode_groups
not_zero [] n = tt
not_zero (zero ∷ bs) n = absurd (n (bs, refl))
not_zero (suc b ∷ bs) n =
    either_some (ltb (suc b) 128) (final 0 (suc b)) (under (suc b) (decode_groups 5 1 bs))
    (last_some 0 (suc b) (λ _. omega arith)) (under_some (suc b) (decode_groups 5 1 bs) (more_some 5 bs))

-- ---- the two grammars on a first number that is not 0

same_failed : (v : ℕ) → failed_by (range 0 48) (suc v) ≡ failed_by (range 1 48) (suc v)
unfolding failed_by
same_failed v = simp (le-ltb (suc v) 0 (omega arith), le-ltb (suc v) 1 (omega arith))

same_reading : (file : List ℕ) (n : Result Number Fault) → NotZero n
    → on_number (range 0 48) 0 n (λ v used. prepend (v ∷ []) (read (first v) (0 + used) (drop used file)))
    ≡ on_number (range 1 48) 0 n (λ v used. prepend (v ∷ []) (read (sizes 1 v) (0 + used) (drop used file)))
same_reading file (Ok n) h = go n.value n.used h
  where
    go : (v used : ℕ) → 1 ≤ v
        → on_pass (failed_by (range 0 48) v) 0 (prepend (v ∷ []) (read (first v) (0 + used) (drop used file)))
        ≡ on_pass (failed_by (range 1 48) v) 0 (prepend (v ∷ []) (read (sizes 1 v) (0 + used) (drop used file)))
    go zero used l = absurd (omega arith)
    go (suc v) used l =
        ap (λ (q : ℕ). on_pass q 0 (prepend (suc v ∷ []) (read (sizes 1 (suc v)) (0 + used) (drop used file)))) (same_failed v)
same_reading file (Err Ended) h = refl
same_reading file (Err Long) h = refl

read_same : (file : List ℕ) → (Later file → ⊥) → read ward 0 file ≡ read ward_one 0 file
unfolding read ward ward_one
read_same file n = same_reading file (decode file) (not_zero file n)

check_same : (ws : List ℕ) → (Later ws → ⊥) → check ward 0 ws ≡ check ward_one 0 ws
unfolding check ward ward_one
check_same [] n = refl
check_same (zero ∷ ws) n = absurd (n (ws, refl))
check_same (suc w ∷ ws) n = ap (λ (q : ℕ). on_pass q 0 (prepend (suc w ∷ []) (check (sizes 1 (suc w)) (0 + 1) ws))) (same_failed w)

-- ---- a program of edition one

read_older : (rest : List ℕ) → read ward_one 0 (0 ∷ rest) ≡ bad (numbered question.range 0)
unfolding read ward_one decode decode_groups final failed_by
read_older rest = refl

check_older : (rest : List ℕ) → check ward_one 0 (0 ∷ rest) ≡ bad (numbered question.range 0)
unfolding check ward_one failed_by
check_older rest = refl

pub editions : Editions
editions = record {
  older_read = λ file l. ap (read ward_one 0) l.1 ∙ read_older l.0;
  same_read = read_same;
  older_check = λ ws l. ap (check ward_one 0) l.1 ∙ check_older l.0;
  same_check = check_same;
}
