-- A nurse's own patterns: her list has exactly these, in order; it is what of the common list, with the ward's pairs, is hers.
use Rattle.std.specs.Prelude.{◌≡◌, refl, Bool, true, false, cond, ◌&&◌, ◌||◌, List, [], ◌∷◌, ◌++◌, map, ℕ, zero, suc, ◌^◌, ◌≤◌, ◌<◌, ltb, eqb, length, get_or}
use Rattle.std.proofs.Common.{sym, ap, ap₂, ◌∙◌, subst, append-nil, append_assoc, suc-le-suc, not-suc-le-zero, le_of_suc-le-suc, arith, eqb-true, eq-eqb}
use Rattle.std.proofs.lemmas.Bool.{eqb-false, and_parts}
use Rattle.std.proofs.Math.Bool.{and-true}
use Rattle.numbers.specs.Range.{up_from, filter, any_of, Ascending, At, Exactly}
use Rattle.numbers.specs.Patterns.{pattern, days_of, pair_of}
use Rattle.numbers.proofs.RangeLaws.{range_below, filter_append, filter_each, filter_same, ascending_nil, ascending_cons}
use Rattle.numbers.proofs.MemberLaws.{Each, each_append, each_map, at_first, at_second, at_map, at_range, ascending_range, ascending_head, ascending_tail, ascending_append, ascending_map, kept_exactly, kept_none, kept_map, some_kept, any_append, any_map, any_each, any_both}
use Rattle.numbers.proofs.PatternLaws.{days_of_pattern, pair_of_pattern, back, fewer_days, lower_pair}
use Rattle.fields.specs.Fields.{days, block, pair_count}
use Rattle.fields.specs.Rules.{rules_of}
use Rattle.rows.specs.Rows.{allow_table}
use Rattle.rows.specs.Pairs.{pair_numbers, pair_fits}
use Rattle.rows.proofs.PairLaws.{fits_none, fits_most, fits_some}
use Rattle.nights.specs.Nights.{in_common, common, common_of}
use Rattle.nights.specs.Hers.{hers_of, meets_hers_of, night_list}
use Rattle.nights.specs.Own.{own_pattern, has_pair, with_pairs, pattern_list}
use Rattle.nights.proofs.ListLaws.{hers_below, hers_common, hers_of_common, false_here}

-- ---- the pair numbers of a ward

-- they are 0 alone, or those from 1 to the count
by_count : (P : List ℕ → Type 0) (w : List ℕ) → (pair_count w ≡ 0 → P (0 ∷ [])) → ((pair_count w ≡ 0 → ⊥) → P (up_from 1 (pair_count w))) → P (pair_numbers w)
unfolding pair_numbers
by_count P w f g = go (eqb (pair_count w) 0) refl
  where
    go : (b : Bool) → eqb (pair_count w) 0 ≡ b → P (cond (eqb (pair_count w) 0) (0 ∷ []) (up_from 1 (pair_count w)))
    go true e = rw e (f (eqb-true (pair_count w) 0 e))
    go false e = rw e (g (eqb-false (pair_count w) 0 e))

pub pair_numbers_none : (w : List ℕ) → pair_count w ≡ 0 → pair_numbers w ≡ 0 ∷ []
pair_numbers_none w e = by_count (λ ks. ks ≡ 0 ∷ []) w (λ q. refl) (λ f. absurd (f e))

pub pair_numbers_some : (w : List ℕ) → (pair_count w ≡ 0 → ⊥) → pair_numbers w ≡ up_from 1 (pair_count w)
pair_numbers_some w f = by_count (λ ks. ks ≡ up_from 1 (pair_count w)) w (λ e. absurd (f e)) (λ g. refl)

pub pair_number_small : (w : List ℕ) (j : ℕ) → j < length (pair_numbers w) → get_or (pair_numbers w) j 0 ≤ pair_count w
pair_number_small w = by_count (Each (λ k. k ≤ pair_count w)) w (λ e. alone) (λ f j l. omega (arith, (range_below 1 (pair_count w) j l).1))
  where
    alone : Each (λ k. k ≤ pair_count w) (0 ∷ [])
    alone zero l = omega arith
    alone (suc j) l = absurd (omega arith)

pub pair_numbers_ascending : (w : List ℕ) → Ascending (pair_numbers w)
pair_numbers_ascending w = by_count Ascending w (λ e. ascending_cons 0 [] (λ k h. absurd (not-suc-le-zero h)) ascending_nil) (λ f. ascending_range 1 (pair_count w))

-- a pair that is hers is one of them
pub fits_in : (w : List ℕ) (i p k : ℕ) → pair_fits w i p k ≡ true → At (pair_numbers w) k
fits_in w i p k e =
    let most = fits_most w i p k e in
    by_count (λ ks. At ks k) w
    (λ q. record { place = 0; inside = omega arith; there = omega arith })
    (λ f. at_range 1 (pair_count w) k (omega (arith, fits_some w i p k e f)) (omega arith))

-- ---- night patterns with every pair number

pub with_pairs_one : (w : List ℕ) (p : ℕ) → with_pairs w (p ∷ []) ≡ map (pattern p) (pair_numbers w)
unfolding with_pairs
with_pairs_one w p = append-nil (map (pattern p) (pair_numbers w))

pub with_pairs_append : (w xs ys : List ℕ) → with_pairs w (xs ++ ys) ≡ with_pairs w xs ++ with_pairs w ys
unfolding with_pairs
with_pairs_append w [] ys = refl
with_pairs_append w (p ∷ xs) ys =
    ap (λ (l : List ℕ). map (pattern p) (pair_numbers w) ++ l) (with_pairs_append w xs ys)
    ∙ sym (append_assoc (map (pattern p) (pair_numbers w)) (with_pairs w xs) (with_pairs w ys))

pub with_pairs_each : (P : ℕ → Type 0) (w ps : List ℕ) → Each (λ p. Each (λ k. P (pattern p k)) (pair_numbers w)) ps → Each P (with_pairs w ps)
unfolding with_pairs
with_pairs_each P w [] f k h = absurd (not-suc-le-zero h)
with_pairs_each P w (p ∷ ps) f k h =
    each_append P (map (pattern p) (pair_numbers w)) (with_pairs w ps) (each_map P (pattern p) (pair_numbers w) (f 0 (omega arith)))
    (with_pairs_each P w ps (λ j l. f (suc j) (suc-le-suc l))) k h

with_pairs_at : (w ps : List ℕ) (k : ℕ) → At (pair_numbers w) k → (j : ℕ) → j < length ps → At (with_pairs w ps) (pattern (get_or ps j 0) k)
unfolding with_pairs
with_pairs_at w [] k a j h = absurd (not-suc-le-zero h)
with_pairs_at w (p ∷ ps) k a zero h = at_first (map (pattern p) (pair_numbers w)) (with_pairs w ps) (pattern p k) (at_map (pattern p) (pair_numbers w) k a)
with_pairs_at w (p ∷ ps) k a (suc j) h =
    at_second (map (pattern p) (pair_numbers w)) (with_pairs w ps) (pattern (get_or ps j 0) k) (with_pairs_at w ps k a j (le_of_suc-le-suc h))

pub with_pairs_in : (w ps : List ℕ) (p k : ℕ) → At ps p → At (pair_numbers w) k → At (with_pairs w ps) (pattern p k)
with_pairs_in w ps p k a b = subst (λ (q : ℕ). At (with_pairs w ps) (pattern q k)) a.there (with_pairs_at w ps k b a.place a.inside)

module _ (w : List ℕ) (few : pair_count w < 2 ^ 32) where
  pub pair_number_lt : Each (λ k. k < 2 ^ 32) (pair_numbers w)
  pair_number_lt j l = omega (arith, pair_number_small w j l)

  pub with_pairs_ascending : (ps : List ℕ) → Ascending ps → Ascending (with_pairs w ps)
  unfolding with_pairs
  with_pairs_ascending [] up = ascending_nil
  with_pairs_ascending (p ∷ ps) up =
      ascending_append (map (pattern p) (pair_numbers w)) (with_pairs w ps)
      (ascending_map (pattern p) (lower_pair p) (pair_numbers w) (pair_numbers_ascending w))
      (with_pairs_ascending ps (ascending_tail p ps up))
      (each_map (λ x. Each (λ y. x < y) (with_pairs w ps)) (pattern p) (pair_numbers w) (λ j l. (
      with_pairs_each (λ y. pattern p (get_or (pair_numbers w) j 0) < y) w ps (λ m h k g. (
      fewer_days p (get_or ps m 0) (get_or (pair_numbers w) j 0) (get_or (pair_numbers w) k 0) (pair_number_lt j l) (ascending_head p ps up m h))))))

-- a test of patterns that no pair passes where the night pattern fails another one
pub with_pairs_kept : (t u : ℕ → Bool) (w : List ℕ) → ((p : ℕ) → u p ≡ false → Each (λ k. t (pattern p k) ≡ false) (pair_numbers w))
    → (ps : List ℕ) → filter t (with_pairs w (filter u ps)) ≡ filter t (with_pairs w ps)
unfolding with_pairs filter
with_pairs_kept t u w f [] = refl
with_pairs_kept t u w f (p ∷ ps) = go (u p) refl (with_pairs_kept t u w f ps)
  where
    here : List ℕ
    here = map (pattern p) (pair_numbers w)

    go : (b : Bool) → u p ≡ b → filter t (with_pairs w (filter u ps)) ≡ filter t (with_pairs w ps)
        → filter t (with_pairs w (cond (u p) (p ∷ filter u ps) (filter u ps))) ≡ filter t (here ++ with_pairs w ps)
    go true e q = rw e (filter_append t here (with_pairs w (filter u ps)) ∙ ap (λ (l : List ℕ). filter t here ++ l) q ∙ sym (filter_append t here (with_pairs w ps)))
    go false e q =
        rw e (q ∙ sym (filter_append t here (with_pairs w ps) ∙ ap (λ (l : List ℕ). l ++ filter t (with_pairs w ps)) (kept_none t here (each_map (λ c. t c ≡ false) (pattern p) (pair_numbers w) (f p e)))))

-- ---- her list

pub own_at : (w : List ℕ) (i p k : ℕ) → k < 2 ^ 32 → own_pattern w i (pattern p k) ≡ (hers_of w i p && pair_fits w i p k)
unfolding own_pattern
own_at w i p k h = ap₂ (λ (q j : ℕ). hers_of w i q && pair_fits w i q j) (days_of_pattern p k h) (pair_of_pattern p k h)

module _ (w : List ℕ) (i : ℕ) (few : pair_count w < 2 ^ 32) where
  own_in : (c : ℕ) → own_pattern w i c ≡ true → At (with_pairs w (up_from 0 (2 ^ days w))) c
  unfolding own_pattern
  own_in c e =
      let a = and_parts (hers_of w i (days_of c)) (pair_fits w i (days_of c) (pair_of c)) e in
      subst (At (with_pairs w (up_from 0 (2 ^ days w)))) (back c)
      (with_pairs_in w (up_from 0 (2 ^ days w)) (days_of c) (pair_of c)
      (at_range 0 (2 ^ days w) (days_of c) (omega arith) (omega (arith, hers_below w i (days_of c) a.0)))
      (fits_in w i (days_of c) (pair_of c) a.1))

  -- it has exactly her own patterns, each once, by ascending number
  pub own_exactly : Exactly (own_pattern w i) (pattern_list w i)
  unfolding pattern_list
  own_exactly =
      kept_exactly (own_pattern w i) (with_pairs w (up_from 0 (2 ^ days w))) (with_pairs_ascending w few (up_from 0 (2 ^ days w)) (ascending_range 0 (2 ^ days w))) own_in

  pub own_ascending : Ascending (pattern_list w i)
  own_ascending = own_exactly.ascending

  -- it is what of the common list, with the pairs, is hers
  own_not : (p : ℕ) → in_common (rules_of w) (days w) p ≡ false → Each (λ k. own_pattern w i (pattern p k) ≡ false) (pair_numbers w)
  own_not p e j l =
      own_at w i p (get_or (pair_numbers w) j 0) (pair_number_lt w few j l)
      ∙ ap (λ (b : Bool). b && pair_fits w i p (get_or (pair_numbers w) j 0)) (false_here (hers_of w i p) (λ h. sym e ∙ hers_common allow_table (rules_of w) (days w) (block w i) p h))

  pub own_of_common : pattern_list w i ≡ filter (own_pattern w i) (with_pairs w (common_of w))
  unfolding pattern_list common
  own_of_common = sym (with_pairs_kept (own_pattern w i) (in_common (rules_of w) (days w)) w own_not (up_from 0 (2 ^ days w)))

  meets_at : (c j : ℕ) → j < length (common_of w) → days_of c ≡ get_or (common_of w) j 0 → own_pattern w i c ≡ (meets_hers_of w i (days_of c) && pair_fits w i (days_of c) (pair_of c))
  unfolding own_pattern
  meets_at c j l e =
      ap (λ (b : Bool). b && pair_fits w i (days_of c) (pair_of c)) (subst (λ (p : ℕ). hers_of w i p ≡ meets_hers_of w i p) (sym e) (hers_of_common w i j l))

  -- and what of it meets what is hers
  pub own_meets : pattern_list w i ≡ filter (λ c. meets_hers_of w i (days_of c) && pair_fits w i (days_of c) (pair_of c)) (with_pairs w (common_of w))
  own_meets =
      own_of_common
      ∙ filter_each (own_pattern w i) (λ c. meets_hers_of w i (days_of c) && pair_fits w i (days_of c) (pair_of c)) (with_pairs w (common_of w))
      (with_pairs_each (λ c. own_pattern w i c ≡ (meets_hers_of w i (days_of c) && pair_fits w i (days_of c) (pair_of c))) w (common_of w) (λ j l m h. (
      meets_at (pattern (get_or (common_of w) j 0) (get_or (pair_numbers w) m 0)) j l (days_of_pattern (get_or (common_of w) j 0) (get_or (pair_numbers w) m 0) (pair_number_lt w few m h)))))

  any_own : (ps : List ℕ) → any_of (own_pattern w i) (with_pairs w ps) ≡ any_of (λ p. hers_of w i p && has_pair w i p) ps
  unfolding with_pairs any_of has_pair
  any_own [] = refl
  any_own (p ∷ ps) =
      any_append (own_pattern w i) (map (pattern p) (pair_numbers w)) (with_pairs w ps)
      ∙ ap₂ (λ (a b : Bool). a || b)
      (any_map (own_pattern w i) (pattern p) (pair_numbers w)
      ∙ any_each (λ k. own_pattern w i (pattern p k)) (λ k. hers_of w i p && pair_fits w i p k) (pair_numbers w) (λ j l. own_at w i p (get_or (pair_numbers w) j 0) (pair_number_lt w few j l))
      ∙ any_both (hers_of w i p) (pair_fits w i p) (pair_numbers w))
      (any_own ps)

  -- she has a pattern exactly where under a night pattern of hers some pair is hers
  pub own_some : ltb 0 (length (pattern_list w i)) ≡ ltb 0 (length (filter (λ p. hers_of w i p && has_pair w i p) (common_of w)))
  own_some =
      ap (λ (l : List ℕ). ltb 0 (length l)) own_of_common ∙ some_kept (own_pattern w i) (with_pairs w (common_of w)) ∙ any_own (common_of w)
      ∙ sym (some_kept (λ p. hers_of w i p && has_pair w i p) (common_of w))

-- ---- in a ward without pairs

pub with_pairs_none : (w ps : List ℕ) → pair_count w ≡ 0 → with_pairs w ps ≡ map (λ p. pattern p 0) ps
unfolding with_pairs
with_pairs_none w [] e = refl
with_pairs_none w (p ∷ ps) e = rw (pair_numbers_none w e, with_pairs_none w ps e)

pub own_alone : (w : List ℕ) (i p : ℕ) → pair_count w ≡ 0 → own_pattern w i (pattern p 0) ≡ hers_of w i p
own_alone w i p e =
    own_at w i p 0 (omega arith) ∙ ap (λ (b : Bool). hers_of w i p && b) (fits_none w i p ∙ eq-eqb (pair_count w) 0 e) ∙ and-true (hers_of w i p)

pub without_pairs : (w : List ℕ) (i : ℕ) → pair_count w ≡ 0 → pattern_list w i ≡ map (λ p. pattern p 0) (night_list w i)
unfolding pattern_list night_list
without_pairs w i e =
    let range = up_from 0 (2 ^ days w) in
    ap (filter (own_pattern w i)) (with_pairs_none w range e)
    ∙ kept_map (own_pattern w i) (λ p. pattern p 0) range
    ∙ ap (map (λ p. pattern p 0)) (filter_same (λ p. own_pattern w i (pattern p 0)) (hers_of w i) (λ p. own_alone w i p e) range)
