-- The common list and a nurse's list: their order, what is in them, and hers as a part of the common one.
use Rattle.std.specs.Prelude.{◌≡◌, refl, Bool, true, false, cond, ◌||◌, ◌&&◌, List, [], ◌∷◌, ◌++◌, ℕ, ◌+◌, ◌^◌, ◌<◌, ltb, length, get_or}
use Rattle.std.proofs.Common.{sym, ap, ◌∙◌, subst, arith, length-append, get_or-append-add, ltb-true, lt-ltb}
use Rattle.std.proofs.lemmas.Bool.{and_parts}
use Rattle.std.proofs.Math.ListN.{get_or-append}
use Rattle.numbers.specs.Range.{up_from, filter, Exactly}
use Rattle.numbers.proofs.RangeLaws.{filter_append, filter_passes, filtered_below, filtered_exactly}
use Rattle.fields.specs.Fields.{days, block}
use Rattle.fields.specs.declared.rules.Rules.{Rules}
use Rattle.fields.specs.Rules.{rules_of}
use Rattle.nights.specs.Nights.{in_common, common, common_of}
use Rattle.nights.specs.CodeCommon.{Among}
use Rattle.rows.specs.Rows.{allow_table}
use Rattle.nights.specs.Hers.{hers, hers_of, meets_hers_of, night_list}

-- ---- the common list

-- each of its numbers keeps the rule and is a pattern of the month
pub common_keeps : (r : Rules) (n k : ℕ) → k < length (common r n) → in_common r n (get_or (common r n) k 0) ≡ true
unfolding common
common_keeps r n k h = filter_passes (in_common r n) (up_from 0 (2 ^ n)) k h

pub common_below : (r : Rules) (n k : ℕ) → k < length (common r n) → get_or (common r n) k 0 < 2 ^ n
unfolding common
common_below r n k h = omega (arith, (filtered_below (in_common r n) 0 (2 ^ n) k h).1)

-- the same of a list that is the ward's
pub common_at : (w list : List ℕ) (k : ℕ) → list ≡ common_of w → k < length list
    → (get_or list k 0 < 2 ^ days w) × (in_common (rules_of w) (days w) (get_or list k 0) ≡ true)
common_at w list k e l =
    let h : k < length (common_of w) = subst (λ (xs : List ℕ). k < length xs) e l in
    subst (λ (xs : List ℕ). (get_or xs k 0 < 2 ^ days w) × (in_common (rules_of w) (days w) (get_or xs k 0) ≡ true)) (sym e)
    (common_below (rules_of w) (days w) k h, common_keeps (rules_of w) (days w) k h)

-- a number is in it exactly where it is a pattern of the month and keeps the rule
pub common_exactly : (r : Rules) (n : ℕ) → Exactly (λ p. ltb p (2 ^ n) && in_common r n p) (common r n)
unfolding common
common_exactly r n =
    filtered_exactly (λ p. ltb p (2 ^ n) && in_common r n p) (in_common r n) (2 ^ n)
    (λ p e. let h = and_parts (ltb p (2 ^ n)) (in_common r n p) e in (ltb-true p (2 ^ n) h.0, h.1))
    (λ p l e. rw (lt-ltb p (2 ^ n) l) e)

-- ---- hers

-- what is hers are patterns of the month only
pub hers_below : (w : List ℕ) (i p : ℕ) → hers_of w i p ≡ true → p < 2 ^ days w
unfolding hers
hers_below w i p e = ltb-true p (2 ^ days w) (and_parts (ltb p (2 ^ days w)) _ e).0

pub list_exactly : (w : List ℕ) (i : ℕ) → Exactly (hers_of w i) (night_list w i)
unfolding night_list
list_exactly w i = filtered_exactly (hers_of w i) (hers_of w i) (2 ^ days w) (λ p e. (hers_below w i p e, e)) (λ p l e. e)

-- what is hers is in the common list
pub hers_common : (table : List (List ℕ)) (r : Rules) (n : ℕ) (b : List ℕ) (p : ℕ) → hers table r n b p ≡ true → in_common r n p ≡ true
unfolding hers
hers_common table r n b p e = (and_parts (in_common r n p) _ (and_parts (ltb p (2 ^ n)) _ e).1).0

-- and of the common list what meets hers is hers
pub hers_of_common : (w : List ℕ) (i k : ℕ) → k < length (common_of w) → hers_of w i (get_or (common_of w) k 0) ≡ meets_hers_of w i (get_or (common_of w) k 0)
unfolding hers
hers_of_common w i k h = rw (lt-ltb (get_or (common_of w) k 0) (2 ^ days w) (common_below (rules_of w) (days w) k h), common_keeps (rules_of w) (days w) k h)

-- a test that implies another keeps the same of what the other keeps
pub false_here : (t : Bool) → (t ≡ true → false ≡ true) → t ≡ false
false_here true f = sym (f refl)
false_here false f = refl

filter_within : (t u : ℕ → Bool) → ((x : ℕ) → t x ≡ true → u x ≡ true) → (xs : List ℕ) → filter t (filter u xs) ≡ filter t xs
unfolding filter
filter_within t u f [] = refl
filter_within t u f (x ∷ xs) = go (u x) refl (filter_within t u f xs)
  where
    go : (v : Bool) → u x ≡ v → filter t (filter u xs) ≡ filter t xs → filter t (cond (u x) (x ∷ filter u xs) (filter u xs)) ≡ cond (t x) (x ∷ filter t xs) (filter t xs)
    go true e q = rw (e, q)
    go false e q = rw (e, q, false_here (t x) (λ h. sym e ∙ f x h))

-- her list is what the test keeps of the common list
pub list_of_common : (w : List ℕ) (i : ℕ) → night_list w i ≡ filter (hers_of w i) (common_of w)
unfolding night_list common
list_of_common w i = sym (filter_within (hers_of w i) (in_common (rules_of w) (days w)) (hers_common allow_table (rules_of w) (days w) (block w i)) (up_from 0 (2 ^ days w)))

-- ---- whether a list has one of hers

pub some_append : (t : ℕ → Bool) (xs ys : List ℕ) → ltb 0 (length (filter t (xs ++ ys))) ≡ (ltb 0 (length (filter t xs)) || ltb 0 (length (filter t ys)))
some_append t xs ys = ap (λ (l : List ℕ). ltb 0 (length l)) (filter_append t xs ys) ∙ go (filter t xs)
  where
    go : (zs : List ℕ) → ltb 0 (length (zs ++ filter t ys)) ≡ (ltb 0 (length zs) || ltb 0 (length (filter t ys)))
    go [] = refl
    go (z ∷ zs) = rw (lt-ltb 0 (length (z ∷ (zs ++ filter t ys))) (omega arith), lt-ltb 0 (length (z ∷ zs)) (omega arith))

pub some_one : (t : ℕ → Bool) (x : ℕ) → ltb 0 (length (filter t (x ∷ []))) ≡ t x
unfolding filter
some_one t x = go (t x)
  where
    go : (v : Bool) → ltb 0 (length (cond v (x ∷ []) [])) ≡ v
    go true = refl
    go false = refl

pub some_none : (t : ℕ → Bool) → ltb 0 (length (filter t [])) ≡ false
unfolding filter
some_none t = refl

pub among_common : (r : Rules) (n : ℕ) → Among r n (common r n)
unfolding Among
among_common r n k h = (common_below r n k h, common_keeps r n k h)

pub among_first : (r : Rules) (n : ℕ) (xs ys : List ℕ) → Among r n (xs ++ ys) → Among r n xs
unfolding Among
among_first r n xs ys a k h =
    let q = a k (simp length-append (omega arith)) in
    rw (get_or-append xs ys 0 k h) at q

pub among_second : (r : Rules) (n : ℕ) (xs ys : List ℕ) → Among r n (xs ++ ys) → Among r n ys
unfolding Among
among_second r n xs ys a k h =
    let q = a (length xs + k) (simp length-append (omega arith)) in
    rw (get_or-append-add xs ys k 0) at q

-- the ways out of the walk that looks for one of hers: at a leaf, and below a day
module _ (r : Rules) (n : ℕ) (t : ℕ → Bool) (L : List ℕ) (h : Bool) where
  pub some_leaf : (x : ℕ) → L ≡ x ∷ [] → (x < 2 ^ n → in_common r n x ≡ true → h ≡ t x) → Among r n L → h ≡ ltb 0 (length (filter t L))
  unfolding Among
  some_leaf x e f a =
      let q = subst (Among r n) e a 0 (omega arith) in
      f q.0 q.1 ∙ sym (ap (λ (l : List ℕ). ltb 0 (length (filter t l))) e ∙ some_one t x)

  pub some_empty : L ≡ [] → false ≡ ltb 0 (length (filter t L))
  some_empty e = sym (ap (λ (l : List ℕ). ltb 0 (length (filter t l))) e ∙ some_none t)

  pub some_low : (A B : List ℕ) → L ≡ A ++ B → (Among r n A → h ≡ ltb 0 (length (filter t A))) → h ≡ true → Among r n L → true ≡ ltb 0 (length (filter t L))
  some_low A B e f is a =
      let low = f (among_first r n A B (subst (Among r n) e a)) in
      sym (ap (λ (l : List ℕ). ltb 0 (length (filter t l))) e ∙ some_append t A B ∙ rw (sym low ∙ is))

  pub some_high : (A B : List ℕ) (g : Bool) → L ≡ A ++ B → (Among r n A → h ≡ ltb 0 (length (filter t A))) → h ≡ false
      → (Among r n B → g ≡ ltb 0 (length (filter t B))) → Among r n L → g ≡ ltb 0 (length (filter t L))
  some_high A B g e f is k a =
      let both = subst (Among r n) e a in
      let low = f (among_first r n A B both) in
      k (among_second r n A B both) ∙ sym (ap (λ (l : List ℕ). ltb 0 (length (filter t l))) e ∙ some_append t A B ∙ rw (sym low ∙ is))

-- the walk over the whole month
pub some_of_list : (w : List ℕ) (i : ℕ) (L : List ℕ) (h : Bool) → L ≡ common_of w
    → (Among (rules_of w) (days w) L → h ≡ ltb 0 (length (filter (hers_of w i) L))) → h ≡ ltb 0 (length (night_list w i))
some_of_list w i L h e f =
    f (subst (Among (rules_of w) (days w)) (sym e) (among_common (rules_of w) (days w)))
    ∙ ap (λ (l : List ℕ). ltb 0 (length (filter (hers_of w i) l))) e ∙ ap (λ (l : List ℕ). ltb 0 (length l)) (sym (list_of_common w i))
