-- Lists of numbers that are put together, taken each to another, or of which a test keeps some: what each has, what is in, the order, and whether one passes.
use Rattle.std.specs.Prelude.{◌≡◌, refl, Bool, true, false, cond, ◌&&◌, ◌||◌, List, [], ◌∷◌, ◌++◌, map, ℕ, zero, suc, ◌+◌, ◌-◌, ◌≤◌, ◌<◌, ltb, length, get_or}
use Rattle.std.proofs.Common.{sym, ap, ap₂, ◌∙◌, subst, suc-le-suc, not-suc-le-zero, le_of_suc-le-suc, arith, length-append, get_or-append-add, lt-ltb}
use Rattle.std.proofs.lemmas.List.{length-map}
use Rattle.std.proofs.Math.Bool.{or_assoc}
use Rattle.std.proofs.Math.ListN.{get_or-append}
use Rattle.numbers.specs.Range.{up_from, filter, any_of, Ascending, At, Exactly}
use Rattle.numbers.proofs.RangeLaws.{length_range, range_at, ascending_nil, ascending_cons, ascending_once, filtered_ascending, at_here, at_front, filter_all, filter_passes}

-- each of a list has it
abbrev pub Each : (ℕ → Type 0) → List ℕ → Type 0
Each P xs = (k : ℕ) → k < length xs → P (get_or xs k 0)

-- ---- what each has

pub each_append : (P : ℕ → Type 0) (xs ys : List ℕ) → Each P xs → Each P ys → Each P (xs ++ ys)
each_append P [] ys f g k h = g k h
each_append P (x ∷ xs) ys f g zero h = f 0 (omega arith)
each_append P (x ∷ xs) ys f g (suc k) h = each_append P xs ys (λ j l. f (suc j) (suc-le-suc l)) g k (le_of_suc-le-suc h)

pub each_map : (P : ℕ → Type 0) (f : ℕ → ℕ) (xs : List ℕ) → Each (λ x. P (f x)) xs → Each P (map f xs)
each_map P f [] g k h = absurd (not-suc-le-zero h)
each_map P f (x ∷ xs) g zero h = g 0 (omega arith)
each_map P f (x ∷ xs) g (suc k) h = each_map P f xs (λ j l. g (suc j) (suc-le-suc l)) k (le_of_suc-le-suc h)

-- ---- what is in

pub at_first : (xs ys : List ℕ) (x : ℕ) → At xs x → At (xs ++ ys) x
at_first xs ys x a = record {
  place = a.place;
  inside = simp length-append (omega (arith, a.inside));
  there = get_or-append xs ys 0 a.place a.inside ∙ a.there;
}

pub at_second : (xs ys : List ℕ) (x : ℕ) → At ys x → At (xs ++ ys) x
at_second xs ys x a = record {
  place = length xs + a.place;
  inside = simp length-append (omega (arith, a.inside));
  there = get_or-append-add xs ys a.place 0 ∙ a.there;
}

map_at : (f : ℕ → ℕ) (xs : List ℕ) (k : ℕ) → k < length xs → get_or (map f xs) k 0 ≡ f (get_or xs k 0)
map_at f [] k h = absurd (not-suc-le-zero h)
map_at f (x ∷ xs) zero h = refl
map_at f (x ∷ xs) (suc k) h = map_at f xs k (le_of_suc-le-suc h)

pub at_map : (f : ℕ → ℕ) (xs : List ℕ) (x : ℕ) → At xs x → At (map f xs) (f x)
at_map f xs x a = record {
  place = a.place;
  inside = rw (length-map xs f) a.inside;
  there = map_at f xs a.place a.inside ∙ ap f a.there;
}

pub at_range : (a n x : ℕ) → a ≤ x → x < a + n → At (up_from a n) x
at_range a n x l h =
    let k = x - a in
    let inside : k < n = omega arith in
    let there : a + k ≡ x = omega arith in
    record { place = k; inside = rw (length_range a n) inside; there = range_at a n k inside ∙ there }

kept_at : (t : ℕ → Bool) (xs : List ℕ) (k : ℕ) → k < length xs → t (get_or xs k 0) ≡ true → At (filter t xs) (get_or xs k 0)
unfolding filter
kept_at t [] k h e = absurd (not-suc-le-zero h)
kept_at t (x ∷ xs) zero h e = at_here (t x) x (filter t xs) e
kept_at t (x ∷ xs) (suc k) h e = at_front (t x) (get_or xs k 0) x (filter t xs) (kept_at t xs k (le_of_suc-le-suc h) e)

-- one of the list that passes the test is kept
pub at_kept : (t : ℕ → Bool) (xs : List ℕ) (x : ℕ) → At xs x → t x ≡ true → At (filter t xs) x
at_kept t xs x a e = subst (At (filter t xs)) a.there (kept_at t xs a.place a.inside (ap t a.there ∙ e))

-- ---- order

pub ascending_tail : (x : ℕ) (xs : List ℕ) → Ascending (x ∷ xs) → Ascending xs
unfolding Ascending
ascending_tail x xs up j k l h = up (suc j) (suc k) (suc-le-suc l) (suc-le-suc h)

pub ascending_head : (x : ℕ) (xs : List ℕ) → Ascending (x ∷ xs) → Each (λ y. x < y) xs
unfolding Ascending
ascending_head x xs up k h = up 0 (suc k) (omega arith) (suc-le-suc h)

pub ascending_range : (a n : ℕ) → Ascending (up_from a n)
unfolding Ascending
ascending_range a n j k l h =
    let below : k < n = subst (λ (m : ℕ). k < m) (length_range a n) h in
    omega (arith, range_at a n j (omega arith), range_at a n k below)

pub ascending_append : (xs ys : List ℕ) → Ascending xs → Ascending ys → Each (λ x. Each (λ y. x < y) ys) xs → Ascending (xs ++ ys)
ascending_append [] ys up on f = on
ascending_append (x ∷ xs) ys up on f =
    ascending_cons x (xs ++ ys) (each_append (λ y. x < y) xs ys (ascending_head x xs up) (f 0 (omega arith)))
    (ascending_append xs ys (ascending_tail x xs up) on (λ k l. f (suc k) (suc-le-suc l)))

pub ascending_map : (f : ℕ → ℕ) → ((x y : ℕ) → x < y → f x < f y) → (xs : List ℕ) → Ascending xs → Ascending (map f xs)
ascending_map f m [] up = ascending_nil
ascending_map f m (x ∷ xs) up =
    ascending_cons (f x) (map f xs) (each_map (λ y. f x < y) f xs (λ k l. m x (get_or xs k 0) (ascending_head x xs up k l))) (ascending_map f m xs (ascending_tail x xs up))

pub ascending_kept : (t : ℕ → Bool) (xs : List ℕ) → Ascending xs → Ascending (filter t xs)
unfolding filter
ascending_kept t [] up = ascending_nil
ascending_kept t (x ∷ xs) up =
    filtered_ascending (t x) x (filter t xs) (filter_all (λ y. x < y) t xs (λ k l e. ascending_head x xs up k l)) (ascending_kept t xs (ascending_tail x xs up))

-- what a test keeps of an ascending list that has all that pass it is exactly those
pub kept_exactly : (t : ℕ → Bool) (xs : List ℕ) → Ascending xs → ((x : ℕ) → t x ≡ true → At xs x) → Exactly t (filter t xs)
kept_exactly t xs up f =
    let order = ascending_kept t xs up in
    record {
      every = λ x e. at_kept t xs x (f x e) e;
      only = λ x a. ap t (sym a.there) ∙ filter_passes t xs a.place a.inside;
      once = ascending_once (filter t xs) order;
      ascending = order;
    }

-- ---- what is kept

pub kept_none : (t : ℕ → Bool) (xs : List ℕ) → Each (λ x. t x ≡ false) xs → filter t xs ≡ []
unfolding filter
kept_none t [] f = refl
kept_none t (x ∷ xs) f = rw (f 0 (omega arith)) (kept_none t xs (λ k l. f (suc k) (suc-le-suc l)))

pub kept_map : (t : ℕ → Bool) (f : ℕ → ℕ) (xs : List ℕ) → filter t (map f xs) ≡ map f (filter (λ x. t (f x)) xs)
unfolding filter
kept_map t f [] = refl
kept_map t f (x ∷ xs) = rw (kept_map t f xs) (go (t (f x)) (filter (λ y. t (f y)) xs))
  where
    go : (b : Bool) (ys : List ℕ) → cond b (f x ∷ map f ys) (map f ys) ≡ map f (cond b (x ∷ ys) ys)
    go true ys = refl
    go false ys = refl

-- ---- whether one passes

length_some : (b : Bool) (x : ℕ) (xs : List ℕ) → ltb 0 (length (cond b (x ∷ xs) xs)) ≡ (b || ltb 0 (length xs))
length_some true x xs = lt-ltb 0 (length (x ∷ xs)) (omega arith)
length_some false x xs = refl

pub some_kept : (t : ℕ → Bool) (xs : List ℕ) → ltb 0 (length (filter t xs)) ≡ any_of t xs
unfolding filter any_of
some_kept t [] = refl
some_kept t (x ∷ xs) = length_some (t x) x (filter t xs) ∙ ap (λ (b : Bool). t x || b) (some_kept t xs)

pub any_append : (t : ℕ → Bool) (xs ys : List ℕ) → any_of t (xs ++ ys) ≡ (any_of t xs || any_of t ys)
unfolding any_of
any_append t [] ys = refl
any_append t (x ∷ xs) ys = ap (λ (b : Bool). t x || b) (any_append t xs ys) ∙ sym (or_assoc (t x) (any_of t xs) (any_of t ys))

pub any_map : (t : ℕ → Bool) (f : ℕ → ℕ) (xs : List ℕ) → any_of t (map f xs) ≡ any_of (λ x. t (f x)) xs
unfolding any_of
any_map t f [] = refl
any_map t f (x ∷ xs) = ap (λ (b : Bool). t (f x) || b) (any_map t f xs)

pub any_each : (t u : ℕ → Bool) (xs : List ℕ) → Each (λ x. t x ≡ u x) xs → any_of t xs ≡ any_of u xs
unfolding any_of
any_each t u [] e = refl
any_each t u (x ∷ xs) e = ap₂ (λ (a b : Bool). a || b) (e 0 (omega arith)) (any_each t u xs (λ k l. e (suc k) (suc-le-suc l)))

any_never : (xs : List ℕ) → any_of (λ x. false) xs ≡ false
unfolding any_of
any_never [] = refl
any_never (x ∷ xs) = any_never xs

-- a part of the test that is the same for each
pub any_both : (b : Bool) (t : ℕ → Bool) (xs : List ℕ) → any_of (λ x. b && t x) xs ≡ (b && any_of t xs)
any_both true t xs = refl
any_both false t xs = any_never xs
