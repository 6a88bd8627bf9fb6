-- Records and stored records stand for each other, and a stored record changes by a step as the record does.
use Rattle.std.specs.Prelude.{ℕ, zero, suc, ◌+◌, ◌-◌, ◌≤◌, ◌<◌, min, ◌≡◌, refl, Bool, true, false, cond, not, ◌&&◌, ◌||◌, List, [], ◌∷◌, ◌++◌, map, ◌↔◌, ltb, eqb, length, get_or, take, drop, set, replicate}
use Rattle.std.proofs.Common.{sym, ap, ap₂, ◌∙◌, subst, not-suc-le-zero, le_of_suc-le-suc, zero-add, add-zero, add-suc, suc-add, add-one, arith, length-set, length-take, length-append, ext_get_or, get_or-set_same, get_or-set_other, get_or-take, take_all, take_at, drop_at, length-take-le, get_or-append-add, le-ltb, ltb-true, ltb-false, eqb-true, ne_eqb}
use Rattle.std.proofs.lemmas.Bool.{false≢true, eqb-false, not-true, and_parts}
use Rattle.std.proofs.lemmas.List.{length-map, length-replicate, take-append-le, nil_from_length, take-map, get_or-map}
use Rattle.std.proofs.Math.Dec.{eqb-suc-zero}
use Rattle.std.proofs.Math.ListN.{get_or-append}
use Rattle.std.proofs.Math.Option.{none, some, some-ne-none}
use Rattle.std.proofs.Math.Path.{fun_ext}
use Rattle.std.proofs.Math.Seq.{drop-append-add}
use Rattle.fields.specs.Sizes.{nurse_places, removal_places, tabu_most}
use Rattle.numbers.specs.Range.{up_from, all}
use Rattle.numbers.proofs.RangeLaws.{length_range}
use Rattle.numbers.proofs.AllLaws.{all_each, all_if}
use Rattle.history.specs.Slot.{Slot, exchanged}
use Rattle.history.specs.Phase.{Step}
use Rattle.history.specs.Record.{Removal, Record, fresh, stepped}
use Rattle.removals.specs.Removals.{slot, removal_of, pattern_of, flag_of, stored_removal, no_removal, slot_zero, removal_zero}
use Rattle.removals.specs.CodePush.{in_front, pushed}
use Rattle.search.specs.Stored.{slot_at, held, view, padded, store, all_zero, unused_zero, Sized}
use Rattle.search.specs.CodeSteps.{removal_by, exchanged_in}
use Rattle.search.specs.declared.Record.{Record as Stored}
use Rattle.removals.specs.declared.Removal.{Removal as StoredRemoval}

-- ---- lists

get_or_range : {A : Type 0} (f : ℕ → A) (d : A) (a n i : ℕ) → i < n → get_or (map f (up_from a n)) i d ≡ f (a + i)
unfolding up_from
get_or_range f d a zero i l = absurd (not-suc-le-zero l)
get_or_range f d a (suc n) zero l = rw add-zero
get_or_range f d a (suc n) (suc i) l = get_or_range f d (suc a) n i (le_of_suc-le-suc l) ∙ ap f (suc-add a i ∙ sym (add-suc a i))

-- what is said of each number below n, at i
pub get_or_below : {A : Type 0} (f : ℕ → A) (d : A) (n i : ℕ) → i < n → get_or (map f (up_from 0 n)) i d ≡ f i
get_or_below f d n i l = get_or_range f d 0 n i l ∙ ap f (zero-add i)

length_below : {A : Type 0} (f : ℕ → A) (n : ℕ) → length (map f (up_from 0 n)) ≡ n
length_below f n = length-map (up_from 0 n) f ∙ length_range 0 n

set_below : {A : Type 0} (f : ℕ → A) (d : A) (n i : ℕ) (x : A) → i < n → set (map f (up_from 0 n)) i x ≡ map (λ j. cond (eqb j i) x (f j)) (up_from 0 n)
set_below {A} f d n i x l =
    ext_get_or d (set (map f (up_from 0 n)) i x) (map g (up_from 0 n)) (length-set (map f (up_from 0 n)) i x ∙ length_below f n ∙ sym (length_below g n)) each
  where
    g : ℕ → A
    g j = cond (eqb j i) x (f j)

    pick : (j : ℕ) → j < n → (b : Bool) → eqb j i ≡ b → get_or (set (map f (up_from 0 n)) i x) j d ≡ cond b x (f j)
    pick j h true e = rw (eqb-true j i e) (get_or-set_same (map f (up_from 0 n)) i x d (rw (length_below f n) l))
    pick j h false e = get_or-set_other (map f (up_from 0 n)) i j x d (eqb-false j i e) ∙ get_or_below f d n j h

    each : (j : ℕ) → j < length (set (map f (up_from 0 n)) i x) → get_or (set (map f (up_from 0 n)) i x) j d ≡ get_or (map g (up_from 0 n)) j d
    each j h =
        let m : j < n = omega (arith, length-set (map f (up_from 0 n)) i x, length_below f n) in
        pick j m (eqb j i) refl ∙ sym (get_or_below g d n j m)

get_or_replicate : {A : Type 0} (d : A) (n j : ℕ) → get_or (replicate n d) j d ≡ d
get_or_replicate d zero j = refl
get_or_replicate d (suc n) zero = refl
get_or_replicate d (suc n) (suc j) = get_or_replicate d n j

length_padded : {A : Type 0} (n : ℕ) (d : A) (xs : List A) → length xs ≤ n → length (padded n d xs) ≡ n
length_padded n d xs l = omega (arith, length-append xs (replicate (n - length xs) d), length-replicate (n - length xs) d)

padded_at : {A : Type 0} (n : ℕ) (d : A) (xs : List A) (j : ℕ) → j < length xs → get_or (padded n d xs) j d ≡ get_or xs j d
padded_at n d xs j l = get_or-append xs (replicate (n - length xs) d) d j l

padded_past : {A : Type 0} (n : ℕ) (d : A) (xs : List A) (j : ℕ) → length xs ≤ j → get_or (padded n d xs) j d ≡ d
padded_past n d xs j l =
    let e : j ≡ length xs + (j - length xs) = omega arith in
    ap (λ (k : ℕ). get_or (padded n d xs) k d) e ∙ get_or-append-add xs (replicate (n - length xs) d) (j - length xs) d ∙ get_or_replicate d (n - length xs) (j - length xs)

-- ---- one more in front of a padded list, of which tl are kept

module _ {A : Type 0} (n : ℕ) (d x : A) (xs : List A) (steps t : ℕ) (count : length xs ≡ min steps (suc t)) (room : suc t ≤ n) where
  kept : take (min steps t) (padded n d xs) ≡ take t xs
  kept =
      take-append-le (min steps t) xs (replicate (n - length xs) d) (omega arith)
      ∙ go (ltb t steps) refl
    where
      go : (b : Bool) → ltb t steps ≡ b → take (min steps t) xs ≡ take t xs
      go true e = let l = ltb-true t steps e in let q : min steps t ≡ t = omega arith in rw q
      go false e =
          let l = ltb-false t steps e in
          take_all (min steps t) xs (omega arith) ∙ sym (take_all t xs (omega arith))

  after : drop (min steps t + 1) (padded n d xs) ≡ replicate (n - suc (length (take t xs))) d
  after = go (ltb t steps) refl
    where
      fill : List A
      fill = replicate (n - length xs) d

      go : (b : Bool) → ltb t steps ≡ b → drop (min steps t + 1) (padded n d xs) ≡ replicate (n - suc (length (take t xs))) d
      go true e =
          let l = ltb-true t steps e in
          let q : length xs ≡ min steps t + 1 = omega arith in
          let k : n - length xs ≡ n - suc (length (take t xs)) = omega (arith, length-take t xs) in
          drop_at xs fill (min steps t + 1) q ∙ ap (λ (j : ℕ). replicate j d) k
      go false e =
          let l = ltb-false t steps e in
          let q : min steps t + 1 ≡ length xs + 1 = omega arith in
          let k : n - length xs ≡ suc (n - suc (length (take t xs))) = omega (arith, length-take t xs) in
          ap (λ (j : ℕ). drop j (padded n d xs)) q ∙ drop-append-add xs fill 1 ∙ ap (λ (j : ℕ). drop 1 (replicate j d)) k

  in_front_lem : in_front (min steps (suc t - 1)) x (padded n d xs) ≡ padded n d (take (suc t) (x ∷ xs))
  in_front_lem =
      let q : suc t - 1 ≡ t = omega arith in
      ap (λ (j : ℕ). in_front (min steps j) x (padded n d xs)) q ∙ ap₂ (λ (u v : List A). (x ∷ u) ++ v) kept after

push_padded : (n : ℕ) (d x : StoredRemoval) (xs : List StoredRemoval) (steps tl : ℕ) → length xs ≡ min steps tl → tl ≤ n
    → pushed tl steps x (padded n d xs) ≡ padded n d (take tl (x ∷ xs))
unfolding pushed
push_padded n d x xs steps zero count room = ap (padded n d) (nil_from_length xs (omega arith))
push_padded n d x xs steps (suc t) count room = rw (eqb-suc-zero t) (in_front_lem n d x xs steps t count room)

-- ---- records of m nurses with the removals of the lesser of steps and TL

pub record Held (m tl : ℕ) (R : Record) : Type 0 where
  pub none_past : (i : ℕ) → m ≤ i → R.slots i ≡ none
  pub count : length R.removals ≡ min R.steps tl

pub fresh_held : (m tl : ℕ) → Held m tl fresh
fresh_held m tl = record { none_past = λ i l. refl; count = omega arith }

pub view_held : (m tl : ℕ) (r : Stored) → Sized r → tl ≤ tabu_most → Held m tl (view m tl r)
unfolding view
view_held m tl r s l =
    record {
      none_past = λ i h. rw (le-ltb i m h);
      count = length-map (take (held tl r) r.removals) removal_of ∙ length-take-le (held tl r) r.removals (omega (arith, s.removals_long));
    }

pub stepped_held : (m tl : ℕ) (s : Step) (R : Record) → s.nurse < m → Held m tl R → Held m tl (stepped tl s R)
unfolding stepped
stepped_held m tl s R l h =
    record {
      none_past = λ i g. rw (ne_eqb i s.nurse (λ e. let z : ⊥ = omega arith in z)) (h.none_past i g);
      count = omega (arith, length-take tl (record { nurse = suc s.nurse; pattern = R.slots s.nurse } ∷ R.removals), h.count);
    }

-- ---- from a record to what is stored, and back

slot_back : (s : Slot) → slot (flag_of s) (pattern_of s) ≡ s
slot_back none = refl
slot_back (some p) = refl

removals_back : (l : List Removal) → map removal_of (map stored_removal l) ≡ l
removals_back [] = refl
removals_back (x ∷ l) = rw (slot_back x.pattern, removals_back l)

record_path : {R S : Record} → R.slots ≡ S.slots → R.removals ≡ S.removals → R.steps ≡ S.steps → R ≡ S
record_path p q e = λ i. record { slots = p i; removals = q i; steps = e i }

pub store_fresh : store fresh ≡ all_zero
unfolding store up_from
store_fresh = refl

pub store_sized : (R : Record) → length R.removals ≤ removal_places → Sized (store R)
unfolding store
store_sized R l =
    record {
      patterns_long = length_below (λ i. pattern_of (R.slots i)) nurse_places;
      placed_long = length_below (λ i. flag_of (R.slots i)) nurse_places;
      removals_long = length_padded removal_places no_removal (map stored_removal R.removals) (omega (arith, length-map R.removals stored_removal));
    }

module _ (m tl : ℕ) (R : Record) (h : Held m tl R) where
  pub store_slot : (i : ℕ) → i < nurse_places → slot_at (store R) i ≡ R.slots i
  unfolding store
  store_slot i l =
      ap₂ slot (get_or_below (λ j. flag_of (R.slots j)) false nurse_places i l) (get_or_below (λ j. pattern_of (R.slots j)) 0 nurse_places i l) ∙ slot_back (R.slots i)

  slots_back : m ≤ nurse_places → (i : ℕ) (b : Bool) → ltb i m ≡ b → cond b (slot_at (store R) i) none ≡ R.slots i
  slots_back n i true e = store_slot i (omega (arith, ltb-true i m e))
  slots_back n i false e = sym (h.none_past i (ltb-false i m e))

  pub view_store : m ≤ nurse_places → view m tl (store R) ≡ R
  unfolding view store
  view_store n =
      record_path (fun_ext (λ i. slots_back n i (ltb i m) refl))
      (ap (map removal_of) (take_at (map stored_removal R.removals) (replicate (removal_places - length (map stored_removal R.removals)) no_removal) (min R.steps tl) (length-map R.removals stored_removal ∙ h.count))
      ∙ removals_back R.removals)
      refl

  -- a stored record's unused fields are 0
  slot_zero_lem : (i : ℕ) (s : Slot) (b : Bool) → (b ≡ false → s ≡ none) → cond b (flag_of s || eqb (pattern_of s) 0) (not (flag_of s) && eqb (pattern_of s) 0) ≡ true
  slot_zero_lem i none true f = refl
  slot_zero_lem i none false f = refl
  slot_zero_lem i (some p) true f = refl
  slot_zero_lem i (some p) false f = absurd (some-ne-none p (f refl))

  removal_zero_lem : (s : Slot) → (flag_of s || eqb (pattern_of s) 0) ≡ true
  removal_zero_lem none = refl
  removal_zero_lem (some p) = refl

  removal_here : (j : ℕ) (b : Bool) → ltb j (min R.steps tl) ≡ b
      → (let x = get_or (padded removal_places no_removal (map stored_removal R.removals)) j no_removal in
      cond b (x.has || eqb x.pattern 0) (eqb x.nurse 0 && (not x.has && eqb x.pattern 0))) ≡ true
  removal_here j true e =
      let l : j < length R.removals = omega (arith, ltb-true j (min R.steps tl) e, h.count) in
      let d : Removal = record { nurse = 0; pattern = none } in
      rw (padded_at removal_places no_removal (map stored_removal R.removals) j (rw (length-map R.removals stored_removal) l), get_or-map stored_removal R.removals j d no_removal l)
      (removal_zero_lem (get_or R.removals j d).pattern)
  removal_here j false e =
      rw (padded_past removal_places no_removal (map stored_removal R.removals) j (rw (length-map R.removals stored_removal) (omega (arith, ltb-false j (min R.steps tl) e, h.count))))

  pub unused_store : unused_zero m tl (store R) ≡ true
  unfolding unused_zero store
  unused_store =
      rw (
        all_if (slot_zero m (map (λ i. flag_of (R.slots i)) (up_from 0 nurse_places)) (map (λ i. pattern_of (R.slots i)) (up_from 0 nurse_places))) nurse_places
            (λ i l. rw (get_or_below (λ j. flag_of (R.slots j)) false nurse_places i l, get_or_below (λ j. pattern_of (R.slots j)) 0 nurse_places i l) (slot_zero_lem i (R.slots i) (ltb i m) (λ e. h.none_past i (ltb-false i m e)))),
        all_if (removal_zero (min R.steps tl) (padded removal_places no_removal (map stored_removal R.removals))) removal_places (λ j l. removal_here j (ltb j (min R.steps tl)) refl),
      )

-- ---- from what is stored to the record, and back: the same where the unused fields are 0

stored_path : {r s : Stored} → r.patterns ≡ s.patterns → r.placed ≡ s.placed → r.removals ≡ s.removals → r.steps ≡ s.steps → r ≡ s
stored_path a b c e = λ i. record { patterns = a i; placed = b i; removals = c i; steps = e i }

stored_removal_path : {x y : StoredRemoval} → x.nurse ≡ y.nurse → x.has ≡ y.has → x.pattern ≡ y.pattern → x ≡ y
stored_removal_path a b c = λ i. record { nurse = a i; has = b i; pattern = c i }

-- a flag and a pattern that is 0 where it is unused
same_pattern : (b placed : Bool) (p : ℕ) → cond b (placed || eqb p 0) (not placed && eqb p 0) ≡ true → pattern_of (cond b (slot placed p) none) ≡ p
same_pattern true true p e = refl
same_pattern true false p e = sym (eqb-true p 0 e)
same_pattern false true p e = absurd (false≢true e)
same_pattern false false p e = sym (eqb-true p 0 e)

same_flag : (b placed : Bool) (p : ℕ) → cond b (placed || eqb p 0) (not placed && eqb p 0) ≡ true → flag_of (cond b (slot placed p) none) ≡ placed
same_flag true true p e = refl
same_flag true false p e = refl
same_flag false true p e = absurd (false≢true e)
same_flag false false p e = refl

same_removal : (x : StoredRemoval) → (x.has || eqb x.pattern 0) ≡ true → stored_removal (removal_of x) ≡ x
same_removal x e = go x.has refl
  where
    go : (b : Bool) → x.has ≡ b → stored_removal (removal_of x) ≡ x
    go true q = stored_removal_path refl (rw q) (rw q)
    go false q = stored_removal_path refl (rw q) (rw q (sym (eqb-true x.pattern 0 (rw q at e))))

pub no_removal_lem : (x : StoredRemoval) → (eqb x.nurse 0 && (not x.has && eqb x.pattern 0)) ≡ true → no_removal ≡ x
no_removal_lem x e =
    let a = and_parts (eqb x.nurse 0) (not x.has && eqb x.pattern 0) e in
    let b = and_parts (not x.has) (eqb x.pattern 0) a.1 in
    stored_removal_path (sym (eqb-true x.nurse 0 a.0)) (sym (not-true x.has b.0)) (sym (eqb-true x.pattern 0 b.1))

module _ (m tl : ℕ) (r : Stored) (s : Sized r) (room : tl ≤ tabu_most) (zero : unused_zero m tl r ≡ true) where
  slots_zero : (i : ℕ) → i < nurse_places → slot_zero m r.placed r.patterns i ≡ true
  unfolding unused_zero
  slots_zero i l = all_each (slot_zero m r.placed r.patterns) nurse_places i (and_parts _ (all (removal_zero (held tl r) r.removals) (up_from 0 removal_places)) zero).0 l

  removals_zero : (j : ℕ) → j < removal_places → removal_zero (held tl r) r.removals j ≡ true
  unfolding unused_zero
  removals_zero j l = all_each (removal_zero (held tl r) r.removals) removal_places j (and_parts (all (slot_zero m r.placed r.patterns) (up_from 0 nurse_places)) _ zero).1 l

  slot_in : ℕ → Slot
  slot_in i = cond (ltb i m) (slot_at r i) none

  patterns_back : map (λ i. pattern_of (slot_in i)) (up_from 0 nurse_places) ≡ r.patterns
  unfolding slot_in
  patterns_back =
      ext_get_or 0 (map (λ i. pattern_of (slot_in i)) (up_from 0 nurse_places)) r.patterns (length_below (λ i. pattern_of (slot_in i)) nurse_places ∙ sym s.patterns_long)
      (λ i l.
      let h : i < nurse_places = omega (arith, length_below (λ i. pattern_of (slot_in i)) nurse_places) in
      get_or_below (λ i. pattern_of (slot_in i)) 0 nurse_places i h ∙ same_pattern (ltb i m) (get_or r.placed i false) (get_or r.patterns i 0) (slots_zero i h))

  placed_back : map (λ i. flag_of (slot_in i)) (up_from 0 nurse_places) ≡ r.placed
  unfolding slot_in
  placed_back =
      ext_get_or false (map (λ i. flag_of (slot_in i)) (up_from 0 nurse_places)) r.placed (length_below (λ i. flag_of (slot_in i)) nurse_places ∙ sym s.placed_long)
      (λ i l.
      let h : i < nurse_places = omega (arith, length_below (λ i. flag_of (slot_in i)) nurse_places) in
      get_or_below (λ i. flag_of (slot_in i)) false nurse_places i h ∙ same_flag (ltb i m) (get_or r.placed i false) (get_or r.patterns i 0) (slots_zero i h))

  n : ℕ
  n = held tl r

  front : List StoredRemoval
  front = map stored_removal (map removal_of (take n r.removals))

  front_long : length front ≡ n
  unfolding front n
  front_long =
      length-map (map removal_of (take n r.removals)) stored_removal ∙ length-map (take n r.removals) removal_of
      ∙ length-take-le n r.removals (omega (arith, s.removals_long))

  front_at : (j : ℕ) → j < n → get_or front j no_removal ≡ stored_removal (removal_of (get_or r.removals j no_removal))
  unfolding front n
  front_at j l =
      let k : length (take n r.removals) ≡ n = length-take-le n r.removals (omega (arith, s.removals_long)) in
      get_or-map stored_removal (map removal_of (take n r.removals)) j (removal_of no_removal) no_removal (rw (length-map, k) l)
      ∙ ap stored_removal (get_or-map removal_of (take n r.removals) j no_removal (removal_of no_removal) (rw k l) ∙ ap removal_of (get_or-take n r.removals j no_removal l))

  removal_back : (j : ℕ) → j < removal_places → (b : Bool) → ltb j n ≡ b → get_or (padded removal_places no_removal front) j no_removal ≡ get_or r.removals j no_removal
  unfolding n
  removal_back j l true e =
      let h = ltb-true j n e in
      padded_at removal_places no_removal front j (rw front_long h) ∙ front_at j h
      ∙ same_removal (get_or r.removals j no_removal) (rw e at (removals_zero j l))
  removal_back j l false e =
      padded_past removal_places no_removal front j (rw front_long (ltb-false j n e)) ∙ no_removal_lem (get_or r.removals j no_removal) (rw e at (removals_zero j l))

  removals_kept : padded removal_places no_removal front ≡ r.removals
  unfolding n
  removals_kept =
      let k : length (padded removal_places no_removal front) ≡ removal_places = length_padded removal_places no_removal front (rw front_long (omega arith)) in
      ext_get_or no_removal (padded removal_places no_removal front) r.removals (k ∙ sym s.removals_long) (λ j l. removal_back j (omega arith) (ltb j n) refl)

  pub store_view : store (view m tl r) ≡ r
  unfolding store view slot_in front n
  store_view = stored_path patterns_back placed_back removals_kept refl

-- a stored record is stored back exactly when its unused fields are 0
pub stored_back : (m tl : ℕ) (r : Stored) → Sized r → m ≤ nurse_places → tl ≤ tabu_most → (store (view m tl r) ≡ r) ↔ (unused_zero m tl r ≡ true)
stored_back m tl r s n l = (
  λ e. subst (λ (x : Stored). unused_zero m tl x ≡ true) e (unused_store m tl (view m tl r) (view_held m tl r s l)),
  λ z. store_view m tl r s l z,
)

-- ---- a step

cond_pattern : (b : Bool) (p : ℕ) (s : Slot) → cond b p (pattern_of s) ≡ pattern_of (cond b (some p) s)
cond_pattern true p s = refl
cond_pattern false p s = refl

cond_flag : (b : Bool) (p : ℕ) (s : Slot) → cond b true (flag_of s) ≡ flag_of (cond b (some p) s)
cond_flag true p s = refl
cond_flag false p s = refl

module _ (m tl : ℕ) (R : Record) (h : Held m tl R) (room : tl ≤ tabu_most) (i p : ℕ) (l : i < nurse_places) where
  abbrev took : Step
  took = record { nurse = i; pattern = p }

  abbrev removal : Removal
  removal = record { nurse = suc i; pattern = R.slots i }

  patterns_step : set (map (λ j. pattern_of (R.slots j)) (up_from 0 nurse_places)) i p ≡ map (λ j. pattern_of (exchanged R.slots i p j)) (up_from 0 nurse_places)
  patterns_step =
      set_below (λ j. pattern_of (R.slots j)) 0 nurse_places i p l
      ∙ ap (λ (f : ℕ → ℕ). map f (up_from 0 nurse_places)) (fun_ext (λ j. cond_pattern (eqb j i) p (R.slots j)))

  placed_step : set (map (λ j. flag_of (R.slots j)) (up_from 0 nurse_places)) i true ≡ map (λ j. flag_of (exchanged R.slots i p j)) (up_from 0 nurse_places)
  placed_step =
      set_below (λ j. flag_of (R.slots j)) false nurse_places i true l
      ∙ ap (λ (f : ℕ → Bool). map f (up_from 0 nurse_places)) (fun_ext (λ j. cond_flag (eqb j i) p (R.slots j)))

  removals_step : pushed tl R.steps (removal_by (store R) i) (padded removal_places no_removal (map stored_removal R.removals))
      ≡ padded removal_places no_removal (map stored_removal (take tl (removal ∷ R.removals)))
  removals_step =
      ap (λ (s : Slot). pushed tl R.steps (stored_removal (record { nurse = suc i; pattern = s })) (padded removal_places no_removal (map stored_removal R.removals))) (store_slot m tl R h i l)
      ∙ push_padded removal_places no_removal (stored_removal removal) (map stored_removal R.removals) R.steps tl (length-map R.removals stored_removal ∙ h.count) room
      ∙ ap (padded removal_places no_removal) (take-map stored_removal tl (removal ∷ R.removals))

  pub exchanged_store : exchanged_in tl (store R) i p ≡ store (stepped tl took R)
  unfolding exchanged_in store stepped
  exchanged_store = stored_path patterns_step placed_step removals_step (add-one R.steps)

-- ---- stored records whose unused fields are 0

pub record Whole (m tl : ℕ) (r : Stored) : Type 0 where
  pub sized : Sized r
  pub unused : unused_zero m tl r ≡ true

pub whole_store : (m tl : ℕ) (R : Record) → Held m tl R → tl ≤ tabu_most → Whole m tl (store R)
whole_store m tl R h l = record { sized = store_sized R (omega (arith, h.count)); unused = unused_store m tl R h }

pub fresh_whole : (m tl : ℕ) → tl ≤ tabu_most → Whole m tl all_zero
fresh_whole m tl l = subst (Whole m tl) store_fresh (whole_store m tl fresh (fresh_held m tl) l)

pub view_fresh : (m tl : ℕ) → m ≤ nurse_places → view m tl all_zero ≡ fresh
view_fresh m tl n = ap (view m tl) (sym store_fresh) ∙ view_store m tl fresh (fresh_held m tl) n

module _ (m tl : ℕ) (r : Stored) (w : Whole m tl r) (n : m ≤ nurse_places) (room : tl ≤ tabu_most) (i p : ℕ) (l : i < m) where
  abbrev takes : Step
  takes = record { nurse = i; pattern = p }

  view_then : Held m tl (view m tl r)
  view_then = view_held m tl r w.sized room

  stepped_then : Held m tl (stepped tl takes (view m tl r))
  stepped_then = stepped_held m tl takes (view m tl r) l view_then

  exchanged_stored : exchanged_in tl r i p ≡ store (stepped tl takes (view m tl r))
  exchanged_stored =
      ap (λ (x : Stored). exchanged_in tl x i p) (sym (store_view m tl r w.sized room w.unused))
      ∙ exchanged_store m tl (view m tl r) view_then room i p (omega arith)

  pub view_exchanged : view m tl (exchanged_in tl r i p) ≡ stepped tl takes (view m tl r)
  view_exchanged = ap (view m tl) exchanged_stored ∙ view_store m tl (stepped tl takes (view m tl r)) stepped_then n

  pub exchanged_whole : Whole m tl (exchanged_in tl r i p)
  exchanged_whole = subst (Whole m tl) (sym exchanged_stored) (whole_store m tl (stepped tl takes (view m tl r)) stepped_then room)
