-- A nurse's own patterns of the common list, written one after the other; and everyone's stretches, of which each begins where the last one ends.
use Rattle.std.specs.Array.{IsFromFnResultFrom, IsFromFnResult}
use Rattle.std.specs.Fn.{Called}
use denote.Param.Members.{Mut}
use Rattle.std.specs.Prelude.{◌≡◌, refl, Bool, true, false, cond, List, [], ◌∷◌, ◌++◌, ℕ, zero, suc, ◌+◌, ◌-◌, ◌*◌, ◌/◌, ◌⊎◌, ◌≤◌, ◌<◌, eqb, length, get_or, set, take, drop}
use Rattle.std.proofs.Common.{sym, ap, ◌∙◌, subst, append-nil, append_assoc, add-one, arith, inl, inr, eq-or-lt_of_le, eqb-true, length-append, length-set, length-drop, take-append-drop, take-suc, take_all, take_at, drop_at, drop-cons, get_or-set_same, get_or-set_other}
use Rattle.std.proofs.lemmas.List.{get_or_past}
use Rattle.std.proofs.Math.Decide.{dec_lt}
use Rattle.std.proofs.Math.Seq.{append_snoc, set-append_seam, take-append-le, drop-append-le, length-take-le}
use Rattle.numbers.proofs.AgreeLaws.{filter_le}
use Rattle.numbers.specs.Digits.{has, number_of}
use Rattle.numbers.specs.Sum.{one_if}
use Rattle.numbers.specs.Range.{filter}
use Rattle.numbers.proofs.DigitLaws.{number_has}
use Rattle.numbers.proofs.SetLaws.{has_back}
use Rattle.numbers.proofs.RangeLaws.{filter_append}
use Rattle.fields.specs.Sizes.{nurse_places}
use Rattle.fields.specs.Fields.{nurses, days, block, duty}
use Rattle.fields.specs.Rules.{rules_of}
use Rattle.nights.specs.Hers.{hers_of}
use Rattle.nursemasks.specs.declared.masks.Masks.{Masks}
use Rattle.nursemasks.specs.CodeMasks.{workable, masks_by, masks_of}
use Rattle.trials.specs.CodeTrials.{before_of, WorkableDays}
use Rattle.ownlists.specs.declared.Source.{Source}
use Rattle.ownlists.specs.declared.Place.{Place}
use Rattle.ownlists.specs.declared.Place.TheVariants.{Kept as KeptAt, Whole as WholeAt, Among as AmongAt}
use Rattle.ownlists.specs.declared.Stretch.{Stretch}
use Rattle.ownlists.specs.declared.OwnPlace.{OwnPlace}
use Rattle.ownlists.specs.declared.OwnList.{OwnList}
use Rattle.ownlists.specs.CodeOwn.{SourceAt, OwnAt, OwnLists, no_list, IsCut, StretchIs, PlaceAt, OwnPlaceAt, OwnPlaces, no_place, LentAt}

-- ---- what a test keeps of a list, written from a buffer's start

-- one more number in its place
store_next : (xs buf : List ℕ) (p : ℕ) → length xs < length buf → set (xs ++ drop (length xs) buf) (length xs) p ≡ (xs ++ (p ∷ [])) ++ drop (length xs + 1) buf
store_next xs buf p h = rw (drop-cons buf (length xs) 0 h, set-append_seam, add-one, append_snoc)

-- one more of the list, kept or not
module _ (t : ℕ → Bool) (list : List ℕ) (k : ℕ) (l : k < length list) where
  one_more : filter t (take (k + 1) list) ≡ filter t (take k list) ++ filter t (get_or list k 0 ∷ [])
  one_more = ap (λ (n : ℕ). filter t (take n list)) (add-one k) ∙ ap (filter t) (take-suc list k 0 l) ∙ filter_append t (take k list) (get_or list k 0 ∷ [])

  more_kept : t (get_or list k 0) ≡ true → filter t (take (k + 1) list) ≡ filter t (take k list) ++ (get_or list k 0 ∷ [])
  unfolding filter
  more_kept e = one_more ∙ rw e

  more_left : t (get_or list k 0) ≡ false → filter t (take (k + 1) list) ≡ filter t (take k list)
  unfolding filter
  more_left e = one_more ∙ rw e (append-nil (filter t (take k list)))

-- of the first k `at` are kept; they stand at the buffer's start where they fit
pub record KeptTo (t : ℕ → Bool) (list before : List ℕ) (at k : ℕ) (buf : List ℕ) : Type 0 where
  pub counted : at ≡ length (filter t (take k list))
  pub written : at ≤ length before → buf ≡ filter t (take k list) ++ drop at before

-- within the list and the buffer
pub record FillTo (t : ℕ → Bool) (list before : List ℕ) (at k : ℕ) (buf : List ℕ) : Type 0 where
  pub inside : k ≤ length list
  pub most : at ≤ k
  pub long : length buf ≡ length before
  pub kept : KeptTo t list before at k buf

pub own_start : (t : ℕ → Bool) (list before : List ℕ) → FillTo t list before 0 0 before
unfolding filter
own_start t list before = record {
  inside = omega arith;
  most = omega arith;
  long = refl;
  kept = record { counted = refl; written = λ l. refl };
}

module _ {t : ℕ → Bool} {list before : List ℕ} {at k : ℕ} {buf : List ℕ} (h : KeptTo t list before at k buf) (l : k < length list) where
  kept_more : t (get_or list k 0) ≡ true → at + 1 ≡ length (filter t (take (k + 1) list))
  kept_more e = sym (ap length (more_kept t list k l e) ∙ simp length-append (omega (arith, h.counted)))

  kept_stored : t (get_or list k 0) ≡ true → at < length before → KeptTo t list before (at + 1) (k + 1) (set buf at (get_or list k 0))
  kept_stored e room = record {
    counted = kept_more e;
    written = λ m. rw (h.written (omega arith), more_kept t list k l e, h.counted) (store_next (filter t (take k list)) before (get_or list k 0) (omega (arith, h.counted)));
  }

  kept_full : t (get_or list k 0) ≡ true → length before ≤ at → KeptTo t list before (at + 1) (k + 1) buf
  kept_full e full = record { counted = kept_more e; written = λ m. absurd (omega arith) }

  kept_passed : t (get_or list k 0) ≡ false → KeptTo t list before at (k + 1) buf
  kept_passed e = record {
    counted = h.counted ∙ ap length (sym (more_left t list k l e));
    written = λ m. h.written m ∙ ap (λ (xs : List ℕ). xs ++ drop at before) (sym (more_left t list k l e));
  }

-- one pattern more: `hers` is the test's answer, `next` and `more` what is then in the buffer, and how many
module _ {t : ℕ → Bool} {list before : List ℕ} {at k : ℕ} {buf : List ℕ} (f : FillTo t list before at k buf) (l : k < length list) {hers : Bool} (is : hers ≡ t (get_or list k 0))
    {next : List ℕ} {more : ℕ} where
  pub own_stored : hers ≡ true → at < length buf → next ≡ set buf at (get_or list k 0) → more ≡ at + 1 → FillTo t list before more (k + 1) next
  own_stored e room q r = rw (q, r) record {
    inside = omega arith;
    most = omega (arith, f.most);
    long = length-set buf at (get_or list k 0) ∙ f.long;
    kept = kept_stored f.kept l (sym is ∙ e) (omega (arith, f.long));
  }

  pub own_full : hers ≡ true → length buf ≤ at → next ≡ buf → more ≡ at + 1 → FillTo t list before more (k + 1) next
  own_full e full q r = rw (q, r) record {
    inside = omega arith;
    most = omega (arith, f.most);
    long = f.long;
    kept = kept_full f.kept l (sym is ∙ e) (omega (arith, f.long));
  }

  pub own_passed : hers ≡ false → next ≡ buf → more ≡ at → FillTo t list before more (k + 1) next
  own_passed e q r = rw (q, r) record {
    inside = omega arith;
    most = omega (arith, f.most);
    long = f.long;
    kept = kept_passed f.kept l (sym is ∙ e);
  }

module _ {t : ℕ → Bool} {list before : List ℕ} {at k : ℕ} {buf : List ℕ} (f : FillTo t list before at k buf) (l : length list ≤ k) where
  pub own_counted : at ≡ length (filter t list)
  own_counted = f.kept.counted ∙ ap (λ (xs : List ℕ). length (filter t xs)) (take_all k list l)

  pub own_written : at ≤ length before → buf ≡ filter t list ++ drop at before
  own_written room = f.kept.written room ∙ ap (λ (xs : List ℕ). filter t xs ++ drop at before) (take_all k list l)

-- ---- what else is kept of a nurse

-- a test that keeps as many as there are keeps all
all_one : (b : Bool) (x : ℕ) (ys xs : List ℕ) → (length ys ≡ length xs → ys ≡ xs) → length ys ≤ length xs → length (cond b (x ∷ ys) ys) ≡ suc (length xs) → cond b (x ∷ ys) ys ≡ x ∷ xs
all_one true x ys xs f l e = ap (λ (zs : List ℕ). x ∷ zs) (f (omega arith))
all_one false x ys xs f l e = absurd (omega arith)

filter_whole : (t : ℕ → Bool) (xs : List ℕ) → length (filter t xs) ≡ length xs → filter t xs ≡ xs
unfolding filter
filter_whole t [] e = refl
filter_whole t (x ∷ xs) e = all_one (t x) x (filter t xs) xs (filter_whole t xs) (filter_le t xs) e

module _ (w : List ℕ) (i : ℕ) {masks : Masks} (m : masks ≡ masks_of (rules_of w) (days w) (block w i)) where
  work_are : WorkableDays w i (masks.workable / 2)
  unfolding masks_by
  work_are d l =
      ap (λ (x : Masks). has (x.workable / 2) d) m
      ∙ has_back (number_of (workable (block w i)) (suc (days w))) d
      ∙ number_has (workable (block w i)) (suc (days w)) (suc d) (omega arith)

  before_are : 2 * masks.night + masks.second ≡ before_of (block w i)
  unfolding masks_by
  before_are = ap (λ (x : Masks). 2 * x.night + x.second) m ∙ go (eqb (duty (block w i) 6) 2) (eqb (duty (block w i) 6) 3) refl refl
    where
      go : (u v : Bool) → eqb (duty (block w i) 6) 2 ≡ u → eqb (duty (block w i) 6) 3 ≡ v → 2 * one_if u + one_if v ≡ cond u 2 (cond v 1 0)
      go true true p q = absurd (omega (arith, eqb-true (duty (block w i) 6) 2 p, eqb-true (duty (block w i) 6) 3 q))
      go true false p q = refl
      go false true p q = refl
      go false false p q = refl

-- ---- stretches

-- a stretch within the front part
stretch_front : (b e : ℕ) (xs rest : List ℕ) → b ≤ e → e ≤ length xs → take (e - b) (drop b (xs ++ rest)) ≡ take (e - b) (drop b xs)
stretch_front b e xs rest l h =
    ap (take (e - b)) (drop-append-le b xs rest (omega arith)) ∙ take-append-le (e - b) (drop b xs) rest (simp length-drop (omega arith))

-- the one after it
stretch_next : (xs F ys rest : List ℕ) (at count : ℕ) → length xs ≡ at → length F ≡ count → take (at + count - at) (drop at (xs ++ ((F ++ ys) ++ rest))) ≡ F
stretch_next xs F ys rest at count l c =
    let n : at + count - at ≡ count = omega arith in
    rw (n, drop_at xs ((F ++ ys) ++ rest) at l, append_assoc F ys rest) (take_at F (ys ++ rest) count c)

-- ---- everyone's

-- what is kept ends before `at`
abbrev pub EndsBy : ℕ → Place → Type 0
EndsBy at (KeptAt s) = s.end ≤ at
EndsBy at WholeAt = Unit {0}
EndsBy at AmongAt = Unit {0}

pub record Placed (w list own : List ℕ) (at i : ℕ) (x : OwnPlace) : Type 0 where
  pub known : OwnPlaceAt w list own i x
  pub ends : EndsBy at x.place

-- the first i have theirs, up to at
pub record OwnTo (w list before : List ℕ) (at i : ℕ) (own : List ℕ) (r : List OwnPlace) : Type 0 where
  pub i_most : i ≤ nurses w
  pub at_most : at ≤ length own
  pub long : length own ≡ length before
  pub sized : length r ≡ nurse_places
  pub each : (j : ℕ) → j < i → Placed w list own at j (get_or r j no_place)

pub begin : (w list before : List ℕ) (r : List OwnPlace) → length r ≡ nurse_places → OwnTo w list before 0 0 before r
begin w list before r sized = record {
  i_most = omega arith;
  at_most = omega arith;
  long = refl;
  sized = sized;
  each = λ j l. absurd (omega arith);
}

pub everyone : {w list before : List ℕ} {at i : ℕ} {own : List ℕ} {r : List OwnPlace} → OwnTo w list before at i own r → nurses w ≤ i → OwnPlaces w list own r
everyone z l = record { each = λ j h. (z.each j (omega arith)).known }

-- what is then in the array's part, and how many, for nurse i with these masks
pub record Filled (w list : List ℕ) (i : ℕ) (masks : Masks) (before after : List ℕ) (count : ℕ) : Type 0 where
  pub hers : masks ≡ masks_of (rules_of w) (days w) (block w i)
  pub counted : count ≡ length (filter (hers_of w i) list)
  pub written : count ≤ length before → after ≡ filter (hers_of w i) list ++ drop count before

pub filled_as : {v w list : List ℕ} {j i : ℕ} {masks : Masks} {before after : List ℕ} {count : ℕ} → v ≡ w → j ≡ i → Filled v list j masks before after count → Filled w list i masks before after count
filled_as {v} {w} {list} {j} {i} {masks} {before} {after} {count} e f h =
    subst (λ (x : List ℕ). Filled x list i masks before after count) e (subst (λ (k : ℕ). Filled v list k masks before after count) f h)

-- the array's part behind `at`, lent and given back
abbrev behind : ℕ → List ℕ → List ℕ
behind at own = take (length own - at) (drop at own)

pub record Back (at : ℕ) (own ys own' : List ℕ) : Type 0 where
  pub back_is : own' ≡ take at own ++ (ys ++ drop (length own - at) (drop at own))
  pub same : length own' ≡ length own

-- one nurse more
module _ {w list before : List ℕ} {at i : ℕ} {own : List ℕ} {r : List OwnPlace} (z : OwnTo w list before at i own r) {ys own' : List ℕ} (back : Back at own ys own') where
  front_long : length (take at own) ≡ at
  front_long = length-take-le at own z.at_most

  -- those before her keep theirs
  front_same : (b e : ℕ) → b ≤ e → e ≤ at → take (e - b) (drop b own') ≡ take (e - b) (drop b own)
  front_same b e l h =
      let inside : e ≤ length (take at own) = rw front_long h in
      ap (λ (xs : List ℕ). take (e - b) (drop b xs)) back.back_is
      ∙ stretch_front b e (take at own) (ys ++ drop (length own - at) (drop at own)) l inside
      ∙ sym (stretch_front b e (take at own) (drop at own) l inside)
      ∙ ap (λ (xs : List ℕ). take (e - b) (drop b xs)) (take-append-drop at own)

  place_stays : (j : ℕ) (p : Place) → EndsBy at p → PlaceAt w list own j p → PlaceAt w list own' j p
  place_stays j (KeptAt s) l x = record {
    begins = x.begins;
    finishes = omega (arith, x.finishes, back.same);
    stretch = front_same s.begin s.end x.begins l ∙ x.stretch;
  }
  place_stays j WholeAt l x = x
  place_stays j AmongAt l x = tt

  ends_later : {next : ℕ} (p : Place) → at ≤ next → EndsBy at p → EndsBy next p
  ends_later (KeptAt s) m l = omega arith
  ends_later WholeAt m l = tt
  ends_later AmongAt m l = tt

  stays : {next j : ℕ} {x : OwnPlace} → at ≤ next → Placed w list own at j x → Placed w list own' next j x
  stays {next} {j} {x} m p = record {
    known = record {
      place_is = place_stays j x.place p.ends p.known.place_is;
      workable_are = p.known.workable_are;
      before_is = p.known.before_is;
    };
    ends = ends_later x.place m p.ends;
  }

  one_nurse : {next : ℕ} (x : OwnPlace) → i < nurses w → nurses w ≤ nurse_places → at ≤ next → next ≤ length own → Placed w list own' next i x
      → OwnTo w list before next (i + 1) own' (set r i x)
  one_nurse {next} x l few ahead fits hers = record {
    i_most = omega arith;
    at_most = omega (arith, back.same);
    long = back.same ∙ z.long;
    sized = length-set r i x ∙ z.sized;
    each = λ j m. go j m (dec_lt j i);
  }
    where
      go : (j : ℕ) → j < i + 1 → Dec (j < i) → Placed w list own' next j (get_or (set r i x) j no_place)
      go j m (yes q) = rw (get_or-set_other r i j x no_place (λ s. omega arith)) (stays ahead (z.each j q))
      go j m (no q) =
          let same : j ≡ i = omega arith in
          rw (same, get_or-set_same r i x no_place (omega (arith, z.sized))) hers

  -- as the code stores it
  module _ {masks : Masks} {count : ℕ} (filled : Filled w list i masks (behind at own) ys count) (l : i < nurses w) (few : nurses w ≤ nurse_places) where
    abbrev placed_as : Place → OwnPlace
    placed_as p = record { place = p; workable = masks.workable / 2; before = 2 * masks.night + masks.second }

    hers : {next : ℕ} (p : Place) → PlaceAt w list own' i p → EndsBy next p → Placed w list own' next i (placed_as p)
    hers p is ends = record {
      known = record { place_is = is; workable_are = work_are w i filled.hers; before_is = before_are w i filled.hers };
      ends = ends;
    }

    abbrev hers_at : Stretch
    hers_at = record { begin = at; end = at + count }

    pub nurse_kept : {p : Place} {next : ℕ} → p ≡ KeptAt hers_at → next ≡ at + count → count ≤ length own - at
        → OwnTo w list before next (i + 1) own' (set r i (placed_as p))
    nurse_kept {p} {next} e n room =
        let long : length (behind at own) ≡ length own - at = length-take-le (length own - at) (drop at own) (simp length-drop (omega arith)) in
        let is : take (at + count - at) (drop at own') ≡ filter (hers_of w i) list = rw (back.back_is, filled.written (omega arith))
        (stretch_next (take at own) (filter (hers_of w i) list) (drop count (behind at own)) (drop (length own - at) (drop at own)) at count front_long (sym filled.counted)) in
        let at_hers : StretchIs own' (filter (hers_of w i) list) hers_at = record { begins = omega arith; finishes = omega (arith, z.at_most, back.same); stretch = is } in
        rw (e, n) (one_nurse (placed_as (KeptAt hers_at)) l few (omega arith) (omega (arith, z.at_most)) (hers (KeptAt hers_at) at_hers (omega arith)))

    pub nurse_over : {p : Place} {next : ℕ} → p ≡ cond (eqb count (length list)) WholeAt AmongAt → next ≡ at → OwnTo w list before next (i + 1) own' (set r i (placed_as p))
    nurse_over {p} {next} e n = rw (e, n) (go (eqb count (length list)) refl)
      where
        go : (b : Bool) → eqb count (length list) ≡ b → OwnTo w list before at (i + 1) own' (set r i (placed_as (cond b WholeAt AmongAt)))
        go true q = one_nurse (placed_as WholeAt) l few (omega arith) z.at_most (hers WholeAt (filter_whole (hers_of w i) list (sym filled.counted ∙ eqb-true count (length list) q)) tt)
        go false q = one_nurse (placed_as AmongAt) l few (omega arith) z.at_most (hers AmongAt tt tt)

-- ---- cut from the array

-- of an array made by a closure each place is as the closure says
module _ {F B : Type 0} {g : Mut F (ℕ × Unit {0}) B} {f : F} (ys : List B) (P : ℕ → B → Type 0) (z : B) (gives : (x : ℕ) (y : B) (q : F) → Called g f (x, tt) y q → (q ≡ f) × P x y) where
  each_from : (n i : ℕ) (p : F) → p ≡ f → IsFromFnResultFrom g p ys i n → (j : ℕ) → i ≤ j → j < i + n → P j (get_or ys j z)
  each_from zero i p e w j l h = absurd (omega arith)
  each_from (suc n) i p e w j l h =
      let told = gives i w.1 w.0 (subst (λ (x : F). Called g x (i, tt) w.1 w.0) e w.3) in
      go (eq-or-lt_of_le l) told.1 (λ d. each_from n (i + 1) w.0 told.0 w.4 j (omega arith) (omega arith))
    where
      go : (i ≡ j) ⊎ (i < j) → P i w.1 → (i < j → P j (get_or ys j z)) → P j (get_or ys j z)
      go (inl q) t rest = subst (λ (x : ℕ). P x (get_or ys x z)) q (subst (P i) (sym (w.2.1 z)) t)
      go (inr d) t rest = rest d

  pub each_made : {m : ℕ} → IsFromFnResult g f ys m → (j : ℕ) → j < m → P j (get_or ys j z)
  each_made {m} r j h = each_from m 0 f refl r.each j (omega arith) (omega arith)

source_hers : (w list own : List ℕ) (i : ℕ) (p : Place) (x : Source) → IsCut own p x → PlaceAt w list own i p → SourceAt w list i x
source_hers w list own i (KeptAt s) x c h = subst (SourceAt w list i) (sym c.1) (c.2 h.begins h.finishes ∙ h.stretch)
source_hers w list own i WholeAt x c h = subst (SourceAt w list i) (sym c) h
source_hers w list own i AmongAt x c h = subst (SourceAt w list i) (sym c) tt

lent_hers : {w list own : List ℕ} {i : ℕ} {p : OwnPlace} {x : OwnList} → LentAt own p x → OwnPlaceAt w list own i p → OwnAt w list i x
lent_hers {w} {list} {own} {i} {p} {x} c h = record {
  source_is = source_hers w list own i p.place x.source c.source_is h.place_is;
  workable_are = subst (WorkableDays w i) (sym c.workable_same) h.workable_are;
  before_is = c.before_same ∙ h.before_is;
}

-- past the array's places there is nobody in either
pub lent_all : {own : List ℕ} {places : List OwnPlace} {r : List OwnList} → length places ≡ nurse_places → length r ≡ nurse_places
    → ((i : ℕ) → i < nurse_places → LentAt own (get_or places i no_place) (get_or r i no_list)) → (w list : List ℕ) → OwnPlaces w list own places → OwnLists w list r
lent_all {own} {places} {r} p q each w list o = record { each = λ i l. lent_hers (go i (dec_lt i nurse_places)) (o.each i l) }
  where
    go : (i : ℕ) → Dec (i < nurse_places) → LentAt own (get_or places i no_place) (get_or r i no_list)
    go i (yes l) = each i l
    go i (no l) =
        rw (get_or_past r i no_list (omega arith), get_or_past places i no_place (omega arith))
        (record { source_is = refl; workable_same = refl; before_same = refl })
