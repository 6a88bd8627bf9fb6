-- The masks' meaning: which days bar a row, which are available under it, and when last month's run does not matter.
use Rattle.std.specs.Prelude.{◌≡◌, refl, Bool, true, false, cond, not, ◌&&◌, ◌||◌, List, ℕ, zero, suc, ◌+◌, ◌-◌, ◌*◌, ◌/◌, ◌^◌, ◌≤◌, ◌<◌, bit_and, bit_or, eqb, get_or}
use Rattle.std.proofs.Common.{sym, ap, ap₂, ◌∙◌, subst, suc-le-suc, add-zero, lt_of_le_of_lt, add-one, one-add, arith, pow_mono, shr_lt, eqb-true}
use Rattle.std.proofs.lemmas.Bool.{eqb-false, not-false}
use Rattle.std.proofs.lemmas.Nat.{and_le_l, and_le_r, or_lt}
use Rattle.std.proofs.Math.Bool.{and-false, or-false, and_comm}
use Rattle.std.proofs.Math.Decide.{dec_lt}
use Rattle.fields.specs.Sizes.{day_places}
use Rattle.numbers.specs.Range.{up_from}
use Rattle.numbers.specs.Sum.{one_if}
use Rattle.numbers.specs.Digits.{has, number_of}
use Rattle.numbers.proofs.RangeLaws.{all_at, all_range, length_range, range_at}
use Rattle.numbers.proofs.DigitLaws.{number_lt, number_has}
use Rattle.numbers.proofs.SetLaws.{has_and, has_or, has_not, has_first, has_moved, has_back, has_above, none_zero}
use Rattle.fields.specs.Fields.{duty, least_nights_of, most_nights_of, mark_on}
use Rattle.rows.specs.Rows.{state_after, day_zero, row_state, allow_table, allows, marks_allow, available_on}
use Rattle.fields.specs.declared.rules.Rules.{Rules}
use Rattle.nights.specs.declared.Run.{Run}
use Rattle.nursemasks.specs.declared.masks.Bars.{Bars}
use Rattle.nursemasks.specs.declared.masks.Masks.{Masks}
use Rattle.nursemasks.specs.declared.masks.Row.{Row}
use Rattle.nursemasks.specs.CodeMasks.{barred, workable, never, near, bars_of, masks_by, masks_of, Masked, RowOf, AvailableDays}
use Rattle.nights.specs.Nights.{in_common}
use Rattle.nights.specs.Hers.{last_run}
use Rattle.nights.proofs.FollowLaws.{common_apart}

-- ---- the sets of days

pub set_small : (t : ℕ → Bool) (n : ℕ) → n ≤ day_places → number_of t (suc n) < 2 ^ 32
set_small t n h = omega (arith, number_lt t (suc n), pow_mono {i = suc n} {j = 32} (omega arith))

pub set_has : (t : ℕ → Bool) (n d : ℕ) → d < suc n → has (number_of t (suc n)) d ≡ t d
set_has t n d h = number_has t (suc n) d h

pub set_above : (t : ℕ → Bool) (n d : ℕ) → suc n ≤ d → has (number_of t (suc n)) d ≡ false
set_above t n d h = has_above (suc n) (number_of t (suc n)) d (number_lt t (suc n)) h

-- ---- the row as three sets

after_night : (s : ℕ) (t : Bool) → eqb (state_after s t) 1 ≡ t
after_night s true = refl
after_night s false = go (eqb s 1) (eqb s 2)
  where
    go : (u v : Bool) → eqb (cond u 2 (cond v 3 0)) 1 ≡ false
    go true v = refl
    go false true = refl
    go false false = refl

after_second : (s : ℕ) (t : Bool) → eqb (state_after s t) 2 ≡ (eqb s 1 && not t)
after_second s true = sym (and-false (eqb s 1))
after_second s false = go (eqb s 1) (eqb s 2)
  where
    go : (u v : Bool) → eqb (cond u 2 (cond v 3 0)) 2 ≡ (u && true)
    go true v = refl
    go false true = refl
    go false false = refl

after_rest : (s : ℕ) (t : Bool) → eqb (state_after s t) 3 ≡ (eqb s 2 && not t)
after_rest s true = sym (and-false (eqb s 2))
after_rest s false = go (eqb s 1) refl
  where
    other : (v : Bool) → eqb (cond v 3 0) 3 ≡ (v && true)
    other true = refl
    other false = refl

    go : (u : Bool) → eqb s 1 ≡ u → eqb (cond (eqb s 1) 2 (cond (eqb s 2) 3 0)) 3 ≡ (eqb s 2 && true)
    go true e = rw (eqb-true s 1 e)
    go false e = rw e (other (eqb s 2))

zero_night : (v : ℕ) → eqb (one_if (eqb v 2)) 1 ≡ eqb (day_zero v) 1
zero_night v = go (eqb v 2) (eqb v 3)
  where
    go : (s t : Bool) → eqb (one_if s) 1 ≡ eqb (cond s 1 (cond t 2 0)) 1
    go true t = refl
    go false true = refl
    go false false = refl

zero_second : (v : ℕ) → (eqb (one_if (eqb v 3)) 1 && not (eqb (one_if (eqb v 2)) 1)) ≡ eqb (day_zero v) 2
zero_second v = go (eqb v 2) refl
  where
    other : (t : Bool) → (eqb (one_if t) 1 && true) ≡ eqb (cond t 2 0) 2
    other true = refl
    other false = refl

    go : (s : Bool) → eqb v 2 ≡ s → (eqb (one_if (eqb v 3)) 1 && not (eqb (one_if (eqb v 2)) 1)) ≡ eqb (cond (eqb v 2) 1 (cond (eqb v 3) 2 0)) 2
    go true e = rw (eqb-true v 2 e)
    go false e = rw e (other (eqb v 3))

zero_rest : (v : ℕ) → false ≡ eqb (day_zero v) 3
zero_rest v = go (eqb v 2) (eqb v 3)
  where
    go : (s t : Bool) → false ≡ eqb (cond s 1 (cond t 2 0)) 3
    go true t = refl
    go false true = refl
    go false false = refl

has_twice_first : (x : ℕ) → has (x * 2) 0 ≡ false
has_twice_first x = ap (λ (y : ℕ). has y 0) (sym (add-zero (x * 2))) ∙ has_first x 0 (omega arith)

has_twice : (x d : ℕ) → has (x * 2) (suc d) ≡ has x d
has_twice x d = ap (λ (y : ℕ). has y (suc d)) (sym (add-zero (x * 2))) ∙ has_moved x 0 d (omega arith)

one_below : (b : Bool) → one_if b < 2
one_below true = omega arith
one_below false = omega arith

module _ (b : List ℕ) (p : ℕ) (small : p < 2 ^ 32) where
  -- the three sets as the code has them
  nights : ℕ
  nights = p * 2 + one_if (eqb (duty b 6) 2)

  seconds : ℕ
  seconds = bit_and (nights * 2 + one_if (eqb (duty b 6) 3)) ((2 ^ 64 - 1) - nights)

  rests : ℕ
  rests = bit_and (seconds * 2) ((2 ^ 64 - 1) - nights)

  nights_small : nights < 2 ^ 64
  unfolding nights
  nights_small = omega (arith, one_below (eqb (duty b 6) 2))

  not_night : (d : ℕ) → d < 64 → has ((2 ^ 64 - 1) - nights) d ≡ not (has nights d)
  not_night d l = has_not 64 nights d nights_small l

  night_is : (d : ℕ) → has nights d ≡ eqb (row_state b p d) 1
  unfolding nights row_state
  night_is zero = has_first p (one_if (eqb (duty b 6) 2)) (one_below (eqb (duty b 6) 2)) ∙ zero_night (duty b 6)
  night_is (suc d) = has_moved p (one_if (eqb (duty b 6) 2)) d (one_below (eqb (duty b 6) 2)) ∙ sym (after_night (row_state b p d) (has p d))

  started_is : (d : ℕ) → has nights (suc d) ≡ has p d
  unfolding nights
  started_is d = has_moved p (one_if (eqb (duty b 6) 2)) d (one_below (eqb (duty b 6) 2))

  first_night : has nights 0 ≡ eqb (one_if (eqb (duty b 6) 2)) 1
  unfolding nights
  first_night = has_first p (one_if (eqb (duty b 6) 2)) (one_below (eqb (duty b 6) 2))

  second_is : (d : ℕ) → d < 64 → has seconds d ≡ eqb (row_state b p d) 2
  unfolding seconds row_state
  second_is zero l =
      has_and (nights * 2 + one_if (eqb (duty b 6) 3)) ((2 ^ 64 - 1) - nights) 0
      ∙ ap₂ ◌&&◌ (has_first nights (one_if (eqb (duty b 6) 3)) (one_below (eqb (duty b 6) 3))) (not_night 0 l ∙ ap not first_night)
      ∙ zero_second (duty b 6)
  second_is (suc d) l =
      has_and (nights * 2 + one_if (eqb (duty b 6) 3)) ((2 ^ 64 - 1) - nights) (suc d)
      ∙ ap₂ ◌&&◌ (has_moved nights (one_if (eqb (duty b 6) 3)) d (one_below (eqb (duty b 6) 3)) ∙ night_is d) (not_night (suc d) l ∙ ap not (started_is d))
      ∙ sym (after_second (row_state b p d) (has p d))

  rest_is : (d : ℕ) → d < 64 → has rests d ≡ eqb (row_state b p d) 3
  unfolding rests row_state
  rest_is zero l =
      has_and (seconds * 2) ((2 ^ 64 - 1) - nights) 0
      ∙ ap (λ (v : Bool). v && has ((2 ^ 64 - 1) - nights) 0) (has_twice_first seconds)
      ∙ zero_rest (duty b 6)
  rest_is (suc d) l =
      has_and (seconds * 2) ((2 ^ 64 - 1) - nights) (suc d)
      ∙ ap₂ ◌&&◌ (has_twice seconds d ∙ second_is d (omega arith)) (not_night (suc d) l ∙ ap not (started_is d))
      ∙ sym (after_rest (row_state b p d) (has p d))

-- what a mask leaves is small
masked_small : (y z : ℕ) → bit_and y ((2 ^ 64 - 1) - z) < 2 ^ 64
masked_small y z = omega (arith, and_le_r y ((2 ^ 64 - 1) - z))

pub row_made : (b : List ℕ) (p night second : ℕ) → p < 2 ^ 32 → night ≡ one_if (eqb (duty b 6) 2) → second ≡ one_if (eqb (duty b 6) 3) → (x : Row)
    → x.night ≡ p * 2 + night → x.second ≡ bit_and (x.night * 2 + second) ((2 ^ 64 - 1) - x.night) → x.rest ≡ bit_and (x.second * 2) ((2 ^ 64 - 1) - x.night)
    → RowOf b p x
unfolding nights seconds rests
row_made b p night second h en es x e1 e2 e3 =
    let f1 : x.night ≡ nights b p h = e1 ∙ ap (λ (v : ℕ). p * 2 + v) en in
    let f2 : x.second ≡ seconds b p h = e2 ∙ ap₂ (λ (u v : ℕ). bit_and (u * 2 + v) ((2 ^ 64 - 1) - u)) f1 es in
    let f3 : x.rest ≡ rests b p h = e3 ∙ ap₂ (λ (u v : ℕ). bit_and (v * 2) ((2 ^ 64 - 1) - u)) f1 f2 in
    record {
      night = λ d l. ap (λ (v : ℕ). has v d) f1 ∙ night_is b p h d;
      second = λ d l. ap (λ (v : ℕ). has v d) f2 ∙ second_is b p h d l;
      rest = λ d l. ap (λ (v : ℕ). has v d) f3 ∙ rest_is b p h d l;
      fits = or_lt 64 (bit_or x.night x.second) x.rest
          (or_lt 64 x.night x.second (rw f1 (nights_small b p h)) (rw e2 (masked_small (x.night * 2 + second) x.night)))
          (rw e3 (masked_small (x.second * 2) x.night));
    }

-- ---- what the marks allow

pub row_small : (b : List ℕ) (p d : ℕ) → row_state b p d < 4
unfolding row_state
row_small b p zero = go (eqb (duty b 6) 2) (eqb (duty b 6) 3)
  where
    go : (s t : Bool) → cond s 1 (cond t 2 0) < 4
    go true t = omega arith
    go false true = omega arith
    go false false = omega arith
row_small b p (suc d) = go (has p d) (eqb (row_state b p d) 1) (eqb (row_state b p d) 2)
  where
    go : (s t u : Bool) → cond s 1 (cond t 2 (cond u 3 0)) < 4
    go true t u = omega arith
    go false true u = omega arith
    go false false true = omega arith
    go false false false = omega arith

-- a day is in one of four sets
open_is : (s : ℕ) → s < 4 → not ((eqb s 1 || eqb s 2) || eqb s 3) ≡ eqb s 0
open_is zero h = refl
open_is (suc zero) h = refl
open_is (suc (suc zero)) h = refl
open_is (suc (suc (suc zero))) h = refl
open_is (suc (suc (suc (suc s)))) h = absurd (omega arith)

pick : (s : ℕ) (u : ℕ → Bool) → s < 4 → ((((eqb s 0 && u 0) || (eqb s 1 && u 1)) || (eqb s 2 && u 2)) || (eqb s 3 && u 3)) ≡ u s
pick zero u h = or-false ((u 0 || false) || false) ∙ or-false (u 0 || false) ∙ or-false (u 0)
pick (suc zero) u h = or-false (u 1 || false) ∙ or-false (u 1)
pick (suc (suc zero)) u h = or-false (u 2)
pick (suc (suc (suc zero))) u h = refl
pick (suc (suc (suc (suc s)))) u h = absurd (omega arith)

available_where : (b : List ℕ) (p d : ℕ) → (workable b (suc d) && eqb (row_state b p (suc d)) 0) ≡ available_on b p (suc d)
unfolding available_on
available_where b p d = and_comm (workable b (suc d)) (eqb (row_state b p (suc d)) 0)

-- a day's mark allows the row's state there
allowed_at : (table : List (List ℕ)) (b : List ℕ) (n p : ℕ) → marks_allow table b n p ≡ true → (i : ℕ) → i < n → allows table (get_or b (11 + i) 0) (row_state b p (suc i)) ≡ true
unfolding marks_allow
allowed_at table b n p e i q =
    let at = all_at (λ d. allows table (mark_on b d) (row_state b p d)) (up_from 1 n) e i (rw (length_range 1 n) q) in
    let here : get_or (up_from 1 n) i 0 ≡ suc i = range_at 1 n i q ∙ one-add i in
    subst (λ (d : ℕ). allows table (mark_on b d) (row_state b p d) ≡ true) here at

-- the days that bar the row, as the code has them
abbrev barring : List (List ℕ) → ℕ → List ℕ → Row → ℕ
barring table n b x =
    bit_or (bit_or (bit_or
    (bit_and ((2 ^ 64 - 1) - bit_or (bit_or x.night x.second) x.rest) (number_of (barred table b 0) (suc n)))
    (bit_and x.night (number_of (barred table b 1) (suc n))))
    (bit_and x.second (number_of (barred table b 2) (suc n))))
    (bit_and x.rest (number_of (barred table b 3) (suc n)))

module _ (b : List ℕ) (n p : ℕ) (x : Row) (ok : RowOf b p x) where
  open_day : (d : ℕ) → d < 64 → has ((2 ^ 64 - 1) - bit_or (bit_or x.night x.second) x.rest) d ≡ eqb (row_state b p d) 0
  open_day d l =
      has_not 64 (bit_or (bit_or x.night x.second) x.rest) d ok.fits l
      ∙ ap not (has_or (bit_or x.night x.second) x.rest d ∙ ap₂ ◌||◌ (has_or x.night x.second d ∙ ap₂ ◌||◌ (ok.night d l) (ok.second d l)) (ok.rest d l))
      ∙ open_is (row_state b p d) (row_small b p d)

  module _ (table : List (List ℕ)) where
    both : (y t d : ℕ) (v : Bool) → has y d ≡ v → has (bit_and y (number_of (barred table b t) (suc n))) d ≡ (v && has (number_of (barred table b t) (suc n)) d)
    both y t d v e = has_and y (number_of (barred table b t) (suc n)) d ∙ ap (λ (w : Bool). w && has (number_of (barred table b t) (suc n)) d) e

    -- a day bars the row when its mark bars the row's state there
    barring_has : (d : ℕ) → d < 64 → has (barring table n b x) d ≡ has (number_of (barred table b (row_state b p d)) (suc n)) d
    barring_has d l =
        let s = row_state b p d in
        has_or _ _ d
        ∙ ap₂ ◌||◌
        (has_or _ _ d ∙ ap₂ ◌||◌
        (has_or _ _ d ∙ ap₂ ◌||◌ (both _ 0 d (eqb s 0) (open_day d l)) (both _ 1 d (eqb s 1) (ok.night d l)))
        (both _ 2 d (eqb s 2) (ok.second d l)))
        (both _ 3 d (eqb s 3) (ok.rest d l))
        ∙ pick s (λ t. has (number_of (barred table b t) (suc n)) d) (row_small b p d)

    -- none bars it: her marks allow it
    allowed_there : (e : barring table n b x ≡ 0) (i : ℕ) → n ≤ day_places → i < n → allows table (get_or b (11 + i) 0) (row_state b p (suc i)) ≡ true
    allowed_there e i small l =
        not-false (allows table (get_or b (11 + i) 0) (row_state b p (suc i)))
        (sym (set_has (barred table b (row_state b p (suc i))) n (suc i) (suc-le-suc l))
        ∙ sym (barring_has (suc i) (omega arith)) ∙ ap (λ (y : ℕ). has y (suc i)) e ∙ has_above 0 0 (suc i) (omega arith) (omega arith))

    none_bars : n ≤ day_places → barring table n b x ≡ 0 → marks_allow table b n p ≡ true
    unfolding marks_allow
    none_bars small e = all_range (λ d. allows table (mark_on b d) (row_state b p d)) 1 n (λ i l. rw (one-add i) (allowed_there e i small l))

    -- and where they do, none bars it
    barred_not : n ≤ day_places → marks_allow table b n p ≡ true → (d : ℕ) → d < 64 → has (barring table n b x) d ≡ false
    unfolding marks_allow
    barred_not small e zero l = barring_has 0 l ∙ set_has (barred table b (row_state b p 0)) n 0 (omega arith)
    barred_not small e (suc i) l = barring_has (suc i) l ∙ go (dec_lt i n)
      where
        go : Dec (i < n) → has (number_of (barred table b (row_state b p (suc i))) (suc n)) (suc i) ≡ false
        go (yes q) = set_has (barred table b (row_state b p (suc i))) n (suc i) (suc-le-suc q) ∙ ap not (allowed_at table b n p e i q)
        go (no q) = set_above (barred table b (row_state b p (suc i))) n (suc i) (omega arith)

    barring_small : n ≤ day_places → barring table n b x < 2 ^ 64
    barring_small small =
        or_lt 64 _ _ (or_lt 64 _ _
        (or_lt 64 _ _ (part ((2 ^ 64 - 1) - bit_or (bit_or x.night x.second) x.rest) 0) (part x.night 1))
        (part x.second 2)) (part x.rest 3)
      where
        part : (y t : ℕ) → bit_and y (number_of (barred table b t) (suc n)) < 2 ^ 64
        part y t = omega (arith, and_le_r y (number_of (barred table b t) (suc n)), set_small (barred table b t) n small)

    pub marks_by_sets : n ≤ day_places → eqb (barring table n b x) 0 ≡ marks_allow table b n p
    marks_by_sets small = go (eqb (barring table n b x) 0) (marks_allow table b n p) refl refl
      where
        go : (s t : Bool) → eqb (barring table n b x) 0 ≡ s → marks_allow table b n p ≡ t → eqb (barring table n b x) 0 ≡ marks_allow table b n p
        go true t e f = e ∙ sym (none_bars small (eqb-true (barring table n b x) 0 e))
        go false false e f = e ∙ sym f
        go false true e f = absurd (eqb-false (barring table n b x) 0 e (none_zero 64 (barring table n b x) (barring_small small) (barred_not small f)))

  -- ---- the days on which she is available

  pub available_by_sets : n ≤ day_places → AvailableDays b n p (bit_and (number_of (workable b) (suc n)) ((2 ^ 64 - 1) - bit_or (bit_or x.night x.second) x.rest) / 2)
  available_by_sets small = record { within = within; each = each }
    where
      W : ℕ
      W = number_of (workable b) (suc n)

      F : ℕ
      F = (2 ^ 64 - 1) - bit_or (bit_or x.night x.second) x.rest

      within : bit_and W F / 2 < 2 ^ n
      within = shr_lt n 1 (rw (add-one n) (lt_of_le_of_lt (and_le_l W F) (number_lt (workable b) (suc n))))

      each : (d : ℕ) → d < n → has (bit_and W F / 2) d ≡ available_on b p (suc d)
      each d l =
          has_back (bit_and W F) d ∙ has_and W F (suc d)
          ∙ ap₂ ◌&&◌ (set_has (workable b) n (suc d) (suc-le-suc l)) (open_day (suc d) (omega arith))
          ∙ available_where b p d

-- ---- days on which no pattern of hers starts

-- the days without a start fit a pattern
pub never_fits : (table : List (List ℕ)) (n : ℕ) (b : List ℕ) {bs : Bars} → bs ≡ bars_of table n b → n ≤ day_places → bit_or (bs.night / 2) (bs.second / 4) < 2 ^ 32
never_fits table n b e small =
    rw e
    (or_lt 32 (number_of (barred table b 1) (suc n) / 2) (number_of (barred table b 2) (suc n) / 4)
    (omega (arith, set_small (barred table b 1) n small)) (omega (arith, set_small (barred table b 2) n small)))

module _ (table : List (List ℕ)) (r : Rules) (n p : ℕ) (b : List ℕ) (small : n ≤ day_places) (known : in_common r n p ≡ true) where
  night_state : (d : ℕ) → has p d ≡ true → row_state b p (suc d) ≡ 1
  unfolding row_state
  night_state d q = rw q

  second_state : (d : ℕ) → has p d ≡ true → has p (suc d) ≡ false → row_state b p (suc (suc d)) ≡ 2
  unfolding row_state
  second_state d q s = rw (s, q)

  own_day : marks_allow table b n p ≡ true → (d : ℕ) → has p d ≡ true → has (number_of (barred table b 1) (suc n)) (suc d) ≡ false
  own_day e d q = go (dec_lt d n)
    where
      go : Dec (d < n) → has (number_of (barred table b 1) (suc n)) (suc d) ≡ false
      go (yes l) =
          set_has (barred table b 1) n (suc d) (suc-le-suc l)
          ∙ ap not (subst (λ (t : ℕ). allows table (get_or b (11 + d) 0) t ≡ true) (night_state d q) (allowed_at table b n p e d l))
      go (no l) = set_above (barred table b 1) n (suc d) (omega arith)

  next_day : marks_allow table b n p ≡ true → (d : ℕ) → has p d ≡ true → has (number_of (barred table b 2) (suc n)) (suc (suc d)) ≡ false
  next_day e d q = go (dec_lt (suc d) n)
    where
      go : Dec (suc d < n) → has (number_of (barred table b 2) (suc n)) (suc (suc d)) ≡ false
      go (yes l) =
          set_has (barred table b 2) n (suc (suc d)) (suc-le-suc l)
          ∙ ap not (subst (λ (t : ℕ). allows table (get_or b (11 + suc d) 0) t ≡ true) (second_state d q (common_apart r n p d known q l)) (allowed_at table b n p e (suc d) l))
      go (no l) = set_above (barred table b 2) n (suc (suc d)) (omega arith)

  never_has : (d : ℕ) → has (never table n b) d ≡ (has (number_of (barred table b 1) (suc n)) (suc d) || has (number_of (barred table b 2) (suc n)) (suc (suc d)))
  never_has d =
      let Y = number_of (barred table b 2) (suc n) in
      let quarter : Y / 4 ≡ Y / 2 / 2 = omega arith in
      has_or (number_of (barred table b 1) (suc n) / 2) (Y / 4) d
      ∙ ap₂ ◌||◌ (has_back (number_of (barred table b 1) (suc n)) d) (ap (λ (y : ℕ). has y d) quarter ∙ has_back (Y / 2) d ∙ has_back Y (suc d))

  unbarred : marks_allow table b n p ≡ true → (d : ℕ) → (has p d && has (never table n b) d) ≡ false
  unbarred e d = go (has p d) refl
    where
      go : (t : Bool) → has p d ≡ t → (has p d && has (never table n b) d) ≡ false
      go true q = rw (q, never_has d, own_day e d q, next_day e d q)
      go false q = rw q

  never_small : bit_and p (never table n b) < 2 ^ 32
  never_small =
      lt_of_le_of_lt (and_le_r p (never table n b)) (never_fits table n b refl small)

  pub marks_never : (bit_and p (never table n b) ≡ 0 → ⊥) → marks_allow table b n p ≡ false
  marks_never f = go (marks_allow table b n p) refl
    where
      go : (t : Bool) → marks_allow table b n p ≡ t → marks_allow table b n p ≡ false
      go true e = absurd (f (none_zero 32 (bit_and p (never table n b)) never_small (λ d l. has_and p (never table n b) d ∙ unbarred e d)))
      go false e = e

-- ---- the same of a nurse's masks

module _ (r : Rules) (n p : ℕ) (b : List ℕ) (m : Masks) (is : m ≡ masks_of r n b) where
  pub masks_row : (x : Row) → (m.night ≡ one_if (eqb (duty b 6) 2) → m.second ≡ one_if (eqb (duty b 6) 3) → RowOf b p x) → RowOf b p x
  unfolding masks_by
  masks_row x f = f (ap (λ (k : Masks). k.night) is) (ap (λ (k : Masks). k.second) is)

  pub masks_allow : n ≤ day_places → (x : Row) → RowOf b p x
      → eqb (bit_or (bit_or (bit_or
      (bit_and ((2 ^ 64 - 1) - bit_or (bit_or x.night x.second) x.rest) m.bars.opened)
      (bit_and x.night m.bars.night))
      (bit_and x.second m.bars.second))
      (bit_and x.rest m.bars.rest)) 0 ≡ marks_allow allow_table b n p
  unfolding masks_by
  masks_allow small x ok = rw (ap (λ (k : Masks). k.bars) is) (marks_by_sets b n p x ok allow_table small)

  pub masks_available : n ≤ day_places → (x : Row) → RowOf b p x
      → AvailableDays b n p (bit_and m.workable ((2 ^ 64 - 1) - bit_or (bit_or x.night x.second) x.rest) / 2)
  unfolding masks_by
  masks_available small x ok = rw (ap (λ (k : Masks). k.workable) is) (available_by_sets b n p x ok small)

-- ---- a nurse's masks, made of their parts

-- whether a duty is k, by what the code reads of it
pub one_where : (k : ℕ) {x y n : ℕ} → n ≡ one_if (eqb x k) → x ≡ y → n ≡ one_if (eqb y k)
one_where k e f = e ∙ ap (λ (v : ℕ). one_if (eqb v k)) f

module _ (table : List (List ℕ)) (r : Rules) (n : ℕ) (b : List ℕ) (bs : Bars) (wk ni se ne lo hi : ℕ) (la : Run)
    (e1 : bs ≡ bars_of table n b) (e2 : wk ≡ number_of (workable b) (suc n)) (e3 : ni ≡ one_if (eqb (duty b 6) 2)) (e4 : se ≡ one_if (eqb (duty b 6) 3)) (e8 : lo ≡ least_nights_of b) (e9 : hi ≡ most_nights_of b) where
  pub masks_made : ne ≡ 2 ^ near r la.prev la.run - 1 → (la.prev ≡ (last_run b).0) × (la.run ≡ (last_run b).1)
      → record { bars = bs; never = bit_or (bs.night / 2) (bs.second / 4); workable = wk; night = ni; second = se; near = ne; last = la; least = lo; most = hi } ≡ masks_by table r n b
  unfolding masks_by
  masks_made e5 (e6, e7) =
      let run : la ≡ record { prev = (last_run b).0; run = (last_run b).1 } = ap₂ (λ (x y : ℕ). record { prev = x; run = y }) e6 e7 in
      let days : ne ≡ 2 ^ near r (last_run b).0 (last_run b).1 - 1 = e5 ∙ ap₂ (λ (x y : ℕ). 2 ^ near r x y - 1) e6 e7 in
      rw (e1, e2, e3, e4, e8, e9, days, run)

  pub masks_small : n ≤ day_places → (la.prev ≤ 7) × (la.run ≤ 7)
      → Masked (record { bars = bs; never = bit_or (bs.night / 2) (bs.second / 4); workable = wk; night = ni; second = se; near = ne; last = la; least = lo; most = hi })
  masks_small small (h, k) = record {
    night = rw e3 (omega (arith, one_below (eqb (duty b 6) 2)));
    second = rw e4 (omega (arith, one_below (eqb (duty b 6) 3)));
    workable = rw e2 (set_small (workable b) n small);
    prev = h;
    run = k;
  }
