-- Lists one after the other in a buffer: one turn of the loops that count and write them, and each list's stretch.
use Rattle.std.specs.Prelude.{◌≡◌, refl, List, [], ◌++◌, ℕ, zero, suc, ◌+◌, ◌-◌, ◌^◌, ◌≤◌, ◌<◌, min, length, get_or, set, take, drop}
use Rattle.std.proofs.Common.{sym, ap, ◌∙◌, subst, append-nil, append_assoc, add-zero, add-one, arith, le-leb, length-append, length-set, get_or-set_same, get_or-set_other}
use Rattle.std.proofs.lemmas.Bool.{lt-leb}
use Rattle.std.proofs.Math.Decide.{dec_lt}
use Rattle.std.proofs.Math.Nat.{sub-zero}
use Rattle.std.proofs.Math.Seq.{drop-append_seam, take-append_seam}
use Rattle.fields.specs.Sizes.{nurse_places}
use Rattle.numbers.proofs.BufferLaws.{Halves, halves_count, halves_written, rest_room, as_long}
use Rattle.daylists.specs.Lists.{up_to, first_over}
use Rattle.daylists.specs.CodeLists.{AllFit, FirstOver}

pub up_none : (f : ℕ → List ℕ) → up_to f 0 ≡ []
unfolding up_to
up_none f = refl

module _ (f : ℕ → List ℕ) where
  pub up_one : (i : ℕ) → up_to f (i + 1) ≡ up_to f i ++ f i
  unfolding up_to
  up_one i = rw (add-one i)

  pub up_length : (i : ℕ) → length (up_to f (i + 1)) ≡ length (up_to f i) + length (f i)
  up_length i = ap length (up_one i) ∙ length-append (up_to f i) (f i)

  -- the lists of more begin with those of fewer
  pub up_begins : (i k : ℕ) → (L : List ℕ) × (up_to f (i + k) ≡ up_to f i ++ L)
  up_begins i zero = ([], ap (up_to f) (add-zero i) ∙ sym (append-nil (up_to f i)))
  up_begins i (suc k) =
      let r = up_begins i k in
      let e : i + suc k ≡ (i + k) + 1 = omega arith in
      (r.0 ++ f (i + k), ap (up_to f) e ∙ up_one (i + k) ∙ ap (λ (l : List ℕ). l ++ f (i + k)) r.1 ∙ append_assoc (up_to f i) r.0 (f (i + k)))

  pub up_mono : (i m : ℕ) → i ≤ m → length (up_to f i) ≤ length (up_to f m)
  up_mono i m h =
      let r = up_begins i (m - i) in
      let e : i + (m - i) ≡ m = omega arith in
      omega (arith, simp length-append at (ap length (sym (ap (up_to f) e) ∙ r.1)))

  -- the i-th list's stretch of a buffer that begins with all
  pub stretch_is : (m i : ℕ) (rest : List ℕ) → i < m → take (length (up_to f (i + 1)) - length (up_to f i)) (drop (length (up_to f i)) (up_to f m ++ rest)) ≡ f i
  stretch_is m i rest h =
      let r = up_begins (i + 1) (m - (i + 1)) in
      let e : i + 1 + (m - (i + 1)) ≡ m = omega arith in
      let n : length (up_to f (i + 1)) - length (up_to f i) ≡ length (f i) = omega (arith, up_length i) in
      let all : up_to f m ++ rest ≡ up_to f i ++ (f i ++ (r.0 ++ rest)) =
      ap (λ (l : List ℕ). l ++ rest) (sym (ap (up_to f) e) ∙ r.1 ∙ ap (λ (l : List ℕ). l ++ r.0) (up_one i))
      ∙ append_assoc (up_to f i ++ f i) r.0 rest ∙ append_assoc (up_to f i) (f i) (r.0 ++ rest) in
      rw (n, all, drop-append_seam) (take-append_seam (f i) (r.0 ++ rest))

  module _ (places m i : ℕ) where
    over_yes : i < m → length (up_to f (i + 1)) ≤ places → first_over f places i (m - i) ≡ first_over f places (i + 1) (m - (i + 1))
    unfolding first_over
    over_yes h l =
        let e : m - i ≡ suc (m - (i + 1)) = omega arith in
        rw (e, ← add-one i, le-leb (length (up_to f (i + 1))) places l)

    over_no : i < m → places < length (up_to f (i + 1)) → first_over f places i (m - i) ≡ i
    unfolding first_over
    over_no h l =
        let e : m - i ≡ suc (m - (i + 1)) = omega arith in
        rw (e, ← add-one i, lt-leb (length (up_to f (i + 1))) places l)

    over_done : m ≤ i → first_over f places i (m - i) ≡ i
    unfolding first_over
    over_done h =
        let e : m - i ≡ 0 = omega arith in
        rw e

-- where a loop goes over all of them
pub in_all : {i m n : ℕ} → m ≡ n → i < m → i < n
in_all {i} e l = subst (λ (k : ℕ). i < k) e l

-- ---- writing: the first `i` lists stand at the buffer's start, `used` numbers

pub record FillAt (f : ℕ → List ℕ) (m : ℕ) (before : List ℕ) (i used : ℕ) (buf : List ℕ) : Type 0 where
  pub i_most : i ≤ m
  pub used_is : used ≡ length (up_to f i)
  pub buf_is : buf ≡ up_to f i ++ drop (length (up_to f i)) before

pub fill_start : (f : ℕ → List ℕ) (m : ℕ) (before : List ℕ) → FillAt f m before 0 0 before
fill_start f m before = record {
  i_most = omega arith;
  used_is = sym (ap length (up_none f));
  buf_is = rw (up_none f);
}

module _ {f : ℕ → List ℕ} {m : ℕ} {before : List ℕ} {i used : ℕ} {buf : List ℕ} (h : FillAt f m before i used buf) where
  pub fill_length : length (up_to f m) ≤ length before → length buf ≡ length before
  fill_length room = as_long (up_to f i) before buf h.buf_is (omega (arith, up_mono f i m h.i_most))

  -- the next list beside those before it
  next_halves : i < m → length (up_to f m) ≤ length before → Halves (up_to f (i + 1)) (up_to f i) (f i) before
  next_halves l room = record { whole = up_one f i; room = omega (arith, up_mono f (i + 1) m (omega arith)) }

  -- the buffer's part behind `used` has room for the next list
  pub next_room : {L : List ℕ} → L ≡ f i → i < m → length (up_to f m) ≤ length before → length L ≤ length (take (length buf - used) (drop used buf))
  next_room e l room = rw e (rest_room (next_halves l room) h.used_is h.buf_is)

  pub fill_turn : {found : ℕ} {L ys : List ℕ} → L ≡ f i → i < m → length (up_to f m) ≤ length before → found ≡ length L
      → ys ≡ L ++ drop (length L) (take (length buf - used) (drop used buf))
      → FillAt f m before (i + 1) (used + found) (take used buf ++ (ys ++ drop (length buf - used) (drop used buf)))
  fill_turn g l room e q = record {
    i_most = omega arith;
    used_is = halves_count (next_halves l room) h.used_is h.buf_is (rw g at e) (rw g at q);
    buf_is = halves_written (next_halves l room) h.used_is h.buf_is (rw g at e) (rw g at q);
  }

  pub fill_end : m ≤ i → (used ≡ length (up_to f m)) × (buf ≡ up_to f m ++ drop (length (up_to f m)) before)
  fill_end l =
      let done : m ≡ i = omega (arith, h.i_most) in
      (rw done h.used_is, rw done h.buf_is)

-- ---- counting: the first `over` lists end within the places, at `at`

pub record CountAt (f : ℕ → List ℕ) (m places over at : ℕ) (ends : List ℕ) : Type 0 where
  pub over_most : over ≤ m
  pub at_is : at ≡ length (up_to f over)
  pub fits : at ≤ places
  pub answer : first_over f places 0 m ≡ first_over f places over (m - over)
  pub ends_long : length ends ≡ nurse_places + 1
  pub ends_are : (k : ℕ) → k ≤ over → get_or ends k 0 ≡ length (up_to f k)

pub count_start : (f : ℕ → List ℕ) (m places : ℕ) (ends : List ℕ) → length ends ≡ nurse_places + 1 → get_or ends 0 0 ≡ 0 → CountAt f m places 0 0 ends
count_start f m places ends long first = record {
  over_most = omega arith;
  at_is = sym (ap length (up_none f));
  fits = omega arith;
  answer = ap (first_over f places 0) (sym (sub-zero m));
  ends_long = long;
  ends_are = λ k h. (let z : k ≡ 0 = omega arith in subst (λ (x : ℕ). get_or ends x 0 ≡ length (up_to f x)) (sym z) (first ∙ sym (ap length (up_none f))));
}

-- a count with a cap that is the largest number, where one more than the room would be past it
pub count_capped : {found cap room : ℕ} {L M : List ℕ} → L ≡ M → found ≡ min cap (length L) → cap ≡ min (room + 1) (2 ^ 64 - 1) → room < 2 ^ 64 → length L ≤ 2 ^ 31 → found ≡ min (room + 1) (length M)
count_capped g e k r l = omega (arith, ap length g)

module _ (f : ℕ → List ℕ) (m places over at : ℕ) (ends : List ℕ) (c : CountAt f m places over at ends) where
  pub count_turn : {found : ℕ} → m ≤ nurse_places → over < m → found ≡ min (places - at + 1) (length (f over)) → found ≤ places - at
      → CountAt f m places (over + 1) (at + found) (set ends (over + 1) (at + found))
  count_turn {found} few h e l =
      let next : at + found ≡ length (up_to f (over + 1)) = omega (arith, up_length f over, c.at_is, c.fits) in
      record {
        over_most = omega arith;
        at_is = next;
        fits = omega (arith, c.fits);
        answer = c.answer ∙ over_yes f places m over h (omega (arith, c.fits));
        ends_long = length-set ends (over + 1) (at + found) ∙ c.ends_long;
        ends_are = λ k i. go k i next (dec_lt k (over + 1));
      }
    where
      go : (k : ℕ) → k ≤ over + 1 → at + found ≡ length (up_to f (over + 1)) → Dec (k < over + 1) → get_or (set ends (over + 1) (at + found)) k 0 ≡ length (up_to f k)
      go k i next (yes q) = get_or-set_other ends (over + 1) k (at + found) 0 (λ s. absurd (omega arith)) ∙ c.ends_are k (omega arith)
      go k i next (no q) =
          let s : k ≡ over + 1 = omega arith in
          subst (λ (x : ℕ). get_or (set ends (over + 1) (at + found)) x 0 ≡ length (up_to f x)) (sym s)
          (get_or-set_same ends (over + 1) (at + found) 0 (omega (arith, c.ends_long)) ∙ next)

  pub counted_over : {found : ℕ} → over < m → found ≡ min (places - at + 1) (length (f over)) → places - at < found → FirstOver f m places (record { nurse = over; ends = ends })
  counted_over h e l =
      let long : places < length (up_to f (over + 1)) = omega (arith, up_length f over, c.at_is, c.fits) in
      record {
        over_is = sym (c.answer ∙ over_no f places m over h long);
        below = h;
        ends_are = c.ends_are;
        too_long = omega (arith, up_mono f (over + 1) m (omega arith));
      }

  pub counted_all : m ≤ over → AllFit f m places ends
  counted_all h =
      let s : over ≡ m = omega (arith, c.over_most) in
      record {
        none_over = sym s ∙ sym (c.answer ∙ over_done f places m over h);
        ends_are = λ k l. c.ends_are k (omega arith);
        fit = omega (arith, ap (λ (x : ℕ). length (up_to f x)) s, c.at_is, c.fits);
      }
