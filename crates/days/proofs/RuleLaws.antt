-- Laws of the day rule over a row: what its tests of places and days come to, and the rests of the days after the first.
use Rattle.std.specs.Prelude.{◌≡◌, refl, Bool, true, false, cond, not, ◌&&◌, List, [], ◌∷◌, map, ℕ, suc, ◌+◌, ◌-◌, ◌≤◌, ◌<◌, eqb, length, get_or}
use Rattle.std.proofs.Common.{sym, ap, ◌∙◌, add-zero, zero-add, arith, lt-ltb, le-ltb}
use Rattle.std.proofs.Math.Nat.{sub-zero}
use Rattle.std.specs.List.{range_with_len, filter as kept}
use Rattle.numbers.specs.Range.{up_from, filter, all, any_of}
use Rattle.numbers.specs.Sum.{one_if}
use Rattle.numbers.specs.Digits.{has}
use Rattle.numbers.proofs.RangeLaws.{range_next, range_done, length_filtered}
use Rattle.numbers.proofs.IterLaws.{range_is}
use Rattle.days.proofs.ChainLaws.{all_map, any_map, all_shift, filter_is}
use Rattle.rows.specs.Rows.{started}
use Rattle.days.specs.Days.{in_run, is_rest, alternating, same, window, rests}
use Rattle.days.specs.CodeMonth.{duty_at, rest_on}
use Rattle.days.specs.declared.month.Month.{Month}

-- ---- the duty at a place

pub duty_before : (row : List ℕ) (q t : ℕ) → t < 7 → get_or row t 0 ≡ duty_at row q t
unfolding duty_at
duty_before row q t h = rw (lt-ltb t 7 h)

pub duty_worked : (row : List ℕ) (q t : ℕ) → 7 ≤ t → has q (t - 7) ≡ true → 1 ≡ duty_at row q t
unfolding duty_at
duty_worked row q t h e = rw (le-ltb t 7 h, e)

pub duty_idle : (row : List ℕ) (q t : ℕ) → 7 ≤ t → has q (t - 7) ≡ false → get_or row t 0 ≡ duty_at row q t
unfolding duty_at
duty_idle row q t h e = rw (le-ltb t 7 h, e)

-- ---- the duties of a window are those of its places

pub run_is : (f : ℕ → ℕ) (longest t : ℕ) → all (λ u. in_run (f u)) (up_from (t - longest) (suc longest)) ≡ all in_run (window f (suc longest) t)
run_is f longest t =
    let e : t - longest ≡ suc t - suc longest = omega arith in
    ap (λ (a : ℕ). all (λ u. in_run (f u)) (up_from a (suc longest))) e ∙ sym (all_map in_run f (up_from (suc t - suc longest) (suc longest)))

pub rest_is : (f : ℕ → ℕ) (t : ℕ) → any_of (λ u. is_rest (f u)) (up_from (t - 6) 7) ≡ any_of is_rest (window f 7 t)
rest_is f t =
    let e : t - 6 ≡ suc t - 7 = omega arith in
    ap (λ (a : ℕ). any_of (λ u. is_rest (f u)) (up_from a 7)) e ∙ sym (any_map is_rest f (up_from (suc t - 7) 7))

-- ---- a sequence that ends at place t

-- what is left of a sequence s after i of its duties, the next at place b
same_after : (s : List ℕ) (f : ℕ → ℕ) (t : ℕ → Bool) (i b : ℕ) → ((j : ℕ) → t (i + j) ≡ eqb (get_or s j 0) (f (b + j)))
    → all t (up_from i (length s)) ≡ same s (map f (up_from b (length s)))
unfolding all same up_from
same_after [] f t i b h = refl
same_after (x ∷ s) f t i b h =
    let first : t i ≡ eqb x (f b) = ap t (sym (add-zero i)) ∙ h 0 ∙ ap (λ (y : ℕ). eqb x (f y)) (add-zero b) in
    rw first (ap (λ v. eqb x (f b) && v) (same_after s f t (suc i) (suc b) (λ j. ap t (next i j) ∙ h (suc j) ∙ ap (λ (y : ℕ). eqb (get_or s j 0) (f y)) (sym (next b j)))))
  where
    next : (a j : ℕ) → suc a + j ≡ a + suc j
    next a j = omega arith

pub same_is : (f : ℕ → ℕ) (t : ℕ) → 4 ≤ t → all (λ j. eqb (get_or alternating j 0) (f (t - 4 + j))) (up_from 0 5) ≡ same alternating (window f 5 t)
same_is f t h =
    same_after alternating f (λ j. eqb (get_or alternating j 0) (f (t - 4 + j))) 0 (suc t - 5)
    (λ j. (let e : t - 4 + (0 + j) ≡ suc t - 5 + j = omega arith in rw (zero-add j) (ap (λ (y : ℕ). eqb (get_or alternating j 0) (f y)) (rw (zero-add j) at e))))

-- ---- the days of the month after the first d of n, by their places

abbrev pub places_from : ℕ → ℕ → List ℕ
places_from n d = up_from (d + 7) (n - d)

pub days_turn : (n d : ℕ) → d < n → places_from n d ≡ (d + 7) ∷ places_from n (d + 1)
days_turn n d h = range_next (d + 7) (d + 1 + 7) n d (omega arith) h

pub days_all : (n : ℕ) → up_from 7 n ≡ places_from n 0
days_all n = ap (λ (k : ℕ). up_from 7 k) (sym (sub-zero n))

-- ---- the rests

abbrev pub rests_from : (ℕ → ℕ) → ℕ → ℕ → ℕ
rests_from f n d = length (filter (λ t. is_rest (f t)) (places_from n d))

pub rests_start : (f : ℕ → ℕ) (n : ℕ) → rests f n ≡ rests_from f n 0
unfolding rests
rests_start f n = ap (λ (l : List ℕ). length (filter (λ t. is_rest (f t)) l)) (days_all n)

pub rests_turn : (f : ℕ → ℕ) (n d : ℕ) → d < n → rests_from f n d ≡ one_if (is_rest (f (d + 7))) + rests_from f n (d + 1)
unfolding filter
rests_turn f n d h = rw (days_turn n d h) (length_filtered (is_rest (f (d + 7))) (d + 7) (filter (λ t. is_rest (f t)) (places_from n (d + 1))))

pub rests_done : (f : ℕ → ℕ) (n d : ℕ) → n ≤ d → rests_from f n d ≡ 0
unfolding filter
rests_done f n d h = rw (range_done (d + 7) n d h)

pub rests_are : (f : ℕ → ℕ) (n : ℕ) → length (kept (λ t. is_rest (f t)) (range_with_len 7 n)) ≡ rests f n
unfolding rests
rests_are f n = ap length (ap (kept (λ t. is_rest (f t))) (sym (range_is 7 n)) ∙ sym (filter_is (λ t. is_rest (f t)) (up_from 7 n)))

pub rest_day : (row : List ℕ) (q n d : ℕ) → d < n → rests_from (duty_at row q) n d ≡ rest_on row q d + rests_from (duty_at row q) n (d + 1)
unfolding rest_on
rest_day row q n d h = rests_turn (duty_at row q) n d h

-- ---- the choice

pub choice_days : (m : Month) (q : ℕ) → all (λ d. cond (has q d) (has m.available d) (not (has m.fixed d))) (up_from 0 m.days)
    ≡ all (λ d. cond (started q d) (started m.available d) (not (started m.fixed d))) (up_from 1 m.days)
choice_days m q = sym (all_shift (λ d. cond (started q d) (started m.available d) (not (started m.fixed d))) 0 m.days)
