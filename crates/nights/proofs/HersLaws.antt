-- One turn of each loop over the days: the day that it looks at, and the days that are left; and the parts of `hers`.
use Rattle.std.specs.Prelude.{◌≡◌, refl, true, false, ◌&&◌, List, [], ◌∷◌, ℕ, suc, ◌+◌, ◌-◌, ◌^◌, ◌≤◌, ◌<◌, leb, ltb, eqb, length, get_or}
use Rattle.std.proofs.Common.{add-zero, add-one, ne_eqb}
use Rattle.std.proofs.Math.Nat.{sub-zero}
use Rattle.numbers.specs.Range.{up_from, filter}
use Rattle.numbers.specs.Digits.{has}
use Rattle.numbers.proofs.RangeLaws.{range_turn, range_done}
use Rattle.rows.specs.Rows.{started, marks_allow}
use Rattle.fields.specs.declared.rules.Rules.{Rules}
use Rattle.nights.specs.Nights.{starts, follow, allowed, run_with, in_common}
use Rattle.nights.specs.Hers.{shifted, through, last_duty, last_run, hers}

-- ---- the starts that are left

abbrev pub left : ℕ → ℕ → ℕ → List ℕ
left p n d = filter (started p) (up_from (suc d) (n - d))

pub left_all : (p n : ℕ) → left p n 0 ≡ starts n p
unfolding starts
left_all p n = rw (sub-zero n)

pub left_done : (p n d : ℕ) → n ≤ d → left p n d ≡ []
unfolding filter
left_done p n d h = rw (range_done (suc d) n d h)

pub left_yes : (p n d : ℕ) → d < n → has p d ≡ true → left p n d ≡ suc d ∷ left p n (d + 1)
unfolding filter
left_yes p n d h e = rw (range_turn n d h, e)

pub left_no : (p n d : ℕ) → d < n → has p d ≡ false → left p n d ≡ left p n (d + 1)
unfolding filter
left_no p n d h e = rw (range_turn n d h, e)

module _ (r : Rules) (prev run off p n d : ℕ) (h : d < n) where
  pub follow_yes : has p d ≡ true
      → follow r prev run (shifted off (left p n d))
      ≡ (allowed r prev run (d + 1 + off) && follow r (d + 1 + off) (run_with prev run (d + 1 + off)) (shifted off (left p n (d + 1))))
  unfolding follow shifted
  follow_yes e = rw (left_yes p n d h e, add-one d)

  pub follow_no : has p d ≡ false → follow r prev run (shifted off (left p n d)) ≡ follow r prev run (shifted off (left p n (d + 1)))
  follow_no e = rw (left_no p n d h e)

pub follow_done : (r : Rules) (prev run off p n d : ℕ) → n ≤ d → follow r prev run (shifted off (left p n d)) ≡ true
unfolding follow shifted
follow_done r prev run off p n d h = rw (left_done p n d h)

-- ---- the seven days

abbrev pub lately : List ℕ → ℕ → List ℕ
lately b d = filter (λ x. eqb (last_duty b x) 2) (up_from (suc d) (7 - d))

pub lately_all : (b : List ℕ) → last_run b ≡ through 0 0 (lately b 0)
unfolding last_run
lately_all b = refl

module _ (b : List ℕ) (prev run d : ℕ) (h : d < 7) where
  pub through_yes : get_or b d 0 ≡ 2 → through prev run (lately b d) ≡ through (d + 1) (run_with prev run (d + 1)) (lately b (d + 1))
  unfolding through filter
  through_yes e = rw (range_turn 7 d h, e, add-one d)

  pub through_no : (get_or b d 0 ≡ 2 → ⊥) → through prev run (lately b d) ≡ through prev run (lately b (d + 1))
  unfolding through filter
  through_no f = rw (range_turn 7 d h, ne_eqb (get_or b d 0) 2 f)

pub through_done : (b : List ℕ) (prev run d : ℕ) → 7 ≤ d → through prev run (lately b d) ≡ (prev, run)
unfolding through filter
through_done b prev run d h = rw (range_done (suc d) 7 d h)

-- ---- hers

pub shifted_zero : (xs : List ℕ) → shifted 0 xs ≡ xs
unfolding shifted
shifted_zero [] = refl
shifted_zero (x ∷ xs) = rw (add-zero, shifted_zero xs)

pub hers_is : (table : List (List ℕ)) (r : Rules) (n p : ℕ) (b : List ℕ) → hers table r n b p
    ≡ (ltb p (2 ^ n) && ((leb (length (starts n p)) r.most && follow r 0 0 (starts n p))
    && (follow r (last_run b).0 (last_run b).1 (shifted 7 (starts n p))
    && (marks_allow table b n p
    && (leb (get_or b 7 0) (length (starts n p)) && leb (length (starts n p)) (get_or b 8 0))))))
unfolding hers in_common
hers_is table r n p b = refl
