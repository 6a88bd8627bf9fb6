-- The reader's yes says that the ward's body is `Accepted`.
use Rattle.std.specs.Prelude.{ℕ, zero, suc, ◌+◌, ◌-◌, ◌*◌, ◌^◌, ◌≤◌, ◌<◌, ◌≡◌, refl, Bool, true, false, cond, List, [], ◌∷◌, length, get_or, take, drop, eqb}
use Rattle.std.proofs.Common.{sym, ap, ◌∙◌, subst, ⊎_elim, arith, mul-le-mul_right, suc-mul, length-take, length-drop, length-take-le, get_or-take, get_or-drop, pow_pos}
use Rattle.std.proofs.lemmas.Bool.{cases_lt}
use Rattle.std.proofs.Math.ListN.{get_or-eq_default}
use Rattle.layout.specs.declared.Head.{Head}
use Rattle.layout.specs.declared.Field.{Field}
use Rattle.layout.specs.Grammar.{Grammar, number, good, check}
use Rattle.layout.specs.Layout.{range, one, repeat, two, day, days, group, groups, nurse, nurses, weights, limits, gaps, rules, sizes, body, last_edition, later, first, ward}
use Rattle.ward.specs.Answers.{check_ward}
use Rattle.fields.specs.Sizes.{number_places}
use Rattle.fields.specs.Fields.{body_of, Accepted, Block, block_at, block, groups_at, member_sets, needs_at, needs, tail_at, pair_count}
use Rattle.fields.proofs.FieldLaws.{body_one}
use Rattle.layout.proofs.GrammarLaws.{in_range}
use Rattle.layout.proofs.AcceptLaws.{first_let_through, accepted}
use Rattle.layout.proofs.PairLaws.{FirstDay, Paired, paired}
use Rattle.ward.proofs.FitsLaws.{ward_fits}
use Rattle.layout.proofs.AccessLaws.{After, First, Both, Most, Takes, reached, number_has, numbers_have, after_at, past, takes_one, takes_both, takes_repeat, in_repeat, takes_day, takes_group, takes_nurse, nurse_duty, nurse_least_nights, nurse_most_nights, nurse_least_rests, nurse_most_rests, nurse_mark, day_in, day_pair}

-- ---- the numbers after the head

abbrev Between : ℕ → ℕ → ℕ → Type 0
Between a b v = (a ≤ v) × (v ≤ b)

module _ (h : Head) where
  takes_limits : Takes (λ g. one (range 0 64) (one (range 1 6) (repeat 6 (one (range 1 100)) g))) 8
  takes_limits =
      takes_both (one (range 0 64)) (λ g. one (range 1 6) (repeat 6 (one (range 1 100)) g)) 1 7 (takes_one (range 0 64))
      (takes_both (one (range 1 6)) (repeat 6 (one (range 1 100))) 1 6 (takes_one (range 1 6)) (takes_repeat (one (range 1 100)) 1 (takes_one (range 1 100)) 6))

  -- the gaps and what follows them
  gaps_past : (Q : Grammar → Type 0) (j : ℕ) → After (limits h) j Q → After (rules h) (5 + j) Q
  gaps_past Q j a =
      after_at (rules h) Q (2 + (3 + j)) (5 + j) (omega arith)
      (past (λ g. one (range 0 15) (one (range 1 3) g)) 2 (takes_both (one (range 0 15)) (one (range 1 3)) 1 1 (takes_one (range 0 15)) (takes_one (range 1 3)))
      (gaps h 3) (3 + j) Q
      (past (repeat 3 (one (range 1 5))) 3 (takes_repeat (one (range 1 5)) 1 (takes_one (range 1 5)) 3) (limits h) j Q a))

  nurses_past : (Q : Grammar → Type 0) (j : ℕ) → After (nurses h h.m) j Q → After (rules h) (13 + j) Q
  nurses_past Q j a =
      after_at (rules h) Q (5 + (8 + j)) (13 + j) (omega arith)
      (gaps_past Q (8 + j) (past (λ g. one (range 0 64) (one (range 1 6) (repeat 6 (one (range 1 100)) g))) 8 takes_limits (nurses h h.m) j Q a))

  rule_nights : After (rules h) 0 (First (Most 15))
  rule_nights = λ v lo hi. hi

  rule_run : After (rules h) 1 (First (Between 1 3))
  rule_run = λ _ _ _ v lo hi. (lo, hi)

  rule_gap : (k : ℕ) → k < 3 → After (rules h) (2 + (k * 1 + 0)) (First (Most 5))
  rule_gap k l =
      past (λ g. one (range 0 15) (one (range 1 3) g)) 2 (takes_both (one (range 0 15)) (one (range 1 3)) 1 1 (takes_one (range 0 15)) (takes_one (range 1 3)))
      (gaps h 3) (k * 1 + 0) (First (Most 5))
      (in_repeat (one (range 1 5)) 1 (takes_one (range 1 5)) 3 k (limits h) 0 (First (Most 5)) l (λ g v lo hi. hi))

  rule_tabu : After (rules h) (5 + 0) (First (Most 64))
  rule_tabu = gaps_past (First (Most 64)) 0 (λ v lo hi. hi)

  rule_day_run : After (rules h) (5 + 1) (First (Between 1 6))
  rule_day_run = gaps_past (First (Between 1 6)) 1 (λ _ _ _ v lo hi. (lo, hi))

  rule_weight : (k : ℕ) → k < 6 → After (rules h) (5 + (2 + (k * 1 + 0))) (First (Between 1 100))
  rule_weight k l =
      gaps_past (First (Between 1 100)) (2 + (k * 1 + 0))
      (past (λ g. one (range 0 64) (one (range 1 6) g)) 2 (takes_both (one (range 0 64)) (one (range 1 6)) 1 1 (takes_one (range 0 64)) (takes_one (range 1 6)))
      (weights h 6) (k * 1 + 0) (First (Between 1 100))
      (in_repeat (one (range 1 100)) 1 (takes_one (range 1 100)) 6 k (nurses h h.m) 0 (First (Between 1 100)) l (λ g v lo hi. (lo, hi))))

  -- a number of nurse i's block
  in_nurse : (i j b : ℕ) → i < h.m → ((g : Grammar) → After (nurse h.n g) j (First (Most b))) → After (rules h) (13 + (i * (11 + h.n) + j)) (First (Most b))
  in_nurse i j b l a =
      nurses_past (First (Most b)) (i * (11 + h.n) + j)
      (in_repeat (nurse h.n) (11 + h.n) (takes_nurse h.n) h.m i (groups h h.r) j (First (Most b)) l a)

  groups_past : (Q : Grammar → Type 0) (j : ℕ) → After (groups h h.r) j Q → After (rules h) (13 + (h.m * (11 + h.n) + j)) Q
  groups_past Q j a =
      nurses_past Q (h.m * (11 + h.n) + j)
      (past (repeat h.m (nurse h.n)) (h.m * (11 + h.n)) (takes_repeat (nurse h.n) (11 + h.n) (takes_nurse h.n) h.m) (groups h h.r) j Q a)

  in_groups : (g : ℕ) → g < h.r → After (rules h) (13 + (h.m * (11 + h.n) + (g * 1 + 0))) (First (Most (2 ^ h.m - 1)))
  in_groups g l =
      groups_past (First (Most (2 ^ h.m - 1))) (g * 1 + 0)
      (in_repeat (group h.m) 1 (takes_group h.m) h.r g (days h h.n) 0 (First (Most (2 ^ h.m - 1))) l (λ x v lo hi. hi))

  days_past : (Q : Grammar → Type 0) (j : ℕ) → After (days h h.n) j Q → After (rules h) (13 + (h.m * (11 + h.n) + (h.r * 1 + j))) Q
  days_past Q j a =
      groups_past Q (h.r * 1 + j)
      (past (repeat h.r (group h.m)) (h.r * 1) (takes_repeat (group h.m) 1 (takes_group h.m) h.r) (days h h.n) j Q a)

  in_days : (d j : ℕ) → d < h.n → j < 2 + h.r * 4 → After (rules h) (13 + (h.m * (11 + h.n) + (h.r * 1 + (d * (2 + h.r * 4) + j)))) (First (Most 48))
  in_days d j l k =
      days_past (First (Most 48)) (d * (2 + h.r * 4) + j)
      (in_repeat (day h.r) (2 + h.r * 4) (takes_day h.r) h.n d (two h) j (First (Most 48)) l (λ g. day_in h.r j g k))

  in_bounds : (d k g : ℕ) → d < h.n → k < 2 → g < h.r → After (rules h) (13 + (h.m * (11 + h.n) + (h.r * 1 + (d * (2 + h.r * 4) + (2 + (g * 4 + 2 * k)))))) (Both ◌≤◌)
  in_bounds d k g l q p =
      days_past (Both ◌≤◌) (d * (2 + h.r * 4) + (2 + (g * 4 + 2 * k)))
      (in_repeat (day h.r) (2 + h.r * 4) (takes_day h.r) h.n d (two h) (2 + (g * 4 + 2 * k)) (Both ◌≤◌) l (λ x. day_pair h.r k g x q p))

  -- what is left after the days
  tail_past : After (rules h) (13 + (h.m * (11 + h.n) + (h.r * 1 + h.n * (2 + h.r * 4)))) (λ g. g ≡ two h)
  tail_past = days_past (λ g. g ≡ two h) (h.n * (2 + h.r * 4)) (takes_repeat (day h.r) (2 + h.r * 4) (takes_day h.r) h.n (two h))

none_in : (f : Field) (k : ℕ → Grammar) (i : ℕ) (vs : List ℕ) → check (number f k) i [] ≡ good vs → ⊥
unfolding check
none_in f k i vs e = cc

-- ---- a ward's body by its three numbers and the others

module _ (m n r : ℕ) (ws us : List ℕ) (hm : Between 1 48 m) (hn : Between 1 31 n) (hr : Between 0 16 r) (few : length (m ∷ n ∷ r ∷ ws) ≤ number_places)
    (edition at : ℕ) (e : check (rules (record { m = m; n = n; r = r; edition = edition })) at ws ≡ good us) where
  h : Head
  h = record { m = m; n = n; r = r; edition = edition }

  w : List ℕ
  w = m ∷ n ∷ r ∷ ws

  -- the number at an index has P
  at_index : (P : ℕ → Type 0) (j k : ℕ) → k ≡ suc (suc (suc j)) → After (rules (record { m = m; n = n; r = r; edition = edition })) j (First P) → P (get_or w k 0)
  unfolding w
  at_index P j k q a = subst (λ (x : ℕ). P (get_or (m ∷ n ∷ r ∷ ws) x 0)) (sym q) (number_has (rules (record { m = m; n = n; r = r; edition = edition })) j at ws us P a e)

  -- how many of `ws` stand before what later editions add
  abbrev J : ℕ
  J = 13 + (m * (11 + n) + (r * 1 + n * (2 + r * 4)))

  tail : (J ≤ length ws) × Paired n (drop J ws)
  unfolding h
  tail =
      let t = reached (rules h) J at ws us (λ g. g ≡ two h) (tail_past h) e in
      (t.1.inside, paired h t.0 (drop J ws) t.1.rest (ap (λ (g : Grammar). check g t.0 (drop J ws)) (sym t.1.holds) ∙ t.1.left))

  tail_is : tail_at w ≡ 3 + J
  unfolding w tail_at needs_at groups_at
  tail_is =
      let s : n * (2 + r * 4) ≡ n * (4 * r + 2) = ap (λ (x : ℕ). n * x) (omega arith) in
      omega arith

  long : 16 + m * (11 + n) + r + n * (4 * r + 2) ≤ length w
  unfolding w
  long =
      let s : n * (2 + r * 4) ≡ n * (4 * r + 2) = ap (λ (x : ℕ). n * x) (omega arith) in
      omega (arith, tail.0)

  -- the number at k of those that later editions add
  tail_at_lem : (k : ℕ) → get_or w (tail_at w + k) 0 ≡ get_or (drop J ws) k 0
  unfolding w
  tail_at_lem k =
      let o : tail_at w + k ≡ suc (suc (suc (J + k))) = omega (arith, tail_is) in
      ap (λ (x : ℕ). get_or (m ∷ n ∷ r ∷ ws) x 0) o ∙ sym (get_or-drop J ws k 0)

  count_is : pair_count w ≡ get_or (drop J ws) 0 0
  count_is = let o : tail_at w ≡ tail_at w + 0 = omega arith in ap (λ (x : ℕ). get_or w x 0) o ∙ tail_at_lem 0

  first_day : (k : ℕ) → 1 ≤ k → k ≤ pair_count w → FirstDay n 0 k (drop J ws)
  first_day k l q = tail.1.each k l (omega (arith, count_is))

  block_ends : (i : ℕ) → i < m → block_at w i + (11 + n) ≤ length w
  unfolding w block_at
  block_ends i l =
      let most : suc i * (11 + n) ≤ m * (11 + n) = mul-le-mul_right (11 + n) l in
      omega (arith, long, rw suc-mul at most)

  needs_end : (d : ℕ) → d < n → needs_at w d + (4 * r + 2) ≤ length w
  unfolding w needs_at
  needs_end d l =
      let most : suc d * (4 * r + 2) ≤ n * (4 * r + 2) = mul-le-mul_right (4 * r + 2) l in
      omega (arith, long, rw suc-mul at most)

  in_block : (i j : ℕ) → j < 11 + n → get_or (block w i) j 0 ≡ get_or w (16 + (i * (11 + n) + j)) 0
  unfolding w block block_at
  in_block i j l =
      let s : 16 + i * (11 + n) + j ≡ 16 + (i * (11 + n) + j) = omega arith in
      get_or-take (11 + n) (drop (16 + i * (11 + n)) w) j 0 l ∙ get_or-drop (16 + i * (11 + n)) w j 0 ∙ ap (λ (x : ℕ). get_or w x 0) s

  block_number : (i j b : ℕ) → i < m → j < 11 + n → ((g : Grammar) → After (nurse n g) j (First (Most b))) → get_or (block w i) j 0 ≤ b
  unfolding h
  block_number i j b l k a =
      subst (λ (x : ℕ). x ≤ b) (sym (in_block i j k))
      (at_index (Most b) (13 + (i * (11 + n) + j)) (16 + (i * (11 + n) + j)) (omega arith) (in_nurse h i j b l a))

  block_long : (i : ℕ) → i < m → length (block w i) ≡ 11 + n
  unfolding w block
  block_long i l = length-take-le (11 + n) (drop (block_at w i) w) (rw (length-drop (block_at w i) w) (omega (arith, block_ends i l)))

  block_is : (i : ℕ) → i < m → Block (block w i) n
  block_is i l = record {
    long = block_long i l;
    duties = λ k q. block_number i k 4 l (omega arith) (λ g. nurse_duty n k g q);
    least_nights = block_number i 7 15 l (omega arith) (λ g. nurse_least_nights n g);
    nights_at_most = block_number i 8 15 l (omega arith) (λ g. nurse_most_nights n g);
    least_rests = block_number i 9 31 l (omega arith) (λ g. nurse_least_rests n g);
    most_rests = block_number i 10 31 l (omega arith) (λ g. nurse_most_rests n g);
    marks = λ d q. (let p : get_or (block w i) (11 + d) 0 ≤ 6 = block_number i (11 + d) 6 l (omega arith) (λ g. nurse_mark n g d q) in omega arith);
  }

  set_in : (g : ℕ) → g < r → get_or (member_sets w) g 0 < 2 ^ m
  unfolding w member_sets groups_at h
  set_in g l =
      let q : get_or w (16 + (m * (11 + n) + (g * 1 + 0))) 0 ≤ 2 ^ m - 1 =
      at_index (Most (2 ^ m - 1)) (13 + (m * (11 + n) + (g * 1 + 0))) (16 + (m * (11 + n) + (g * 1 + 0))) (omega arith) (in_groups h g l) in
      let o : 16 + m * (11 + n) + g ≡ 16 + (m * (11 + n) + (g * 1 + 0)) = omega arith in
      let s : get_or (take r (drop (16 + m * (11 + n)) w)) g 0 ≡ get_or w (16 + (m * (11 + n) + (g * 1 + 0))) 0 =
      get_or-take r (drop (16 + m * (11 + n)) w) g 0 l ∙ get_or-drop (16 + m * (11 + n)) w g 0 ∙ ap (λ (x : ℕ). get_or w x 0) o in
      omega (arith, pow_pos m)

  set_out : (g : ℕ) → r ≤ g → get_or (member_sets w) g 0 < 2 ^ m
  unfolding w member_sets groups_at
  set_out g l =
      let q : length (take r (drop (16 + m * (11 + n)) w)) ≤ g = simp length-take (omega arith) in
      let z : get_or (take r (drop (16 + m * (11 + n)) w)) g 0 ≡ 0 = get_or-eq_default (take r (drop (16 + m * (11 + n)) w)) 0 q in
      omega (arith, pow_pos m)

  -- the number at an index of a day's numbers
  need_at : (d j : ℕ) → j < 4 * r + 2 → get_or (needs w d) j 0 ≡ get_or w (16 + (m * (11 + n) + (r * 1 + (d * (2 + r * 4) + j)))) 0
  unfolding w needs needs_at groups_at
  need_at d j k =
      let a = 16 + m * (11 + n) + r + d * (4 * r + 2) in
      let c : d * (4 * r + 2) ≡ d * (2 + r * 4) = ap (λ (x : ℕ). d * x) (omega arith) in
      let o : a + j ≡ 16 + (m * (11 + n) + (r * 1 + (d * (2 + r * 4) + j))) = omega arith in
      get_or-take (4 * r + 2) (drop a w) j 0 k ∙ get_or-drop a w j 0 ∙ ap (λ (x : ℕ). get_or w x 0) o

  need_in : (d j : ℕ) → d < n → j < 4 * r + 2 → get_or (needs w d) j 0 ≤ 48
  unfolding w h
  need_in d j l k =
      let J = m * (11 + n) + (r * 1 + (d * (2 + r * 4) + j)) in
      let q : get_or w (16 + J) 0 ≤ 48 = at_index (Most 48) (13 + J) (16 + J) (omega arith) (in_days h d j l (omega arith)) in
      omega (arith, need_at d j k)

  need_out : (d j : ℕ) → 4 * r + 2 ≤ j → get_or (needs w d) j 0 ≤ 48
  unfolding w needs needs_at groups_at
  need_out d j l =
      let a = 16 + m * (11 + n) + r + d * (4 * r + 2) in
      let q : length (take (4 * r + 2) (drop a w)) ≤ j = simp length-take (omega arith) in
      let z : get_or (take (4 * r + 2) (drop a w)) j 0 ≡ 0 = get_or-eq_default (take (4 * r + 2) (drop a w)) 0 q in
      omega arith

  low_under_high : (d k g : ℕ) → d < n → k < 2 → g < r → get_or (needs w d) (4 * g + 2 * k + 2) 0 ≤ get_or (needs w d) (4 * g + 2 * k + 3) 0
  unfolding w h
  low_under_high d k g l q p =
      let j = 2 + (g * 4 + 2 * k) in
      let J = 13 + (m * (11 + n) + (r * 1 + (d * (2 + r * 4) + j))) in
      let both = numbers_have (rules h) J at ws us ◌≤◌ (in_bounds h d k g l q p) e in
      let a : 16 + (m * (11 + n) + (r * 1 + (d * (2 + r * 4) + (4 * g + 2 * k + 2)))) ≡ suc (suc (suc J)) = omega arith in
      let b : 16 + (m * (11 + n) + (r * 1 + (d * (2 + r * 4) + (4 * g + 2 * k + 3)))) ≡ suc (suc (suc (suc J))) = omega arith in
      let x : get_or (needs w d) (4 * g + 2 * k + 2) 0 ≡ get_or ws J 0 = need_at d (4 * g + 2 * k + 2) (omega arith) ∙ ap (λ (y : ℕ). get_or w y 0) a in
      let z : get_or (needs w d) (4 * g + 2 * k + 3) 0 ≡ get_or ws (suc J) 0 = need_at d (4 * g + 2 * k + 3) (omega arith) ∙ ap (λ (y : ℕ). get_or w y 0) b in
      omega arith

  groups_end : groups_at w + r ≤ length w
  unfolding w groups_at
  groups_end = omega (arith, long)

  pub by_parts : Accepted (m ∷ n ∷ r ∷ ws)
  unfolding w h
  by_parts = record {
    nurses_some = hm.0;
    nurses_most = hm.1;
    days_some = hn.0;
    days_most = hn.1;
    groups_most = hr.1;
    nights_most = at_index (Most 15) 0 3 refl (rule_nights h);
    run_some = (at_index (Between 1 3) 1 4 refl (rule_run h)).0;
    run_most = (at_index (Between 1 3) 1 4 refl (rule_run h)).1;
    gap1_most = at_index (Most 5) (2 + (0 * 1 + 0)) 5 refl (rule_gap h 0 (omega arith));
    gap2_most = at_index (Most 5) (2 + (1 * 1 + 0)) 6 refl (rule_gap h 1 (omega arith));
    gap3_most = at_index (Most 5) (2 + (2 * 1 + 0)) 7 refl (rule_gap h 2 (omega arith));
    tabu_at_most = at_index (Most 64) (5 + 0) 8 refl (rule_tabu h);
    day_run_some = (at_index (Between 1 6) (5 + 1) 9 refl (rule_day_run h)).0;
    day_run_most = (at_index (Between 1 6) (5 + 1) 9 refl (rule_day_run h)).1;
    weight_some = λ k l. (at_index (Between 1 100) (5 + (2 + (k * 1 + 0))) (10 + k) (omega arith) (rule_weight h k l)).0;
    weight_most = λ k l. (at_index (Between 1 100) (5 + (2 + (k * 1 + 0))) (10 + k) (omega arith) (rule_weight h k l)).1;
    header = omega (arith, long);
    bound = few;
    block_fits = block_ends;
    groups_fit = groups_end;
    needs_fit = needs_end;
    tail_fits = omega (arith, tail_is, tail.0);
    pairs_most = omega (arith, count_is, tail.1.few);
    pair_fits = λ k l q. omega (arith, tail_is, length-drop J ws, (first_day k l q).there);
    pair_day_some = λ k l q. omega (arith, tail_at_lem k, (first_day k l q).above);
    pair_day_most = λ k l q. omega (arith, tail_at_lem k, (first_day k l q).inside, hn.0);
    blocks = block_is;
    member_sets_most = λ g. ⊎_elim (set_in g) (set_out g) (cases_lt g r);
    needs_most = λ d j l. ⊎_elim (need_in d j l) (need_out d j) (cases_lt j (4 * r + 2));
    low_high = low_under_high;
  }

-- from the number after m on
sizes_accepted : (edition m at : ℕ) (ws vs : List ℕ) → Between 1 48 m → length (m ∷ ws) ≤ number_places → check (sizes edition m) at ws ≡ good vs → Accepted (m ∷ ws)
sizes_accepted edition m at [] vs hm few e =
    absurd (none_in (range 1 31) (λ n. number (range 0 16) (λ r. rules (record { m = m; n = n; r = r; edition = edition }))) at vs e)
sizes_accepted edition m at (n ∷ []) vs hm few e =
    let a = first_let_through (range 1 31) (λ y. number (range 0 16) (λ r. rules (record { m = m; n = y; r = r; edition = edition }))) at n [] vs e in
    absurd (none_in (range 0 16) (λ r. rules (record { m = m; n = n; r = r; edition = edition })) (at + 1) a.1.0 a.1.1)
sizes_accepted edition m at (n ∷ r ∷ ws) vs hm few e =
    let a = first_let_through (range 1 31) (λ y. number (range 0 16) (λ z. rules (record { m = m; n = y; r = z; edition = edition }))) at n (r ∷ ws) vs e in
    let b = first_let_through (range 0 16) (λ z. rules (record { m = m; n = n; r = z; edition = edition })) (at + 1) r ws a.1.0 a.1.1 in
    by_parts m n r ws b.1.0 hm (in_range (range 1 31) n a.0) (in_range (range 0 16) r b.0) few edition (at + 1 + 1) b.1.1

-- from m on, after 0 and the edition
later_accepted : (at : ℕ) (ws vs : List ℕ) → length ws ≤ number_places → check later at ws ≡ good vs → Accepted (drop 1 ws)
later_accepted at [] vs few e = absurd (none_in (range 2 last_edition) (λ x. body x) at vs e)
later_accepted at (x ∷ []) vs few e =
    let a = first_let_through (range 2 last_edition) (λ y. body y) at x [] vs e in
    absurd (none_in (range 1 48) (λ m. sizes x m) (at + 1) a.1.0 a.1.1)
later_accepted at (x ∷ m ∷ ws) vs few e =
    let a = first_let_through (range 2 last_edition) (λ y. body y) at x (m ∷ ws) vs e in
    let b = first_let_through (range 1 48) (λ y. sizes x y) (at + 1) m ws a.1.0 a.1.1 in
    sizes_accepted x m (at + 1 + 1) ws b.1.0 (in_range (range 1 48) m b.0) (omega (arith, few)) b.1.1

few_numbers : (ws vs : List ℕ) → check_ward ws ≡ good vs → length ws ≤ number_places
unfolding check_ward
few_numbers ws vs e = (accepted ward number_places 0 ws vs ward_fits e).few

-- the questions' yes to a list of numbers
pub accepted_ward : (ws vs : List ℕ) → check_ward ws ≡ good vs → Accepted (body_of ws)
unfolding check_ward ward body_of
accepted_ward [] vs e = absurd (none_in (range 0 48) (λ m. first m) 0 vs e)
accepted_ward (zero ∷ ws) vs e =
    let a = first_let_through (range 0 48) (λ m. first m) 0 0 ws vs e in
    later_accepted (0 + 1) ws a.1.0 (omega (arith, few_numbers (0 ∷ ws) vs e)) a.1.1
accepted_ward (suc m ∷ ws) vs e =
    let a = first_let_through (range 0 48) (λ x. first x) 0 (suc m) ws vs e in
    subst Accepted (body_one (suc m ∷ ws) (λ z. absurd (omega arith)))
    (sizes_accepted 1 (suc m) (0 + 1) ws a.1.0 (omega arith, (in_range (range 0 48) (suc m) a.0).1) (few_numbers (suc m ∷ ws) vs e) a.1.1)

-- so m and n are there, or 0 and the edition
pub long_ward : (ws vs : List ℕ) → check_ward ws ≡ good vs → 2 ≤ length ws
unfolding body_of
long_ward ws vs e = go (eqb (get_or ws 0 0) 0) (accepted_ward ws vs e).header
  where
    go : (b : Bool) → 16 ≤ length (cond b (drop 2 ws) ws) → 2 ≤ length ws
    go true l = omega (arith, length-drop 2 ws)
    go false l = omega arith
