-- The loops over a nurse's patterns, by day and by night: what her trials cost, and what one pattern more makes of the best.
use Rattle.std.specs.Prelude.{ℕ, suc, ◌+◌, ◌-◌, ◌*◌, ◌/◌, ◌%◌, ◌^◌, ◌≤◌, ◌<◌, ◌≡◌, refl, Bool, true, false, ◌&&◌, ◌||◌, List, [], ◌∷◌, ◌++◌, map, bit_or, eqb, length, get_or, take}
use Rattle.std.proofs.Common.{sym, ap, ap₂, ◌∙◌, subst, add-zero, arith, add-one, take-suc, take_all}
use Rattle.std.proofs.lemmas.Bool.{false≢true}
use Rattle.std.proofs.lemmas.List.{length-map, get_or-map}
use Rattle.std.proofs.Math.Numerals.{add-two}
use Rattle.numbers.specs.Range.{up_from}
use Rattle.numbers.specs.Digits.{has, number_of}
use Rattle.numbers.specs.Patterns.{pattern, unpaired}
use Rattle.numbers.proofs.DigitLaws.{number_has, low_digit}
use Rattle.numbers.proofs.SetLaws.{has_or, has_back}
use Rattle.numbers.proofs.RangeLaws.{length_range, range_at}
use Rattle.numbers.proofs.MemberLaws.{Each, each_map}
use Rattle.fields.specs.Fields.{Accepted, days, block, pair_count}
use Rattle.rows.specs.Pairs.{pair_numbers, in_pair, pair_fits}
use Rattle.nights.specs.Hers.{hers_of}
use Rattle.nights.specs.Own.{own_pattern, with_pairs}
use Rattle.nights.proofs.OwnLaws.{pair_numbers_none, pair_numbers_some, pair_number_lt, with_pairs_one, with_pairs_append, own_at, own_alone}
use Rattle.nursemasks.specs.declared.pairs.Pairs.{Pairs}
use Rattle.nursemasks.specs.CodePairs.{PairDays, PairsOf, BusyDays}
use Rattle.nursemasks.proofs.PairMaskLaws.{fitting_days}
use Rattle.tables.specs.CodeTables.{table_trial, trial_without}
use Rattle.tables.proofs.TrialLaws.{without_more}
use Rattle.trials.specs.CodeTrials.{before_of, start_set, NightTrials}
use Rattle.trials.proofs.WindowLaws.{before_small, busy_window}
use Rattle.best.specs.CodeBest.{Best, over_list, considered, improves}
use Rattle.best.proofs.BestLaws.{improves_less, over_nil, over_one, over_append, over_none, over_done, turn_barred, turn_considered}
use Rattle.tries.specs.CodeTries.{NightTable, DayTable, PatternNeeds}

-- ---- the set of starts

pub set_lt : (b : List ℕ) (before p : ℕ) → before ≡ before_of b → p < 2 ^ 32 → start_set before p < 2 ^ 34
set_lt b before p e h = omega (arith, before_small b)

-- the N and n days of its row
pub busy_set : (b : List ℕ) (p x : ℕ) → x ≡ start_set (before_of b) p → BusyDays b p (bit_or (x / 4) (x / 2) % 2 ^ 32)
unfolding BusyDays
busy_set b p x e d l =
    let quarter : x / 4 ≡ x / 2 / 2 = omega arith in
    ap (λ (v : ℕ). eqb v 1) (low_digit (bit_or (x / 4) (x / 2)) 32 d (omega arith))
    ∙ has_or (x / 4) (x / 2) d
    ∙ ap₂ ◌||◌ (ap (λ (v : ℕ). has v d) quarter ∙ has_back (x / 2) d ∙ has_back x (suc d) ∙ ap (has x) (sym (add-two d))) (has_back x d ∙ ap (has x) (sym (add-one d)))
    ∙ ap (λ (v : ℕ). has v (d + 2) || has v (d + 1)) e
    ∙ sym (busy_window b p d)

-- ---- what a trial costs

-- by day
pub day_costs : {w c t : List ℕ} {cost : ℕ → ℕ} (y : DayTable w c t cost) (q : ℕ) {r : ℕ} (others : ℕ) → r ≡ table_trial t (q * 4) + 10000000 * others → r ≡ cost (unpaired q) + 10000000 * others
day_costs {t = t} y q others e = e ∙ ap (λ (x : ℕ). x + 10000000 * others) (ap (table_trial t) (sym (add-zero (q * 4))) ∙ y.table.trials (start_set 0 q) ∙ y.trials.worked q)

-- by night
module _ {w : List ℕ} {before : ℕ} {c t : List ℕ} {cost : ℕ → ℕ} (y : NightTable w before c t cost) (p : ℕ) {r : ℕ} (others : ℕ) (e : r ≡ table_trial t (start_set before p) + 10000000 * others) where
  -- it is what p costs where there are no pairs
  pub alone_costs : r ≡ cost (unpaired p) + 10000000 * others
  alone_costs = e ∙ ap (λ (x : ℕ). x + 10000000 * others) (y.table.trials (start_set before p) ∙ y.trials.alone p)

  -- with any pair it costs no less
  pub pair_costs_more : (k : ℕ) → k < 2 ^ 32 → r ≤ cost (pattern p k) + 10000000 * others
  pair_costs_more k h =
      let off = number_of (λ d. in_pair w k (suc d)) (days w) in
      omega (
        arith,
        e,
        y.table.trials (start_set before p),
        without_more c (days w) (start_set before p) off y.trials.lost,
        y.trials.paired p k off h (λ d l. number_has (λ j. in_pair w k (suc j)) (days w) d l),
      )

-- ---- by day: one pattern more of her list

module _ (may : ℕ → Bool) (cost : ℕ → ℕ) (i : ℕ) (b₀ : Best) (list : List ℕ) (k : ℕ) {b : Best} (l : k < length list)
    (e : b ≡ over_list may cost i b₀ (take k (map unpaired list))) where
  day_long : k < length (map unpaired list)
  day_long = rw (length-map list unpaired) l

  day_here : get_or (map unpaired list) k 0 ≡ unpaired (get_or list k 0)
  day_here = get_or-map unpaired list k 0 0 l

  -- one that is considered
  pub day_considered : {c x : ℕ} {b' b'' : Best} → b'' ≡ b' → c ≡ cost (unpaired (get_or list k 0)) → x ≡ unpaired (get_or list k 0) → b' ≡ considered may (λ q. c) i b x
      → b'' ≡ over_list may cost i b₀ (take (k + 1) (map unpaired list))
  day_considered {c} j q r s =
      j ∙ turn_considered may cost i b₀ (map unpaired list) k day_long e (q ∙ ap cost (sym day_here)) (s ∙ ap (considered may (λ q. c) i b) (r ∙ sym day_here))

pub day_done : (may : ℕ → Bool) (cost : ℕ → ℕ) (i : ℕ) (b : Best) (list : List ℕ) (k : ℕ) → length list ≤ k
    → over_list may cost i b (take k (map unpaired list)) ≡ over_list may cost i b (map unpaired list)
day_done may cost i b list k h = over_done may cost i b (map unpaired list) k (rw (length-map list unpaired) h)

-- ---- by night: one pair more of a night pattern

-- one more of a list of hers and others
module _ (own may : ℕ → Bool) (cost : ℕ → ℕ) (i : ℕ) (b₀ : Best) (ps : List ℕ) (k : ℕ) {b : Best} (l : k < length ps)
    (e : b ≡ over_list (λ p. own p && may p) cost i b₀ (take k ps)) where
  -- a pattern that is not hers
  pub not_own : {h : Bool} → h ≡ own (get_or ps k 0) → h ≡ false → b ≡ over_list (λ p. own p && may p) cost i b₀ (take (k + 1) ps)
  not_own q f = turn_barred (λ p. own p && may p) cost i b₀ ps k l e (sym (rw (sym q ∙ f))) refl

  -- one that is hers, considered
  pub own_considered : {h : Bool} {c x : ℕ} {b' b'' : Best} → h ≡ own (get_or ps k 0) → h ≡ true → c ≡ cost (get_or ps k 0) → x ≡ get_or ps k 0
      → b'' ≡ b' → b' ≡ considered may (λ q. c) i b x → b'' ≡ over_list (λ p. own p && may p) cost i b₀ (take (k + 1) ps)
  own_considered {c = c} r y q z j s =
      j ∙ turn_considered (λ p. own p && may p) cost i b₀ ps k l e q (rw (sym r ∙ y) (s ∙ ap (considered may (λ q. c) i b) z))

-- the night pattern with each pair number of the ward
abbrev pub paired : List ℕ → ℕ → List ℕ
paired w p = map (pattern p) (pair_numbers w)

module _ {w : List ℕ} {n i x p : ℕ} {pairs : Pairs} (need : PatternNeeds w n i x p) (of : PairsOf w i pairs) (some : 1 ≤ pair_count w) where
  paired_is : paired w p ≡ map (pattern p) (up_from 1 pairs.count)
  paired_is = ap (map (pattern p)) (pair_numbers_some w (λ z. omega arith) ∙ ap (up_from 1) (sym of.count_is))

  paired_long : length (paired w p) ≡ pairs.count
  paired_long = ap length paired_is ∙ length-map (up_from 1 pairs.count) (pattern p) ∙ length_range 1 pairs.count

  module _ (m : ℕ) (from : 1 ≤ m) (l : m ≤ pairs.count) where
    paired_inside : m - 1 < length (paired w p)
    paired_inside = rw paired_long (omega arith)

    paired_at : get_or (paired w p) (m - 1) 0 ≡ pattern p m
    paired_at =
        ap (λ (xs : List ℕ). get_or xs (m - 1) 0) paired_is
        ∙ get_or-map (pattern p) (up_from 1 pairs.count) (m - 1) 0 0 (rw (length_range 1 pairs.count) (omega arith))
        ∙ ap (pattern p) (range_at 1 pairs.count (m - 1) (omega arith) ∙ omega arith)

    inside : m ≤ pair_count w
    inside = omega (arith, of.count_is)

    small : m < 2 ^ 32
    small = omega (arith, of.count_most)

    pair_days : PairDays w i m (get_or pairs.days m 0)
    pair_days = of.days_are m from inside

    -- it is her own where it fits
    module _ (busy : ℕ) {r : Bool} (b : BusyDays (block w i) p busy)
        (f : (v : List ℕ) (j q n : ℕ) → Accepted v → 1 ≤ n → n ≤ pair_count v → BusyDays (block v j) q busy → PairDays v j n (get_or pairs.days m 0) → r ≡ pair_fits v j q n) where
      fits_is : r ≡ pair_fits w i p m
      fits_is = f w i p m need.ward from inside b pair_days

      pair_own : r ≡ own_pattern w i (get_or (paired w p) (m - 1) 0)
      pair_own =
          fits_is
          ∙ sym (ap (own_pattern w i) paired_at ∙ own_at w i p m small ∙ ap (λ (h : Bool). h && pair_fits w i p m) need.hers)

      -- the best of the pairs up to it, of which there are j
      module _ (may : ℕ → Bool) (cost : ℕ → ℕ) (others : ℕ) (b₀ : Best) {held : Best} {j : ℕ} (last : j ≡ m)
          (so_far : held ≡ over_list (λ y. own_pattern w i y && may y) (λ y. cost y + 10000000 * others) i b₀ (take (m - 1) (paired w p))) where
        up : over_list (λ y. own_pattern w i y && may y) (λ y. cost y + 10000000 * others) i b₀ (take (m - 1 + 1) (paired w p))
            ≡ over_list (λ y. own_pattern w i y && may y) (λ y. cost y + 10000000 * others) i b₀ (take j (paired w p))
        up = let q : m - 1 + 1 ≡ j = omega arith in rw q refl

        pub pair_considered : {c : List ℕ} {v e q : ℕ} {best best' : Best} → NightTrials w (before_of (block w i)) c cost → r ≡ true → v ≡ trial_without c n x (get_or pairs.days m 0) → e ≡ v + 10000000 * others
            → q ≡ pattern p m → best' ≡ best → best ≡ considered may (λ z. e) i held q
            → best' ≡ over_list (λ y. own_pattern w i y && may y) (λ y. cost y + 10000000 * others) i b₀ (take j (paired w p))
        pair_considered {c} {v} {e} y t k h g is s =
            own_considered (own_pattern w i) may (λ z. cost z + 10000000 * others) i b₀ (paired w p) (m - 1) paired_inside so_far pair_own t costs (g ∙ sym paired_at) is s ∙ up
          where
            costs : e ≡ cost (get_or (paired w p) (m - 1) 0) + 10000000 * others
            costs =
                h ∙ ap (λ (z : ℕ). z + 10000000 * others)
                (k ∙ ap₂ (λ (d z : ℕ). trial_without c d z (get_or pairs.days m 0)) need.days_are need.set_is
                ∙ y.paired p m (get_or pairs.days m 0) small (λ d z. fitting_days w i p m (get_or pairs.days m 0) from inside pair_days (sym fits_is ∙ t) d)
                ∙ ap cost (sym paired_at))

        pub pair_not_fits : {best : Best} → best ≡ held → r ≡ false → best ≡ over_list (λ y. own_pattern w i y && may y) (λ y. cost y + 10000000 * others) i b₀ (take j (paired w p))
        pair_not_fits is t = is ∙ not_own (own_pattern w i) may (λ y. cost y + 10000000 * others) i b₀ (paired w p) (m - 1) paired_inside so_far pair_own t ∙ up

  pub paired_done : (may : ℕ → Bool) (cost : ℕ → ℕ) (b : Best) (k : ℕ) → pairs.count ≤ k → over_list may cost i b (take k (paired w p)) ≡ over_list may cost i b (paired w p)
  paired_done may cost b k h = over_done may cost i b (paired w p) k (rw paired_long h)

-- ---- by night: one night pattern more of a list, with every pair number

-- what `over_pattern` gives of the night pattern p by its set x, held being the best before it
abbrev pub PatternBest : (w c : List ℕ) (may : ℕ → Bool) (x others i p cost : ℕ) (held r : Best) → Type 0
PatternBest w c may x others i p cost held r =
    (price : ℕ → ℕ) → x ≡ start_set (before_of (block w i)) p → hers_of w i p ≡ true → NightTrials w (before_of (block w i)) c price
    → cost ≡ price (unpaired p) + 10000000 * others → r ≡ over_list (λ y. own_pattern w i y && may y) (λ y. price y + 10000000 * others) i held (paired w p)

-- the best of what is held and of the first k of a list, where G holds of it
pub record NightsTo (G : Type 0) (w c t : List ℕ) (before others i : ℕ) (may : ℕ → Bool) (held : Best) (list : List ℕ) (k : ℕ) (b : Best) : Type 0 where
  pub inside : k ≤ length list
  pub so_far : (cost : ℕ → ℕ) → NightTable w before c t cost → G
      → b ≡ over_list (λ x. own_pattern w i x && may x) (λ x. cost x + 10000000 * others) i held (with_pairs w (take k list))

pub nights_start : (G : Type 0) (w c t : List ℕ) (before others i : ℕ) (may : ℕ → Bool) (held : Best) (list : List ℕ) → NightsTo G w c t before others i may held list 0 held
unfolding with_pairs
nights_start G w c t before others i may held list = record {
  inside = omega arith;
  so_far = λ cost y g. sym (over_nil (λ x. own_pattern w i x && may x) (λ x. cost x + 10000000 * others) i held);
}

module _ {G : Type 0} {w c t : List ℕ} {before others i : ℕ} {may : ℕ → Bool} {held : Best} {list : List ℕ} {k : ℕ} {b : Best} (z : NightsTo G w c t before others i may held list k b) where
  pub nights_end : length list ≤ k → (cost : ℕ → ℕ) → NightTable w before c t cost → G
      → b ≡ over_list (λ x. own_pattern w i x && may x) (λ x. cost x + 10000000 * others) i held (with_pairs w list)
  nights_end l cost y g =
      z.so_far cost y g
      ∙ ap (λ (xs : List ℕ). over_list (λ x. own_pattern w i x && may x) (λ x. cost x + 10000000 * others) i held (with_pairs w xs)) (take_all k list l)

  module _ (ward : Accepted w) (l : k < length list) where
    abbrev here : ℕ
    here = get_or list k 0

    few : pair_count w < 2 ^ 32
    few = omega (arith, ward.pairs_most)

    more : with_pairs w (take (k + 1) list) ≡ with_pairs w (take k list) ++ paired w here
    more =
        ap (λ (m : ℕ). with_pairs w (take m list)) (add-one k)
        ∙ ap (with_pairs w) (take-suc list k 0 l)
        ∙ with_pairs_append w (take k list) (here ∷ [])
        ∙ ap (λ (xs : List ℕ). with_pairs w (take k list) ++ xs) (with_pairs_one w here)

    -- what its pairs make of the best
    turn : {b' b'' : Best} → b'' ≡ b'
        → ((cost : ℕ → ℕ) → NightTable w before c t cost → G
        → b' ≡ over_list (λ x. own_pattern w i x && may x) (λ x. cost x + 10000000 * others) i b (paired w here))
        → NightsTo G w c t before others i may held list (k + 1) b''
    turn j f = record {
      inside = omega arith;
      so_far = λ cost y g.
          let over = over_list (λ x. own_pattern w i x && may x) (λ x. cost x + 10000000 * others) i in
          j ∙ f cost y g ∙ ap (λ (x : Best). over x (paired w here)) (z.so_far cost y g)
          ∙ sym (ap (over held) more ∙ over_append (λ x. own_pattern w i x && may x) (λ x. cost x + 10000000 * others) i held (with_pairs w (take k list)) (paired w here));
    }

    -- none of them improves
    stays : {b'' : Best} → b'' ≡ b
        → ((cost : ℕ → ℕ) → NightTable w before c t cost → G → Each (λ m. (own_pattern w i (pattern here m) && may (pattern here m)) ≡ true → improves b (cost (pattern here m) + 10000000 * others) ≡ false) (pair_numbers w))
        → NightsTo G w c t before others i may held list (k + 1) b''
    stays j f =
        turn j (λ cost y g.
        sym (over_none (λ x. own_pattern w i x && may x) (λ x. cost x + 10000000 * others) i b (paired w here)
        (each_map (λ x. (own_pattern w i x && may x) ≡ true → improves b (cost x + 10000000 * others) ≡ false) (pattern here) (pair_numbers w) (f cost y g))))

    -- it is not hers
    pub night_not_hers : {h : Bool} {b'' : Best} → b'' ≡ b → (G → h ≡ hers_of w i (get_or list k 0)) → h ≡ false → NightsTo G w c t before others i may held list (k + 1) b''
    night_not_hers j q f = stays j (λ cost y g m h t. absurd (false≢true (sym (never g m h) ∙ t)))
      where
        never : G → (m : ℕ) → m < length (pair_numbers w) → (own_pattern w i (pattern here (get_or (pair_numbers w) m 0)) && may (pattern here (get_or (pair_numbers w) m 0))) ≡ false
        never g m h =
            ap (λ (x : Bool). x && may (pattern here (get_or (pair_numbers w) m 0)))
            (own_at w i here (get_or (pair_numbers w) m 0) (pair_number_lt w few m h) ∙ ap (λ (x : Bool). x && pair_fits w i here (get_or (pair_numbers w) m 0)) (sym (q g) ∙ f))

    module _ {r : ℕ} (e : r ≡ table_trial t (start_set before (get_or list k 0)) + 10000000 * others) where
      -- with no pair it does not improve: with a pair she is available on fewer days, which costs no less
      pub night_worse : {s : Bool} {b'' : Best} → b'' ≡ b → s ≡ improves b r → s ≡ false → NightsTo G w c t before others i may held list (k + 1) b''
      night_worse j q f =
          stays j (λ cost y g m h t. improves_less b (pair_costs_more y here others e (get_or (pair_numbers w) m 0) (pair_number_lt w few m h)) (sym q ∙ f))

      -- it does, and is hers
      pub night_better : before ≡ before_of (block w i) → {h : Bool} {b' b'' : Best} → b'' ≡ b' → (G → h ≡ hers_of w i (get_or list k 0)) → h ≡ true
          → PatternBest w c may (start_set before (get_or list k 0)) others i (get_or list k 0) r b b' → NightsTo G w c t before others i may held list (k + 1) b''
      night_better e_before j q h f =
          turn j (λ cost y g.
          f cost (ap (λ (v : ℕ). start_set v here) e_before) (sym (q g) ∙ h) (subst (λ (v : ℕ). NightTrials w v c cost) e_before y.trials) (alone_costs y here others e))

-- ---- a night pattern of hers

-- alone, in a ward without pairs
pub pattern_alone : (w : List ℕ) (i p : ℕ) (may : ℕ → Bool) (cost : ℕ → ℕ) (b : Best) {c x : ℕ} {r : Best} → pair_count w ≡ 0 → hers_of w i p ≡ true → c ≡ cost (pattern p 0) → x ≡ pattern p 0
    → r ≡ considered may (λ q. c) i b x → r ≡ over_list (λ c. own_pattern w i c && may c) cost i b (map (pattern p) (pair_numbers w))
pattern_alone w i p may cost b {c} none hers s y f =
    f ∙ ap (considered may (λ q. c) i b) y ∙ alone
    ∙ sym (ap (over_list (λ c. own_pattern w i c && may c) cost i b) (ap (map (pattern p)) (pair_numbers_none w none)) ∙ over_one (λ c. own_pattern w i c && may c) cost i b (pattern p 0))
  where
    alone : considered may (λ q. c) i b (pattern p 0) ≡ considered (λ c. own_pattern w i c && may c) cost i b (pattern p 0)
    alone = rw (own_alone w i p none, hers, s)
