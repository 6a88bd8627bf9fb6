-- The walk lists the common list: `listed` from no start, over the days of the month, is `common`.
use Rattle.std.specs.Prelude.{◌≡◌, refl, Bool, true, false, cond, ◌&&◌, List, [], ◌∷◌, ◌++◌, ◌⊎◌, ℕ, zero, suc, ◌+◌, ◌-◌, ◌*◌, ◌/◌, ◌%◌, ◌^◌, ◌≤◌, ◌<◌, leb, ltb, eqb, length}
use Rattle.std.proofs.Common.{sym, ap, ap₂, ◌∙◌, inl, inr, mul-one, div-one, add-zero, zero-add, zero-mul, add-one, arith, pow_mono, shr-shr, leb-true, leb-false, ltb-true, ltb-false, eqb-true, le-leb, eq-eqb, ne_eqb}
use Rattle.std.proofs.lemmas.Bool.{eqb-false, lt-leb}
use Rattle.std.proofs.Math.Bool.{and-false, and-true}
use Rattle.std.proofs.Math.Dec.{eqb-suc-zero}
use Rattle.std.specs.declared.option.Option.{Option}
use Rattle.std.specs.declared.option.Option.TheVariants.{Some, None}
use Rattle.fields.specs.declared.rules.Rules.{Rules}
use Rattle.nightlists.specs.declared.State.{State}
use Rattle.numbers.specs.Range.{up_from, filter}
use Rattle.numbers.proofs.RangeLaws.{length_range}
use Rattle.numbers.proofs.AgreeLaws.{filter_le}
use Rattle.numbers.proofs.HalfLaws.{low_half, high_half, filter_halves}
use Rattle.rows.specs.Rows.{started}
use Rattle.fields.specs.Sizes.{day_places}
use Rattle.fields.specs.Fields.{Accepted, days}
use Rattle.fields.specs.Rules.{rules_of, gap}
use Rattle.nights.specs.Nights.{starts, follow, in_common, common, common_of}
use Rattle.nights.proofs.FollowLaws.{leb_same, follow_first}
use Rattle.nightlists.specs.CodeWalk.{closed, start_at, none_yet, onward, listed}
use Rattle.nightlists.proofs.WalkLaws.{cond_case}

-- ---- the starts, digit by digit

-- the starts among k days from `day` on, where q's digits are those days
unfoldable pub starts_from : ℕ → ℕ → ℕ → List ℕ
starts_from day zero q = []
starts_from day (suc k) q = cond (eqb (q % 2) 1) (day ∷ starts_from (suc day) k (q / 2)) (starts_from (suc day) k (q / 2))

pub digits : (p d k : ℕ) → filter (started p) (up_from (suc d) k) ≡ starts_from (suc d) k (p / 2 ^ d)
unfolding filter up_from starts_from
digits p d zero = refl
digits p d (suc k) = rw (digits p (suc d) k, ← half)
  where
    half : p / 2 ^ d / 2 ≡ p / 2 ^ suc d
    half = shr-shr p d 1 ∙ ap (λ (x : ℕ). p / 2 ^ x) (add-one d)

pub starts_digits : (n q : ℕ) → starts n (q * 2 ^ 0) ≡ starts_from 1 n q
unfolding starts
starts_digits n q = digits (q * 1) 0 n ∙ ap (starts_from 1 n) (div-one (q * 1) ∙ mul-one q)

starts_even : (d k q : ℕ) → starts_from (suc d) (suc k) (q * 2) ≡ starts_from (suc (suc d)) k q
unfolding starts_from
starts_even d k q =
    let e : q * 2 % 2 ≡ 0 = omega arith in
    let h : q * 2 / 2 ≡ q = omega arith in
    rw (e, h)

starts_odd : (d k q : ℕ) → starts_from (suc d) (suc k) (q * 2 + 1) ≡ suc d ∷ starts_from (suc (suc d)) k q
unfolding starts_from
starts_odd d k q =
    let e : (q * 2 + 1) % 2 ≡ 1 = omega arith in
    let h : (q * 2 + 1) / 2 ≡ q = omega arith in
    rw (e, h)

-- ---- the numbers, in two halves

-- the kept numbers of a subtree, q the digits that are decided, d those that are not
below : Rules → ℕ → ℕ → ℕ → List ℕ
below r n d q = filter (in_common r n) (up_from (q * 2 ^ d) (2 ^ d))

below_split : (r : Rules) (n d q : ℕ) → below r n (suc d) q ≡ below r n d (q * 2) ++ below r n d (q * 2 + 1)
unfolding below
below_split r n d q =
    filter_halves (in_common r n) (q * 2 ^ suc d) d
    ∙ ap₂ (λ (a b : ℕ). filter (in_common r n) (up_from a (2 ^ d)) ++ filter (in_common r n) (up_from b (2 ^ d))) (low_half d q) (high_half d q)

-- ---- what the walk knows of the starts that are decided

-- no pattern has these starts as its last ones
abbrev Stuck : Rules → List ℕ → Type 0
Stuck r [] = ⊥
Stuck r (s ∷ ss) = (j : ℕ) → follow r s (suc j) ss ≡ false

abbrev Dead : Rules → List ℕ → Type 0
Dead r D = (r.most < length D) ⊎ Stuck r D

-- the state says all of them that the days before can ask: whether they go on from a run's start that is its (j + 1)-th
pub record Going (r : Rules) (s : ℕ) (ss : List ℕ) (st : State) : Type 0 where
  pub first : st.first ≡ s
  pub day : 0 < s
  pub count : st.count ≡ suc (length ss)
  pub few : suc (length ss) ≤ r.most
  pub run : 0 < st.run
  pub short : st.run ≤ r.longest
  pub goes : (j : ℕ) → suc j ≤ r.longest → follow r s (suc j) ss ≡ (leb (j + st.run) r.longest && closed r (j + st.run) st.dist)

abbrev Alive : Rules → List ℕ → State → Type 0
Alive r [] st = (st.first ≡ 0) × (st.dist ≡ 0) × (st.count ≡ 0)
Alive r (s ∷ ss) st = Going r s ss st

abbrev Outcome : Rules → List ℕ → Option State → Type 0
Outcome r D (Some t) = Alive r D t
Outcome r D None = Dead r D

-- what the common list asks of the starts
good : Rules → List ℕ → Bool
good r D = leb (length D) r.most && follow r 0 0 D

-- the rule at a start with another before it, its two cases apart
cond_and : (b x y : Bool) (F : ℕ → Bool) (m n : ℕ) → (cond b x y && F (cond b m n)) ≡ cond b (x && F m) (y && F n)
cond_and true x y F m n = refl
cond_and false x y F m n = refl

follow_step : (r : Rules) (prev j s : ℕ) (ss : List ℕ)
    → follow r prev (suc j) (s ∷ ss)
    ≡ cond (eqb s (prev + 2)) (leb (suc j + 1) r.longest && follow r s (suc j + 1) ss) (leb (prev + 2 + gap r (suc j)) s && follow r s 1 ss)
unfolding follow
follow_step r prev j s ss = rw (eqb-suc-zero j) (cond_and (eqb s (prev + 2)) _ _ (λ m. follow r s m ss) (suc j + 1) 1)

dead_good : (r : Rules) (D : List ℕ) → Dead r D → good r D ≡ false
unfolding good
dead_good r D (inl h) = rw (lt-leb (length D) r.most h)
dead_good r [] (inr h) = absurd h
dead_good r (s ∷ ss) (inr h) = rw (follow_first r s ss, h 0) (and-false (leb (suc (length ss)) r.most))

alive_good : (r : Rules) (D : List ℕ) (st : State) → Alive r D st → 1 ≤ r.longest → good r D ≡ closed r st.run st.dist
unfolding good follow
alive_good r [] st (a, b, c) l = rw (le-leb 0 r.most (omega arith), b)
alive_good r (s ∷ ss) st a l = rw (le-leb (suc (length ss)) r.most a.few, follow_first r s ss, a.goes 0 l, zero-add, le-leb st.run r.longest a.short)

dead_more : (r : Rules) (day : ℕ) (D : List ℕ) → Dead r D → Dead r (day ∷ D)
dead_more r day D (inl h) = inl (omega arith)
dead_more r day [] (inr h) = absurd h
dead_more r day (s ∷ ss) (inr h) = inr (λ j. rw (follow_step r day j s ss) (cond_case (λ (b : Bool). b ≡ false) (eqb s (day + 2)) _ _
    (λ e. rw (add-one (suc j), h (suc j)) (and-false (leb (suc (suc j)) r.longest)))
    (λ e. rw (h 0) (and-false (leb (day + 2 + gap r (suc j)) s)))))

-- ---- one more start

module _ (r : Rules) (day s : ℕ) (ss : List ℕ) (st : State) (a : Going r s ss st) where
  -- two days before: the same run
  same_run : st.first ≡ day + 2 → (j : ℕ) → follow r day (suc j) (s ∷ ss) ≡ (leb (suc j + st.run) r.longest && closed r (suc j + st.run) st.dist)
  same_run e j = rw (follow_step r day j s ss, eq-eqb s (day + 2) (sym a.first ∙ e), add-one (suc j)) (go (leb (suc (suc j)) r.longest) refl)
    where
      go : (b : Bool) → leb (suc (suc j)) r.longest ≡ b
          → (leb (suc (suc j)) r.longest && follow r s (suc (suc j)) ss) ≡ (leb (suc j + st.run) r.longest && closed r (suc j + st.run) st.dist)
      go true h = rw h (a.goes (suc j) (leb-true _ _ h))
      go false h = rw (h, lt-leb (suc j + st.run) r.longest (omega (arith, leb-false, a.run)))

  -- not two days before: another run
  other_run : (st.first ≡ day + 2 → ⊥) → (j : ℕ) → follow r day (suc j) (s ∷ ss) ≡ (leb (day + 2 + gap r (suc j)) s && follow r s 1 ss)
  other_run f j = rw (follow_step r day j s ss, ne_eqb s (day + 2) (λ e. f (a.first ∙ e)))

  -- what goes on from a run's first start
  from_one : 1 ≤ r.longest → follow r s 1 ss ≡ closed r st.run st.dist
  from_one l = rw (a.goes 0 l, zero-add, le-leb st.run r.longest a.short)

one_on : (j n : ℕ) → suc j + n ≡ j + (n + 1)
one_on j n = omega arith

-- a new run's distance to the start after it says whether the gap is wide enough
wide_enough : (r : Rules) (day s f j : ℕ) → f ≡ s → day + 3 ≤ f → suc j ≤ r.longest
    → (leb (day + 2 + gap r (suc j)) s && true) ≡ (leb (j + 1) r.longest && closed r (j + 1) (f - day))
wide_enough r day s f j e w h =
    and-true (leb (day + 2 + gap r (suc j)) s)
    ∙ leb_same (day + 2 + gap r (suc j)) s (2 + gap r (suc j)) (f - day) (λ k. omega arith) (λ k. omega arith)
    ∙ rw (add-one j, le-leb (suc j) r.longest h, ne_eqb (f - day) 0 (omega arith))

after_start : (r : Rules) (day : ℕ) (D : List ℕ) (st : State) → Alive r D st → 0 < day → 1 ≤ r.longest → Outcome r (day ∷ D) (start_at r day st)
unfolding follow
after_start r day [] st (f, d, c) p l =
    cond_case (Outcome r (day ∷ [])) (leb r.most st.count) _ _
    (λ t. inl (omega (arith, leb-true)))
    (λ t. cond_case (Outcome r (day ∷ [])) (eqb st.first 0) _ _
    (λ u. record {
      first = refl;
      day = p;
      count = omega arith;
      few = omega (arith, leb-false);
      run = omega arith;
      short = l;
      goes = λ j h. rw (le-leb (j + 1) r.longest (omega arith));
    })
    (λ u. absurd (eqb-false _ _ u f)))
after_start r day (s ∷ ss) st a p l =
    cond_case (Outcome r (day ∷ s ∷ ss)) (leb r.most st.count) _ _
    (λ t. inl (omega (arith, leb-true, a.count)))
    (λ t. cond_case (Outcome r (day ∷ s ∷ ss)) (eqb st.first 0) _ _
    (λ u. absurd (omega (arith, eqb-true, a.first, a.day)))
    (λ u. cond_case (Outcome r (day ∷ s ∷ ss)) (eqb st.first (day + 2)) _ _
    (λ v. cond_case (Outcome r (day ∷ s ∷ ss)) (leb r.longest st.run) _ _
    (λ w. inr (λ j. same_run r day s ss st a (eqb-true _ _ v) j ∙ rw (lt-leb (suc j + st.run) r.longest (omega (arith, leb-true)))))
    (λ w. record {
      first = refl;
      day = p;
      count = omega (arith, a.count);
      few = omega (arith, leb-false, a.count);
      run = omega arith;
      short = omega (arith, leb-false);
      goes = λ j h. same_run r day s ss st a (eqb-true _ _ v) j
          ∙ ap (λ (x : ℕ). leb x r.longest && closed r x st.dist) (one_on j st.run);
    }))
    (λ v. cond_case (Outcome r (day ∷ s ∷ ss)) (ltb st.first (day + 3)) _ _
    (λ w. inr (λ j. other_run r day s ss st a (eqb-false _ _ v) j
    ∙ rw (lt-leb (day + 2 + gap r (suc j)) s (omega (arith, ltb-true, eqb-false st.first (day + 2) v, a.first)))))
    (λ w. cond_case (Outcome r (day ∷ s ∷ ss)) (closed r st.run st.dist) _ _
    (λ x. record {
      first = refl;
      day = p;
      count = omega (arith, a.count);
      few = omega (arith, leb-false, a.count);
      run = omega arith;
      short = l;
      goes = λ j h. other_run r day s ss st a (eqb-false _ _ v) j
          ∙ ap (λ (b : Bool). leb (day + 2 + gap r (suc j)) s && b) (from_one r day s ss st a l ∙ x)
          ∙ wide_enough r day s st.first j a.first (ltb-false _ _ w) h;
    })
    (λ x. inr (λ j. other_run r day s ss st a (eqb-false _ _ v) j
    ∙ ap (λ (b : Bool). leb (day + 2 + gap r (suc j)) s && b) (from_one r day s ss st a l ∙ x)
    ∙ and-false (leb (day + 2 + gap r (suc j)) s)))))))

-- ---- the walk

module _ (r : Rules) (n : ℕ) (l : 1 ≤ r.longest) where
  leaf : (q : ℕ) → in_common r n (q * 2 ^ 0) ≡ good r (starts_from 1 n q)
  unfolding in_common good
  leaf q = rw (starts_digits n q)

  leaf_at : (k q : ℕ) → 0 + k ≡ n → in_common r n (q * 2 ^ 0) ≡ good r (starts_from 1 k q)
  leaf_at k q e = leaf q ∙ ap (λ (m : ℕ). good r (starts_from 1 m q)) (sym e ∙ zero-add k)

  dead_none : (d k q : ℕ) → d + k ≡ n → Dead r (starts_from (suc d) k q) → below r n d q ≡ []
  unfolding below filter up_from
  dead_none zero k q e h = rw (leaf_at k q e ∙ dead_good r (starts_from 1 k q) h)
  dead_none (suc d) k q e h = below_split r n d q ∙ ap₂ ◌++◌
      (dead_none d (suc k) (q * 2) (omega arith) (rw (starts_even d k q) h))
      (dead_none d (suc k) (q * 2 + 1) (omega arith) (rw (starts_odd d k q) (dead_more r (suc d) (starts_from (suc (suc d)) k q) h)))

  -- the half with a start on day d + 1, where the walk lists what it goes on to
  high_below : (d k q : ℕ) → suc d + k ≡ n
      → ((t : State) → Alive r (starts_from (suc d) (suc k) (q * 2 + 1)) t → listed r d ((q * 2 + 1) * 2 ^ d) t ≡ below r n d (q * 2 + 1))
      → (N : Option State) → Outcome r (suc d ∷ starts_from (suc (suc d)) k q) N
      → onward N (λ t. listed r d (q * 2 ^ suc d + 2 ^ d) t) ≡ below r n d (q * 2 + 1)
  high_below d k q e ih (Some t) o = ap (λ (x : ℕ). listed r d x t) (high_half d q) ∙ ih t (rw (starts_odd d k q) o)
  high_below d k q e ih None o = sym (dead_none d (suc k) (q * 2 + 1) (omega arith) (rw (starts_odd d k q) o))

  listed_below : (d k q : ℕ) (st : State) → d + k ≡ n → Alive r (starts_from (suc d) k q) st → listed r d (q * 2 ^ d) st ≡ below r n d q
  unfolding below filter up_from listed
  listed_below zero k q st e a = rw (leaf_at k q e ∙ alive_good r (starts_from 1 k q) st a l)
  listed_below (suc d) k q st e a =
      ap₂ ◌++◌
      (ap (λ (x : ℕ). listed r d x st) (low_half d q) ∙ listed_below d (suc k) (q * 2) st (omega arith) (rw (starts_even d k q) a))
      (high_below d k q e (λ t o. listed_below d (suc k) (q * 2 + 1) t (omega arith) o) (start_at r (suc d) st)
      (after_start r (suc d) (starts_from (suc (suc d)) k q) st a (omega arith) l))
      ∙ sym (below_split r n d q)

  pub walk_lists_common : listed r n 0 none_yet ≡ common r n
  unfolding common below starts_from
  walk_lists_common =
      ap (λ (a : ℕ). listed r n a none_yet) (sym (zero-mul (2 ^ n)))
      ∙ listed_below n 0 0 none_yet (add-zero n) (refl, refl, refl)
      ∙ ap (λ (a : ℕ). filter (in_common r n) (up_from a (2 ^ n))) (zero-mul (2 ^ n))

  -- from the state where everything is 0
  pub walk_from : (s : State) → (s.first ≡ 0) × ((s.run ≡ 0) × ((s.dist ≡ 0) × (s.count ≡ 0))) → listed r n 0 s ≡ common r n
  walk_from s (a, (b, (c, e))) = ap (listed r n 0) (begun s.first s.run s.dist s.count a b c e) ∙ walk_lists_common
    where
      begun : (first run dist count : ℕ) → first ≡ 0 → run ≡ 0 → dist ≡ 0 → count ≡ 0 → ◌≡◌ {A = State} (record { first = first; run = run; dist = dist; count = count }) none_yet
      begun first run dist count a b c e = rw (a, b, c, e) refl

-- the common list of an accepted ward is shorter than a count may be
pub common_short : (w : List ℕ) → Accepted w → length (common_of w) ≤ 2 ^ 31
unfolding common
common_short w a =
    let most : length (filter (in_common (rules_of w) (days w)) (up_from 0 (2 ^ days w))) ≤ length (up_from 0 (2 ^ days w)) = filter_le (in_common (rules_of w) (days w)) (up_from 0 (2 ^ days w)) in
    omega (arith, most, length_range 0 (2 ^ days w), pow_mono {i = days w} {j = day_places} a.days_most)
