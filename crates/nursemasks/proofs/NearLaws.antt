-- Where last month's run does not matter: a pattern with no start on the days near to it keeps the rule after it does alone.
use Rattle.std.specs.Prelude.{◌≡◌, refl, Bool, true, false, cond, not, ◌&&◌, List, [], ◌∷◌, ℕ, zero, suc, ◌+◌, ◌-◌, ◌^◌, ◌≤◌, ◌<◌, bit_and, leb, eqb, length, get_or}
use Rattle.std.proofs.Common.{sym, ap, ap₂, ◌∙◌, arith, pow_pos, eqb-true, eq-eqb, ne_eqb, le-leb, lt-ltb, true≢false}
use Rattle.std.proofs.lemmas.Bool.{eqb-false, lt-leb, and_parts}
use Rattle.std.proofs.Math.Bool.{and-true, and-false}
use Rattle.std.proofs.Math.Decide.{dec_lt}
use Rattle.fields.specs.Sizes.{day_places}
use Rattle.numbers.specs.Range.{up_from, filter}
use Rattle.numbers.specs.Sum.{count_to}
use Rattle.numbers.specs.Digits.{has}
use Rattle.numbers.proofs.RangeLaws.{filter_passes, tests_alike}
use Rattle.numbers.proofs.SetLaws.{has_and, has_not, has_above}
use Rattle.rows.specs.Rows.{started, allow_table, marks_allow}
use Rattle.fields.specs.Fields.{least_nights_of, most_nights_of}
use Rattle.fields.specs.declared.rules.Rules.{Rules}
use Rattle.fields.specs.Rules.{gap}
use Rattle.nights.specs.Nights.{starts, follow, allowed, run_with, in_common}
use Rattle.nights.specs.Hers.{shifted, last_run, hers}
use Rattle.nursemasks.specs.declared.masks.Masks.{Masks}
use Rattle.nursemasks.specs.CodeMasks.{near, masks_by, masks_of}
use Rattle.nights.proofs.FollowLaws.{leb_same, follow_first}
use Rattle.nursemasks.proofs.MaskLaws.{marks_never}
use Rattle.nights.proofs.StartLaws.{count_starts}

-- ---- the rule does not depend on where the days are counted from

eqb_same : (a b m n : ℕ) → (a ≡ b → m ≡ n) → (m ≡ n → a ≡ b) → eqb a b ≡ eqb m n
eqb_same a b m n f g = tests_alike (eqb a b) (eqb m n) (λ e. eq-eqb m n (f (eqb-true a b e))) (λ e. eq-eqb a b (g (eqb-true m n e)))

joins_moved : (k prev s : ℕ) → eqb (s + k) (prev + k + 2) ≡ eqb s (prev + 2)
joins_moved k prev s = eqb_same (s + k) (prev + k + 2) s (prev + 2) (λ e. omega arith) (λ e. omega arith)

follow_moved : (r : Rules) (k prev run : ℕ) (ss : List ℕ) → follow r (prev + k) run (shifted k ss) ≡ follow r prev run ss
unfolding follow shifted
follow_moved r k prev run [] = refl
follow_moved r k prev run (s ∷ ss) =
    let j = joins_moved k prev s in
    let g = leb_same (prev + k + 2 + gap r run) (s + k) (prev + 2 + gap r run) s (λ h. omega arith) (λ h. omega arith) in
    rw (j, g, follow_moved r k s (cond (eqb s (prev + 2)) (run + 1) 1) ss)

-- ---- a start far from last month's run

far_allowed : (r : Rules) (prev run s : ℕ) → (run ≡ 0 → ⊥) → prev + 3 + gap r run ≤ s → allowed r prev run s ≡ true
far_allowed r prev run s f h =
    let other : s ≡ prev + 2 → ⊥ = λ e. omega arith in
    rw (ne_eqb run 0 f, ne_eqb s (prev + 2) other) (le-leb (prev + 2 + gap r run) s (omega arith))

far_run : (r : Rules) (prev run s : ℕ) → prev + 3 + gap r run ≤ s → run_with prev run s ≡ 1
far_run r prev run s h =
    let other : s ≡ prev + 2 → ⊥ = λ e. omega arith in
    rw (ne_eqb s (prev + 2) other)

first_run : (prev s : ℕ) → run_with prev 0 s ≡ 1
first_run prev s = go (eqb s (prev + 2))
  where
    go : (t : Bool) → cond t (0 + 1) 1 ≡ 1
    go true = refl
    go false = refl

far_follow : (r : Rules) (prev run s : ℕ) (ss : List ℕ) → near r prev run + 8 ≤ s + 7
    → follow r prev run ((s + 7) ∷ ss) ≡ follow r (s + 7) 1 ss
unfolding follow
far_follow r prev run s ss h = go (eqb run 0) refl
  where
    go : (t : Bool) → eqb run 0 ≡ t → (allowed r prev run (s + 7) && follow r (s + 7) (run_with prev run (s + 7)) ss) ≡ follow r (s + 7) 1 ss
    go true e =
        let z = eqb-true run 0 e in
        rw (z, first_run prev (s + 7))
    go false e =
        let f = eqb-false run 0 e in
        let far : prev + 3 + gap r run ≤ s + 7 = omega (arith, rw e at h) in
        rw (far_allowed r prev run (s + 7) f far, far_run r prev run (s + 7) far)

-- ---- a pattern with no start on the first k days

full : (k d : ℕ) → d < k → has (2 ^ k - 1) d ≡ true
full k d l =
    let same : 2 ^ k - 1 ≡ (2 ^ k - 1) - 0 = omega arith in
    ap (λ (y : ℕ). has y d) same ∙ has_not k 0 d (pow_pos k) l ∙ ap not (has_above 0 0 d (omega arith) (omega arith))

no_start : (k p d : ℕ) → bit_and p (2 ^ k - 1) ≡ 0 → d < k → has p d ≡ false
no_start k p d e l =
    sym (and-true (has p d)) ∙ ap (λ (v : Bool). has p d && v) (sym (full k d l)) ∙ sym (has_and p (2 ^ k - 1) d)
    ∙ ap (λ (y : ℕ). has y d) e ∙ has_above 0 0 d (omega arith) (omega arith)

late_start : (k p s : ℕ) → bit_and p (2 ^ k - 1) ≡ 0 → started p s ≡ true → k + 8 ≤ s + 7
late_start k p zero e h = absurd (true≢false (sym h))
late_start k p (suc d) e h = go (dec_lt d k)
  where
    go : Dec (d < k) → k + 8 ≤ suc d + 7
    go (yes l) = absurd (true≢false (sym h ∙ no_start k p d e l))
    go (no l) = omega arith

first_late : (k p n s : ℕ) (ss : List ℕ) → bit_and p (2 ^ k - 1) ≡ 0 → starts n p ≡ s ∷ ss → k + 8 ≤ s + 7
unfolding starts
first_late k p n s ss e h =
    let there : 0 < length (filter (started p) (up_from 1 n)) = rw h (omega arith) in
    let passes = filter_passes (started p) (up_from 1 n) 0 there in
    late_start k p s e (ap (λ (l : List ℕ). started p (get_or l 0 0)) (sym h) ∙ passes)

nothing : (r : Rules) (prev run : ℕ) → follow r prev run [] ≡ follow r 0 0 []
unfolding follow
nothing r prev run = refl

-- last month's run does not matter to it
pub far_alone : (r : Rules) (prev run n p : ℕ) → bit_and p (2 ^ near r prev run - 1) ≡ 0
    → follow r prev run (shifted 7 (starts n p)) ≡ follow r 0 0 (starts n p)
unfolding shifted
far_alone r prev run n p e = go (starts n p) refl
  where
    go : (L : List ℕ) → starts n p ≡ L → follow r prev run (shifted 7 L) ≡ follow r 0 0 L
    go [] h = nothing r prev run
    go (s ∷ ss) h =
        far_follow r prev run s (shifted 7 ss) (first_late (near r prev run) p n s ss e h)
        ∙ follow_moved r 7 s 1 ss ∙ sym (follow_first r s ss)

-- ---- hers, of a pattern of the common list

pub hers_known : (r : Rules) (n p : ℕ) (b : List ℕ) → p < 2 ^ n → in_common r n p ≡ true
    → hers allow_table r n b p
    ≡ (follow r (last_run b).0 (last_run b).1 (shifted 7 (starts n p))
    && (marks_allow allow_table b n p
    && (leb (least_nights_of b) (length (starts n p)) && leb (length (starts n p)) (most_nights_of b))))
unfolding hers
hers_known r n p b h e = rw (lt-ltb p (2 ^ n) h, e)

pub common_follows : (r : Rules) (n p : ℕ) → in_common r n p ≡ true → follow r 0 0 (starts n p) ≡ true
unfolding in_common
common_follows r n p e = (and_parts (leb (length (starts n p)) r.most) (follow r 0 0 (starts n p)) e).1

-- ---- the ways out of the fast test

module _ (r : Rules) (n p : ℕ) (b : List ℕ) (m : Masks) (is : m ≡ masks_of r n b) (small : p < 2 ^ n) (known : in_common r n p ≡ true) where
  pub out_marks : marks_allow allow_table b n p ≡ false → false ≡ hers allow_table r n b p
  out_marks e = sym (hers_known r n p b small known ∙ simp (e, and-false))

  pub out_never : n ≤ day_places → (bit_and p m.never ≡ 0 → ⊥) → false ≡ hers allow_table r n b p
  unfolding masks_by
  out_never days f = out_marks (marks_never allow_table r n p b days known (λ q. f (ap (λ (x : Masks). bit_and p x.never) is ∙ q)))

  pub out_few : (k : ℕ) → k ≡ count_to n (has p) → k < m.least → false ≡ hers allow_table r n b p
  unfolding masks_by
  out_few k e l =
      let few : length (starts n p) < least_nights_of b = omega (arith, count_starts n p, e, ap (λ (x : Masks). x.least) is) in
      sym (hers_known r n p b small known ∙ simp (lt-leb (least_nights_of b) (length (starts n p)) few, and-false))

  pub out_many : (k : ℕ) → k ≡ count_to n (has p) → m.most < k → false ≡ hers allow_table r n b p
  unfolding masks_by
  out_many k e l =
      let many : most_nights_of b < length (starts n p) = omega (arith, count_starts n p, e, ap (λ (x : Masks). x.most) is) in
      sym (hers_known r n p b small known ∙ simp (lt-leb (length (starts n p)) (most_nights_of b) many, and-false))

  -- her marks and bounds hold: last month's run decides
  pub by_run : (k : ℕ) → marks_allow allow_table b n p ≡ true → k ≡ count_to n (has p) → m.least ≤ k → k ≤ m.most
      → follow r m.last.prev m.last.run (shifted 7 (starts n p)) ≡ hers allow_table r n b p
  unfolding masks_by
  by_run k a e l h =
      let least : least_nights_of b ≤ length (starts n p) = omega (arith, count_starts n p, e, ap (λ (x : Masks). x.least) is) in
      let most : length (starts n p) ≤ most_nights_of b = omega (arith, count_starts n p, e, ap (λ (x : Masks). x.most) is) in
      ap₂ (λ (u v : ℕ). follow r u v (shifted 7 (starts n p))) (ap (λ (x : Masks). x.last.prev) is) (ap (λ (x : Masks). x.last.run) is)
      ∙ sym (hers_known r n p b small known ∙ simp (a, le-leb (least_nights_of b) (length (starts n p)) least, le-leb (length (starts n p)) (most_nights_of b) most, and-true))

  -- no start is near to it
  pub by_distance : bit_and p m.near ≡ 0 → true ≡ follow r m.last.prev m.last.run (shifted 7 (starts n p))
  unfolding masks_by
  by_distance e =
      let apart : bit_and p (2 ^ near r (last_run b).0 (last_run b).1 - 1) ≡ 0 = ap (λ (x : Masks). bit_and p x.near) (sym is) ∙ e in
      sym (ap₂ (λ (u v : ℕ). follow r u v (shifted 7 (starts n p))) (ap (λ (x : Masks). x.last.prev) is) (ap (λ (x : Masks). x.last.run) is)
      ∙ far_alone r (last_run b).0 (last_run b).1 n p apart ∙ common_follows r n p known)
