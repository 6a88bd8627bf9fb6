-- The night rule as a walk over the starts is the rule in document 01's words: in general, for the common list, and for hers.
use Rattle.std.specs.Prelude.{◌≡◌, refl, Bool, true, false, cond, ◌&&◌, List, [], ◌++◌, ◌⊎◌, ◌↔◌, ℕ, zero, suc, ◌+◌, ◌^◌, ◌≤◌, ◌<◌, leb, ltb, eqb, length, get_or, take, drop}
use Rattle.std.proofs.Common.{sym, ap, ◌∙◌, subst, inl, inr, eq-or-lt_of_le, le_of_suc-le-suc, zero-add, add-zero, add-one, arith, length-append, drop_of_length-le, drop-cons, ltb-true, lt-ltb, leb-true, le-leb, eqb-true, ne_eqb}
use Rattle.std.proofs.lemmas.Bool.{eqb-false, and_parts}
use Rattle.std.proofs.Math.Seq.{take-append_seam, drop-append_seam}
use Rattle.numbers.specs.Range.{filter}
use Rattle.numbers.proofs.RangeLaws.{range_all, range_each, filter_each}
use Rattle.fields.specs.Fields.{days, block, longest_run, least_nights_of, most_nights_of, mark_on}
use Rattle.fields.specs.Rules.{rules_of, gap}
use Rattle.fields.specs.declared.rules.Rules.{Rules}
use Rattle.rows.specs.Rows.{allow_table, allows, row_state, marks_allow}
use Rattle.nights.specs.Nights.{starts, allowed, run_with, follow, in_common, common_of}
use Rattle.nights.specs.Hers.{shifted, through, twos, last_run, hers, hers_of, meets_hers_of, night_list}
use Rattle.nights.specs.NightRule.{run_to, KeepsRule, InCommonList, MeetsHers, NightHers}
use Rattle.nights.proofs.FollowLaws.{cond_same, run_some}
use Rattle.nights.proofs.ListLaws.{hers_of_common, list_of_common}

-- ---- the walk at start k, from 0, of a list

module _ (xs : List ℕ) where
  -- the start before it, and how many starts the run of that one then has; 0 and 0 where there is none
  abbrev prev_at : ℕ → ℕ
  prev_at zero = 0
  prev_at (suc j) = get_or xs j 0

  abbrev run_at : ℕ → ℕ
  run_at zero = 0
  run_at (suc j) = run_to xs j

  run_next : (k : ℕ) → run_with (prev_at k) (run_at k) (get_or xs k 0) ≡ run_to xs k
  run_next zero = cond_same (eqb (get_or xs 0 0) 2) 1
  run_next (suc j) = rw (add-one (run_to xs j))

  run_to_some : (k : ℕ) → run_to xs k ≡ 0 → ⊥
  run_to_some k e = run_some (prev_at k) (run_at k) (get_or xs k 0) (run_next k ∙ e)

  -- through the n starts from k on
  through_at : (n k : ℕ) → k + n ≤ length xs → through (prev_at k) (run_at k) (take n (drop k xs)) ≡ (prev_at (k + n), run_at (k + n))
  unfolding through
  through_at zero k h = rw (add-zero k)
  through_at (suc n) k h =
      let q : suc k + n ≡ k + suc n = omega arith in
      ap (λ (l : List ℕ). through (prev_at k) (run_at k) (take (suc n) l)) (drop-cons xs k 0 (omega arith))
      ∙ ap (λ (m : ℕ). through (get_or xs k 0) m (take n (drop (suc k) xs))) (run_next k)
      ∙ through_at n (suc k) (omega arith) ∙ ap {B = ℕ × ℕ} (λ (m : ℕ). (prev_at m, run_at m)) q

module _ (r : Rules) (some : 1 ≤ r.longest) where
  -- ---- a start on day s after one on day a, the m-th of its run

  abbrev Apart : ℕ → ℕ → ℕ → Type 0
  Apart a m s = (s ≡ a + 2) ⊎ (a + (2 + gap r m) ≤ s)

  pair_sound : (a m s : ℕ) → (m ≡ 0 → ⊥) → allowed r a m s ≡ true → Apart a m s × (cond (eqb s (a + 2)) (suc m) 1 ≤ r.longest)
  pair_sound a m s f e = go (eqb s (a + 2)) refl (rw (ne_eqb m 0 f) at e)
    where
      go : (t : Bool) → eqb s (a + 2) ≡ t → cond (eqb s (a + 2)) (leb (m + 1) r.longest) (leb (a + 2 + gap r m) s) ≡ true
          → Apart a m s × (cond (eqb s (a + 2)) (suc m) 1 ≤ r.longest)
      go true q h = (inl (eqb-true s (a + 2) q), rw q (omega (arith, leb-true (m + 1) r.longest (rw q at h))))
      go false q h = (inr (omega (arith, leb-true (a + 2 + gap r m) s (rw q at h))), rw q some)

  pair_complete : (a m s : ℕ) → (m ≡ 0 → ⊥) → Apart a m s → cond (eqb s (a + 2)) (suc m) 1 ≤ r.longest → allowed r a m s ≡ true
  pair_complete a m s f h l = rw (ne_eqb m 0 f) (go (eqb s (a + 2)) refl h)
    where
      go : (t : Bool) → eqb s (a + 2) ≡ t → Apart a m s → cond (eqb s (a + 2)) (leb (m + 1) r.longest) (leb (a + 2 + gap r m) s) ≡ true
      go true q k = rw q (le-leb (m + 1) r.longest (let n = rw q at l in omega arith))
      go false q (inl k) = absurd (eqb-false s (a + 2) q k)
      go false q (inr k) = rw q (le-leb (a + 2 + gap r m) s (omega arith))

  -- ---- the walk over the starts from k on

  module _ (xs : List ℕ) where
    step_sound : (k : ℕ) → allowed r (prev_at xs k) (run_at xs k) (get_or xs k 0) ≡ true → KeepsRule r (suc k) xs → KeepsRule r k xs
    step_sound zero e o = record { apart = λ j l b. o.apart j l (omega arith); run_most = λ j l b. most_at j l }
      where
        most_at : (j : ℕ) → j < length xs → run_to xs j ≤ r.longest
        most_at zero l = some
        most_at (suc j) l = o.run_most (suc j) l (omega arith)
    step_sound (suc i) e o =
        let here = pair_sound (get_or xs i 0) (run_to xs i) (get_or xs (suc i) 0) (run_to_some xs i) e in
        record {
          apart = λ j l b. apart_at j l (eq-or-lt_of_le (le_of_suc-le-suc b)) here.0;
          run_most = λ j l b. most_at j l (eq-or-lt_of_le b) here.1;
        }
      where
        apart_at : (j : ℕ) → suc j < length xs → (i ≡ j) ⊎ (i < j)
            → Apart (get_or xs i 0) (run_to xs i) (get_or xs (suc i) 0) → Apart (get_or xs j 0) (run_to xs j) (get_or xs (suc j) 0)
        apart_at j l (inl q) h = subst (λ (x : ℕ). Apart (get_or xs x 0) (run_to xs x) (get_or xs (suc x) 0)) q h
        apart_at j l (inr q) h = o.apart j l (omega arith)

        most_at : (j : ℕ) → j < length xs → (suc i ≡ j) ⊎ (suc i < j) → run_to xs (suc i) ≤ r.longest → run_to xs j ≤ r.longest
        most_at j l (inl q) h = subst (λ (x : ℕ). run_to xs x ≤ r.longest) q h
        most_at j l (inr q) h = o.run_most j l q

    step_complete : (k : ℕ) → k < length xs → KeepsRule r k xs → allowed r (prev_at xs k) (run_at xs k) (get_or xs k 0) ≡ true
    step_complete zero l o = refl
    step_complete (suc i) l o =
        pair_complete (get_or xs i 0) (run_to xs i) (get_or xs (suc i) 0) (run_to_some xs i) (o.apart i l (omega arith)) (o.run_most (suc i) l (omega arith))

    later : (k : ℕ) → KeepsRule r k xs → KeepsRule r (suc k) xs
    later k o = record { apart = λ j l b. o.apart j l (omega arith); run_most = λ j l b. o.run_most j l (omega arith) }

    follow_at : (k : ℕ) → k < length xs
        → follow r (prev_at xs k) (run_at xs k) (drop k xs) ≡ (allowed r (prev_at xs k) (run_at xs k) (get_or xs k 0) && follow r (get_or xs k 0) (run_to xs k) (drop (suc k) xs))
    unfolding follow
    follow_at k l =
        ap (follow r (prev_at xs k) (run_at xs k)) (drop-cons xs k 0 l)
        ∙ ap (λ (m : ℕ). allowed r (prev_at xs k) (run_at xs k) (get_or xs k 0) && follow r (get_or xs k 0) m (drop (suc k) xs)) (run_next xs k)

    follow_none : (k : ℕ) → length xs ≤ k → follow r (prev_at xs k) (run_at xs k) (drop k xs) ≡ true
    unfolding follow
    follow_none k l = ap (follow r (prev_at xs k) (run_at xs k)) (drop_of_length-le xs {i = k} l)

    walk : (n k : ℕ) → k + n ≡ length xs → (follow r (prev_at xs k) (run_at xs k) (drop k xs) ≡ true) ↔ KeepsRule r k xs
    walk zero k e = (λ h. record { apart = λ j l b. absurd (omega arith); run_most = λ j l b. absurd (omega arith) }, λ o. follow_none k (omega arith))
    walk (suc n) k e =
        let l : k < length xs = omega arith in
        let on = walk n (suc k) (omega arith) in (
          λ h. (let a = and_parts (allowed r (prev_at xs k) (run_at xs k) (get_or xs k 0)) (follow r (get_or xs k 0) (run_to xs k) (drop (suc k) xs)) (sym (follow_at k l) ∙ h) in
              step_sound k a.0 (on.0 a.1)),
          λ o. follow_at k l ∙ rw (step_complete k l o, on.1 (later k o)),
        )

  -- After the starts ys, the walk allows ss exactly where the starts of both keep the rule wherever the later one is of ss.
  pub keeps_when : (ys ss : List ℕ) → (follow r (through 0 0 ys).0 (through 0 0 ys).1 ss ≡ true) ↔ KeepsRule r (length ys) (ys ++ ss)
  keeps_when ys ss =
      let xs = ys ++ ss in
      let k = length ys in
      let e : through 0 0 ys ≡ (prev_at xs k, run_at xs k) =
      ap (through 0 0) (sym (take-append_seam ys ss)) ∙ through_at xs k 0 (simp length-append (omega arith))
      ∙ ap {B = ℕ × ℕ} (λ (m : ℕ). (prev_at xs m, run_at xs m)) (zero-add k) in
      let same : follow r (through 0 0 ys).0 (through 0 0 ys).1 ss ≡ follow r (prev_at xs k) (run_at xs k) (drop k xs) =
      ap (λ (s : ℕ × ℕ). follow r s.0 s.1 ss) e ∙ ap (follow r (prev_at xs k) (run_at xs k)) (sym (drop-append_seam ys ss)) in
      let law = walk xs (length ss) k (sym (length-append ys ss)) in
      (λ h. law.0 (sym same ∙ h), λ o. same ∙ law.1 o)

  -- ---- the common list

  pub common_when : (n p : ℕ) → (in_common r n p ≡ true) ↔ ((length (starts n p) ≤ r.most) × KeepsRule r 0 (starts n p))
  unfolding in_common through
  common_when n p =
      let law = keeps_when [] (starts n p) in (
        λ e. (let a = and_parts (leb (length (starts n p)) r.most) (follow r 0 0 (starts n p)) e in (leb-true _ _ a.0, law.0 a.1)),
        λ o. rw (le-leb (length (starts n p)) r.most o.0, law.1 o.1),
      )

-- ---- hers

marks_when : (b : List ℕ) (n p : ℕ) → (marks_allow allow_table b n p ≡ true) ↔ ((d : ℕ) → 1 ≤ d → d ≤ n → allows allow_table (mark_on b d) (row_state b p d) ≡ true)
unfolding marks_allow
marks_when b n p =
    let t : ℕ → Bool = λ d. allows allow_table (mark_on b d) (row_state b p d) in
    (λ e d l h. range_each t 1 n e d l (omega arith), λ f. range_all t 1 n (λ d l h. f d l (omega arith)))

module _ (w : List ℕ) (p : ℕ) (some : 1 ≤ longest_run w) where
  pub common_list_when : ((ltb p (2 ^ days w) && in_common (rules_of w) (days w) p) ≡ true) ↔ InCommonList w p
  common_list_when =
      let law = common_when (rules_of w) some (days w) p in (
        λ e.
            let a = and_parts (ltb p (2 ^ days w)) (in_common (rules_of w) (days w) p) e in
            let k = law.0 a.1 in
            record { month = ltb-true p (2 ^ days w) a.0; most = k.0; keeps = k.1 },
        λ o. rw (lt-ltb p (2 ^ days w) o.month, law.1 (o.most, o.keeps)),
      )

  module _ (i : ℕ) where
    both_is : (follow (rules_of w) (last_run (block w i)).0 (last_run (block w i)).1 (shifted 7 (starts (days w) p)) ≡ true)
        ↔ KeepsRule (rules_of w) (length (twos (block w i))) (twos (block w i) ++ shifted 7 (starts (days w) p))
    unfolding last_run
    both_is = keeps_when (rules_of w) some (twos (block w i)) (shifted 7 (starts (days w) p))

    pub meets_when : (meets_hers_of w i p ≡ true) ↔ MeetsHers w i p
    meets_when =
        let b = block w i in
        let n = days w in
        let s = length (starts n p) in (
          λ e.
              let d = and_parts (follow (rules_of w) (last_run b).0 (last_run b).1 (shifted 7 (starts n p))) (marks_allow allow_table b n p && (leb (least_nights_of b) s && leb s (most_nights_of b))) e in
              let m = and_parts (marks_allow allow_table b n p) (leb (least_nights_of b) s && leb s (most_nights_of b)) d.1 in
              let q = and_parts (leb (least_nights_of b) s) (leb s (most_nights_of b)) m.1 in
              record {
                keeps_on = both_is.0 d.0;
                marks = (marks_when b n p).0 m.0;
                least_nights = leb-true (least_nights_of b) s q.0;
                nights_at_most = leb-true s (most_nights_of b) q.1;
              },
          λ o. rw (both_is.1 o.keeps_on, (marks_when b n p).1 o.marks, le-leb (least_nights_of b) s o.least_nights, le-leb s (most_nights_of b) o.nights_at_most),
        )

    pub hers_when : (hers_of w i p ≡ true) ↔ NightHers w i p
    unfolding hers
    hers_when =
        let below = ltb p (2 ^ days w) in
        let common = in_common (rules_of w) (days w) p in (
          λ e.
              let a = and_parts below (common && meets_hers_of w i p) e in
              let c = and_parts common (meets_hers_of w i p) a.1 in
              record { common = common_list_when.0 (rw (a.0, c.0)); meets = meets_when.0 c.1 },
          λ o.
              let a = and_parts below common (common_list_when.1 o.common) in
              rw (a.0, a.1, meets_when.1 o.meets),
        )

-- her list is what of the common list meets what is hers
pub list_filtered : (w : List ℕ) (i : ℕ) → night_list w i ≡ filter (meets_hers_of w i) (common_of w)
list_filtered w i = list_of_common w i ∙ filter_each (hers_of w i) (meets_hers_of w i) (common_of w) (hers_of_common w i)
