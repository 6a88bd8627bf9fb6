-- The test of a nurse's own pattern is the rule in the words of documents 01 and 02.
use Rattle.std.specs.Prelude.{◌≡◌, refl, Bool, true, false, ◌||◌, List, ◌⊎◌, ◌↔◌, ℕ, zero, suc, ◌≤◌, eqb}
use Rattle.std.proofs.Common.{sym, ap, ◌∙◌, inl, inr, ⊎_elim, arith, eqb-true, eq-eqb}
use Rattle.std.proofs.lemmas.Bool.{false≢true, and_parts, and_from}
use Rattle.numbers.specs.Patterns.{days_of, pair_of}
use Rattle.fields.specs.Fields.{block, longest_run, mark_on, pair_count, pair_day}
use Rattle.rows.specs.Rows.{row_state}
use Rattle.rows.specs.Pairs.{rest_mark, at_rest, at_rest_on, pair_fits}
use Rattle.rows.proofs.PairLaws.{fits_none, fits_pair, fits_most}
use Rattle.nights.specs.Hers.{hers_of}
use Rattle.nights.specs.Own.{own_pattern}
use Rattle.nights.specs.NightRule.{AtRest, RestDay, PairHers, without_pairs, both_days, PatternHers}
use Rattle.nights.proofs.RuleLaws.{hers_when}

-- ---- a pair's day

either : (a b : Bool) {A B : Type 0} → ((a ≡ true) ↔ A) → ((b ≡ true) ↔ B) → ((a || b) ≡ true) ↔ (A ⊎ B)
either true b p q = (λ e. inl (p.0 refl), λ o. refl)
either false b p q = (λ e. inr (q.0 e), λ o. ⊎_elim (λ x. absurd (false≢true (p.1 x))) q.1 o)

is : (a b : ℕ) → (eqb a b ≡ true) ↔ (a ≡ b)
is a b = (eqb-true a b, eq-eqb a b)

rest_when : (mark state : ℕ) → (at_rest mark state ≡ true) ↔ AtRest mark state
rest_when mark state =
    let states = either (eqb state 0) (eqb state 3) (is state 0) (is state 3) in
    let marks =
    either (eqb mark 0) (eqb mark 1 || (eqb mark 5 || eqb mark 6)) (is mark 0)
    (either (eqb mark 1) (eqb mark 5 || eqb mark 6) (is mark 1) (either (eqb mark 5) (eqb mark 6) (is mark 5) (is mark 6))) in (
      λ e. (let a = and_parts (eqb state 0 || eqb state 3) (rest_mark mark) e in record { open_or_owed = states.0 a.0; marked = marks.0 a.1 }),
      λ o. and_from (eqb state 0 || eqb state 3) (rest_mark mark) (states.1 o.open_or_owed) (marks.1 o.marked),
    )

at_rest_on_lem : (b : List ℕ) (p d : ℕ) → (at_rest_on b p d ≡ true) ↔ RestDay b p d
unfolding at_rest_on
at_rest_on_lem b p d = rest_when (mark_on b d) (row_state b p d)

-- ---- a pair

pair_sound : (w : List ℕ) (i p k : ℕ) → pair_fits w i p k ≡ true → PairHers w i p k
pair_sound w i p zero e = without_pairs (eqb-true (pair_count w) 0 (sym (fits_none w i p) ∙ e)) refl
pair_sound w i p (suc k) e =
    let b = block w i in
    let d = pair_day w (suc k) in
    let most = fits_most w i p (suc k) e in
    let both = and_parts (at_rest_on b p d) (at_rest_on b p (suc d)) (sym (fits_pair w i p (suc k) (omega arith) most) ∙ e) in
    both_days (omega arith) most ((at_rest_on_lem b p d).0 both.0) ((at_rest_on_lem b p (suc d)).0 both.1)

pair_complete : (w : List ℕ) (i p k : ℕ) → PairHers w i p k → pair_fits w i p k ≡ true
pair_complete w i p k (without_pairs e q) = ap (pair_fits w i p) q ∙ fits_none w i p ∙ eq-eqb (pair_count w) 0 e
pair_complete w i p k (both_days l h x y) =
    let b = block w i in
    let d = pair_day w k in
    fits_pair w i p k l h ∙ and_from (at_rest_on b p d) (at_rest_on b p (suc d)) ((at_rest_on_lem b p d).1 x) ((at_rest_on_lem b p (suc d)).1 y)

pub pair_when : (w : List ℕ) (i p k : ℕ) → (pair_fits w i p k ≡ true) ↔ PairHers w i p k
pair_when w i p k = (pair_sound w i p k, pair_complete w i p k)

-- ---- her own pattern

pub pattern_rule : (w : List ℕ) (i c : ℕ) → 1 ≤ longest_run w → (own_pattern w i c ≡ true) ↔ PatternHers w i c
unfolding own_pattern
pattern_rule w i c some =
    let nights = hers_when w (days_of c) some i in
    let pair = pair_when w i (days_of c) (pair_of c) in (
      λ e. (let a = and_parts (hers_of w i (days_of c)) (pair_fits w i (days_of c) (pair_of c)) e in record { nights = nights.0 a.0; pair = pair.0 a.1 }),
      λ o. and_from (hers_of w i (days_of c)) (pair_fits w i (days_of c) (pair_of c)) (nights.1 o.nights) (pair.1 o.pair),
    )
