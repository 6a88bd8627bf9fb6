-- The rule over a nurse's month is the day rule.
use Rattle.std.specs.Prelude.{◌≡◌, refl, Bool, true, false, cond, not, ◌&&◌, List, ℕ, zero, suc, ◌+◌, ◌-◌, ◌^◌, ◌≤◌, ◌<◌, ltb, eqb, length}
use Rattle.std.proofs.Common.{sym, ap, ap₂, ◌∙◌, subst, arith, lt-ltb, le-ltb, ltb-true, eqb-true}
use Rattle.std.proofs.lemmas.Bool.{and_parts}
use Rattle.std.proofs.Math.Decide.{dec_lt}
use Rattle.fields.specs.Sizes.{day_places}
use Rattle.numbers.specs.Range.{up_from, all, Exactly}
use Rattle.numbers.specs.Digits.{has, number_of}
use Rattle.numbers.specs.Patterns.{days_of, pair_of}
use Rattle.numbers.proofs.RangeLaws.{range_each, filtered_exactly}
use Rattle.numbers.proofs.DigitLaws.{number_has, bit_of_zero}
use Rattle.numbers.proofs.AgreeLaws.{all_agree, filter_agree}
use Rattle.fields.specs.Fields.{days, longest_days, block, duty, least_rests_of, most_rests_of, mark_on}
use Rattle.rows.specs.Rows.{started, row_state, available, available_on, fixed_day, duty_of, duty_on}
use Rattle.rows.specs.Pairs.{in_pair}
use Rattle.days.specs.Days.{may_work, choice, row_duty, is_rest, windows_hold, rests, day_rule, day_rule_of, day_list}
use Rattle.days.specs.CodeMonth.{IsSheet, SmallMonth, in_bounds, duty_at, choice_of, rule_of}
use Rattle.days.specs.declared.month.Month.{Month}
use Rattle.days.proofs.WindowLaws.{windows_same}

-- ---- one day

-- an available day is open, so it is day duty where it is worked
open_duty : (mark state : ℕ) → available mark state ≡ true → duty_of mark state true ≡ 1
open_duty mark state e =
    let z = eqb-true state 0 (and_parts (eqb state 0) _ e).0 in
    rw z

worked_duty : (b : List ℕ) (p q d : ℕ) → has q d ≡ true → available_on b p (suc d) ≡ true → duty_on b p q (suc d) ≡ 1
unfolding duty_on available_on
worked_duty b p q d h e = rw h (open_duty (mark_on b (suc d)) (row_state b p (suc d)) e)

idle_duty : (b : List ℕ) (p q d : ℕ) → has q d ≡ false → duty_on b p q (suc d) ≡ duty_on b p 0 (suc d)
unfolding duty_on
idle_duty b p q d h = rw (h, bit_of_zero d)

-- a day pattern's days are available ones
pub choice_available : (b : List ℕ) (n p : ℕ) (off : ℕ → Bool) (q d : ℕ) → choice b n p off q ≡ true → d < n → has q d ≡ true → available_on b p (suc d) ≡ true
unfolding choice
choice_available b n p off q d c l h =
    let a = range_each (λ e. cond (started q e) (may_work b p off e) (not (eqb (mark_on b e) 2))) 1 n (and_parts (ltb q (2 ^ n)) _ c).1 (suc d) (omega arith) (omega arith) in
    (and_parts (available_on b p (suc d)) (not (off (suc d))) (rw h at a)).0

-- ---- the month of a nurse: D and the days are those of her sheet

module _ (b : List ℕ) (p : ℕ) (off : ℕ → Bool) (m : Month) (row : List ℕ) (s : IsSheet b m.days m.longest p off m row) (short : m.longest ≤ 6) (q : ℕ) where
  available_at : (d : ℕ) → d < m.days → has m.available d ≡ may_work b p off (suc d)
  available_at d l = ap (λ (x : ℕ). has x d) s.available_days ∙ number_has (λ e. may_work b p off (suc e)) m.days d l

  fixed_at : (d : ℕ) → d < m.days → has m.fixed d ≡ eqb (mark_on b (suc d)) 2
  fixed_at d l = ap (λ (x : ℕ). has x d) s.fixed_is ∙ number_has (fixed_day b) m.days d l

  chosen_is : (d : ℕ) → 1 ≤ d → d < 1 + m.days
      → cond (started q d) (may_work b p off d) (not (eqb (mark_on b d) 2)) ≡ cond (started q d) (started m.available d) (not (started m.fixed d))
  chosen_is zero l h = absurd (omega arith)
  chosen_is (suc d) l h = rw (available_at d (omega arith), fixed_at d (omega arith))

  choice_is : choice b m.days p off q ≡ choice_of m q
  unfolding choice choice_of
  choice_is = ap (λ (t : Bool). ltb q (2 ^ m.days) && t) (all_agree _ _ 1 m.days chosen_is)

  -- where q is a choice, the row with its days worked is that of the sheet
  module _ (c : choice b m.days p off q ≡ true) where
    month_duty : (d : ℕ) → d < m.days → (x : Bool) → has q d ≡ x → duty_on b p q (suc d) ≡ cond (has q d) 1 (duty_on b p 0 (suc d))
    month_duty d l true h = worked_duty b p q d h (choice_available b m.days p off q d c l h) ∙ rw h
    month_duty d l false h = idle_duty b p q d h ∙ rw h

    duty_is : (t : ℕ) → t < 7 + m.days → row_duty b p q t ≡ duty_at row q t
    unfolding row_duty duty_at
    duty_is t l = rw (s.row_is t l) (go (dec_lt t 7))
      where
        go : Dec (t < 7) → cond (ltb t 7) (duty b t) (duty_on b p q (t - 6))
            ≡ cond (ltb t 7) (cond (ltb t 7) (duty b t) (duty_on b p 0 (t - 6))) (cond (has q (t - 7)) 1 (cond (ltb t 7) (duty b t) (duty_on b p 0 (t - 6))))
        go (yes h) = rw (lt-ltb t 7 h)
        go (no h) =
            let g : 7 ≤ t = omega arith in
            let e : t - 6 ≡ suc (t - 7) = omega arith in
            rw (le-ltb t 7 g, e) (month_duty (t - 7) (omega arith) (has q (t - 7)) refl)

    windows_are : all (windows_hold (row_duty b p q) m.longest) (up_from 7 m.days) ≡ all (windows_hold (duty_at row q) m.longest) (up_from 7 m.days)
    windows_are =
        all_agree _ _ 7 m.days (λ t l h. windows_same (row_duty b p q) (duty_at row q) m.longest t short (omega arith) (λ u i k. duty_is u (omega arith)))

    rests_are : rests (row_duty b p q) m.days ≡ rests (duty_at row q) m.days
    unfolding rests
    rests_are = ap length (filter_agree (λ t. is_rest (row_duty b p q t)) (λ t. is_rest (duty_at row q t)) 7 m.days (λ t l h. ap (λ (x : ℕ). is_rest x) (duty_is t h)))

  rule_here : day_rule b m.days m.longest p off q ≡ rule_of m row q
  unfolding day_rule rule_of
  rule_here = go (choice b m.days p off q) refl
    where
      go : (t : Bool) → choice b m.days p off q ≡ t
          → (choice b m.days p off q
          && (all (windows_hold (row_duty b p q) m.longest) (up_from 7 m.days)
          && in_bounds (least_rests_of b) (most_rests_of b) (rests (row_duty b p q) m.days)))
          ≡ (choice_of m q
          && (all (windows_hold (duty_at row q) m.longest) (up_from 7 m.days)
          && in_bounds m.least m.most (rests (duty_at row q) m.days)))
      go true c =
          ap₂ ◌&&◌ choice_is
          (ap₂ ◌&&◌ (windows_are c)
          (ap (in_bounds (least_rests_of b) (most_rests_of b)) (rests_are c) ∙ ap₂ (λ (x y : ℕ). in_bounds x y (rests (duty_at row q) m.days)) (sym s.least_is) (sym s.most_is)))
      go false c = rw (← choice_is, c)

pub rule_is : (b : List ℕ) (n longest p : ℕ) (off : ℕ → Bool) (m : Month) (row : List ℕ) → IsSheet b n longest p off m row → longest ≤ 6 → (q : ℕ)
    → day_rule b n longest p off q ≡ rule_of m row q
rule_is b n longest p off m row s short q =
    ap₂ (λ (k l : ℕ). day_rule b k l p off q) (sym s.days_is) (sym s.longest_is)
    ∙ rule_here b p off m row
    (subst (λ (k : ℕ). IsSheet b k m.longest p off m row) (sym s.days_is) (subst (λ (l : ℕ). IsSheet b n l p off m row) (sym s.longest_is) s))
    (rw s.longest_is short) q

pub sheet_small : (b : List ℕ) (n longest p : ℕ) (off : ℕ → Bool) (m : Month) (row : List ℕ) → IsSheet b n longest p off m row → n ≤ day_places → longest ≤ 6 → SmallMonth m
sheet_small b n longest p off m row s few short = record { few_days = omega (arith, s.days_is); short = omega (arith, s.longest_is) }

-- ---- what her list is: ascending, and exactly the patterns that the rule lets through

-- the rule's yes is to patterns of the month only
pub rule_below : (w : List ℕ) (i c q : ℕ) → day_rule_of w i c q ≡ true → q < 2 ^ days w
unfolding day_rule choice
rule_below w i c q e = ltb-true q (2 ^ days w) (and_parts _ _ (and_parts _ _ e).0).0

pub list_exactly : (w : List ℕ) (i c : ℕ) → Exactly (day_rule_of w i c) (day_list w i c)
unfolding day_list
list_exactly w i c = filtered_exactly (day_rule_of w i c) (day_rule_of w i c) (2 ^ days w) (λ q e. (rule_below w i c q e, e)) (λ q l e. e)

-- ---- a sheet of the numbers that calls give

-- of `off` only the days from 1 on count
pair_as : (b : List ℕ) (n longest p : ℕ) (m : Month) (row : List ℕ) {off off' : ℕ → Bool} → ((d : ℕ) → off (suc d) ≡ off' (suc d))
    → IsSheet b n longest p off m row → IsSheet b n longest p off' m row
pair_as b n longest p m row e s = record {
  days_is = s.days_is;
  longest_is = s.longest_is;
  least_is = s.least_is;
  most_is = s.most_is;
  available_days = s.available_days ∙ (λ j. number_of (λ d. available_on b p (suc d) && not (e d j)) n);
  fixed_is = s.fixed_is;
  within_is = s.within_is;
  row_is = s.row_is;
}

pub sheet_as : (w : List ℕ) (i c : ℕ) (m : Month) (row : List ℕ) (off : ℕ) {b : List ℕ} {n longest p k : ℕ} → b ≡ block w i → n ≡ days w → longest ≡ longest_days w
    → p ≡ days_of c → k ≡ pair_of c → ((d : ℕ) → has off d ≡ in_pair w k (suc d)) → IsSheet b n longest p (started off) m row
    → IsSheet (block w i) (days w) (longest_days w) (days_of c) (in_pair w (pair_of c)) m row
sheet_as w i c m row off {b} {n} {longest} {p} eb en el ep ek eo s =
    subst (λ (x : List ℕ). IsSheet x (days w) (longest_days w) (days_of c) (in_pair w (pair_of c)) m row) eb
    (subst (λ (x : ℕ). IsSheet b x (longest_days w) (days_of c) (in_pair w (pair_of c)) m row) en
    (subst (λ (x : ℕ). IsSheet b n x (days_of c) (in_pair w (pair_of c)) m row) el
    (subst (λ (x : ℕ). IsSheet b n longest x (in_pair w (pair_of c)) m row) ep
    (subst (λ (x : ℕ). IsSheet b n longest p (in_pair w x) m row) ek
    (pair_as b n longest p m row eo s)))))
