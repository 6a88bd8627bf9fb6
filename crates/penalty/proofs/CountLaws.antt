-- What is counted on columns is what the ward says: sums over 64 places are counts over the nurses.
use Rattle.std.specs.Prelude.{◌≡◌, refl, Bool, true, false, List, ℕ, ◌+◌, ◌-◌, ◌*◌, ◌≤◌, ◌<◌, length, get_or}
use Rattle.std.proofs.Common.{sym, ap, ap₂, ◌∙◌, zero-mul, le_refl, add-le-add, mul-le-mul, arith}
use Rattle.numbers.specs.Sum.{sum_to}
use Rattle.numbers.specs.Digits.{has, put}
use Rattle.numbers.proofs.SumLaws.{sum_zero, sum_suc, sum_ext, sum_mono, sum_add, sum_none}
use Rattle.numbers.proofs.DigitLaws.{count_put, count_put_all}
use Rattle.fields.specs.Fields.{Accepted, nurses, days, groups, weight, member_sets, needs, need, low, high}
use Rattle.penalty.specs.Weights.{Weights}
use Rattle.penalty.specs.declared.duty.Duty.{Duty}
use Rattle.history.specs.declared.Search.{Search}
use Rattle.history.specs.declared.Search.TheVariants.{Nights, Days}
use Rattle.history.specs.Slot.{Slot}
use Rattle.penalty.specs.Penalty.{Parts, on_duty, members, short_on, over_on, unplaced_in, at_night, available_in, at_day, night_parts, day_parts, parts_in}
use Rattle.penalty.specs.CodeCounts.{weights_of, no_high, DutyIs, members_in, need_term, low_term, high_term, group_term, duty_short, duty_over, duty_cost, short_in, over_in, DayCounts}
use Rattle.penalty.specs.CodeColumns.{Same, DayShows, AllShow}
use Rattle.fields.proofs.FieldLaws.{length_member_sets}
use Rattle.penalty.proofs.ColumnLaws.{count_same, all_same}

-- ---- one duty of one day

module _ (w : List ℕ) (a : Accepted w) (k d : ℕ) (f on : ℕ → Bool) (s : Same (nurses w) f on) where
  few : nurses w ≤ 64
  few = omega (arith, a.nurses_most)

  pub short_same : short_in w k d f ≡ short_on w k on d
  unfolding need_term low_term weights_of short_on on_duty members
  short_same =
      ap₂ (λ (x y : ℕ). x + y)
      (ap (λ (x : ℕ). weight w (3 * k) * (need (needs w d) k - x)) (all_same (nurses w) f on s 64 few))
      (ap (λ (n : ℕ). sum_to n (λ g. weight w (3 * k + 1) * (low (needs w d) k g - members_in (member_sets w) f g))) (length_member_sets w a)
      ∙ sum_ext (groups w) _ _ (λ g l. ap (λ (x : ℕ). weight w (3 * k + 1) * (low (needs w d) k g - x)) (count_same (nurses w) f on s 64 few (has (get_or (member_sets w) g 0)))))

  pub over_same : over_in w k d f ≡ over_on w k on d
  unfolding high_term weights_of over_on members
  over_same =
      ap (λ (n : ℕ). sum_to n (λ g. weight w (3 * k + 2) * (members_in (member_sets w) f g - high (needs w d) k g))) (length_member_sets w a)
      ∙ sum_ext (groups w) _ _ (λ g l. ap (λ (x : ℕ). weight w (3 * k + 2) * (x - high (needs w d) k g)) (count_same (nurses w) f on s 64 few (has (get_or (member_sets w) g 0))))

-- short and over together
pub cost_both : (wt : Weights) (sets needs : List ℕ) (k : ℕ) (f : ℕ → Bool) → duty_cost wt sets needs k f ≡ duty_short wt sets needs k f + duty_over wt sets needs k f
unfolding group_term
cost_both wt sets needs k f = omega (arith, sum_add (length sets) (low_term wt sets needs k f) (high_term wt sets needs k f))

-- with highs ignored
pub cost_low : (wt : Weights) (sets needs : List ℕ) (k : ℕ) (f : ℕ → Bool) → duty_cost (no_high wt) sets needs k f ≡ duty_short wt sets needs k f
unfolding need_term low_term high_term
cost_low wt sets needs k f =
    let z : duty_over (no_high wt) sets needs k f ≡ 0 = sum_none (length sets) _ (λ g l. zero-mul (members_in sets f g - high needs k g)) in
    omega (arith, cost_both (no_high wt) sets needs k f)

-- with more on duty no more are short
short_falls : (weight wanted more fewer : ℕ) → fewer ≤ more → weight * (wanted - more) ≤ weight * (wanted - fewer)
short_falls weight wanted more fewer h =
    let l : wanted - more ≤ wanted - fewer = omega arith in
    mul-le-mul (le_refl weight) l

-- so with highs ignored a nurse put in never costs more
pub cost_falls : (wt : Weights) (sets needs : List ℕ) (k i : ℕ) (f : ℕ → Bool) → i < 64
    → duty_cost (no_high wt) sets needs k (put f i true) ≤ duty_cost (no_high wt) sets needs k (put f i false)
unfolding need_term low_term
cost_falls wt sets needs k i f l =
    rw (cost_low wt sets needs k (put f i true), cost_low wt sets needs k (put f i false))
    (add-le-add
    (short_falls wt.w (need needs k) _ _ (omega (arith, count_put_all 64 i f l)))
    (sum_mono (length sets) _ _ (λ g m. short_falls wt.u (low needs k g) _ _ (omega (arith, count_put 64 i f (has (get_or sets g 0)) l)))))

-- ---- one day, from what the calls gave

pub duty_counts : (w : List ℕ) (k d column : ℕ) {wt : Weights} {sets numbers : List ℕ} {r : Duty} {b c : ℕ} → wt ≡ weights_of w k → sets ≡ member_sets w → numbers ≡ needs w d
    → DutyIs r (duty_short wt sets numbers k (has column)) b (duty_over wt sets numbers k (has column)) c → DutyIs r (short_in w k d (has column)) b (over_in w k d (has column)) c
duty_counts w k d column e m q h = record {
  short_is = record { is = h.short_is.is ∙ (λ j. duty_short (e j) (m j) (q j) k (has column)); most = h.short_is.most };
  over_is = record { is = h.over_is.is ∙ (λ j. duty_over (e j) (m j) (q j) k (has column)); most = h.over_is.most };
}

pub night_counts : (w : List ℕ) (d night day : ℕ) {a b r : Duty} → DutyIs a (short_in w 0 d (has night)) 81600 (over_in w 0 d (has night)) 104000
    → DutyIs b (short_in w 1 d (has day)) 81600 (over_in w 1 d (has day)) 104000 → r.short ≡ a.short + b.short → r.over ≡ a.over → DayCounts Nights w d night day r
night_counts w d night day x y e q = record {
  short_is = record { is = e ∙ ap₂ (λ (m n : ℕ). m + n) x.short_is.is y.short_is.is; most = omega (arith, x.short_is.most, y.short_is.most, e) };
  over_is = record { is = q ∙ x.over_is.is; most = omega (arith, x.over_is.most, q) };
}

-- ---- the month: the loop over the days

-- what a day adds, as the slots say
pub short_day : Search → List ℕ → (ℕ → Slot) → ℕ → ℕ
short_day Nights w slots d = short_on w 0 (at_night w slots d) d + short_on w 1 (available_in w slots d) d
short_day Days w slots d = short_on w 1 (at_day w slots d) d

pub over_day : Search → List ℕ → (ℕ → Slot) → ℕ → ℕ
over_day Nights w slots d = over_on w 0 (at_night w slots d) d
over_day Days w slots d = over_on w 1 (at_day w slots d) d

-- the first d days are summed up; they are the slots' days where all columns show the slots
pub record MonthSums (which : Search) (w : List ℕ) (gives : ℕ → ℕ × ℕ → Type 0) (d short over : ℕ) : Type 0 where
  pub short_most : short ≤ 163200 * d
  pub over_most : over ≤ 104000 * d
  pub short_sum : (slots : ℕ → Slot) → AllShow gives which w slots → short ≡ sum_to d (short_day which w slots)
  pub over_sum : (slots : ℕ → Slot) → AllShow gives which w slots → over ≡ sum_to d (over_day which w slots)

module _ (w : List ℕ) (a : Accepted w) (slots : ℕ → Slot) (d night day : ℕ) {t : Duty} where
  day_short : (which : Search) → DayCounts which w d night day t → DayShows which w slots d night day → t.short ≡ short_day which w slots d
  unfolding short_day
  day_short Nights c s = c.short_is.is ∙ ap₂ (λ (x y : ℕ). x + y) (short_same w a 0 d _ _ s.0) (short_same w a 1 d _ _ s.1)
  day_short Days c s = c.short_is.is ∙ short_same w a 1 d _ _ s

  day_over : (which : Search) → DayCounts which w d night day t → DayShows which w slots d night day → t.over ≡ over_day which w slots d
  unfolding over_day
  day_over Nights c s = c.over_is.is ∙ over_same w a 0 d _ _ s.0
  day_over Days c s = c.over_is.is ∙ over_same w a 1 d _ _ s

module _ (w : List ℕ) (which : Search) (gives : ℕ → ℕ × ℕ → Type 0) where
  pub month_start : MonthSums which w gives 0 0 0
  month_start = record {
    short_most = omega arith;
    over_most = omega arith;
    short_sum = λ slots s. sym (sum_zero _);
    over_sum = λ slots s. sym (sum_zero _);
  }

  pub month_turn : {d x y : ℕ} {c : ℕ × ℕ} {t : Duty} → Accepted w → MonthSums which w gives d x y → d < days w → gives d c → DayCounts which w d c.0 c.1 t
      → MonthSums which w gives (d + 1) (x + t.short) (y + t.over)
  month_turn {d} {c} a h l g k = record {
    short_most = omega (arith, h.short_most, k.short_is.most);
    over_most = omega (arith, h.over_most, k.over_is.most);
    short_sum = λ slots s. ap₂ (λ (x y : ℕ). x + y) (h.short_sum slots s) (day_short w a slots d c.0 c.1 which k (s d c l g)) ∙ sym (sum_suc d _);
    over_sum = λ slots s. ap₂ (λ (x y : ℕ). x + y) (h.over_sum slots s) (day_over w a slots d c.0 c.1 which k (s d c l g)) ∙ sym (sum_suc d _);
  }

-- the month's parts by its days
short_in_all : (w : List ℕ) (slots : ℕ → Slot) (which : Search) → sum_to (days w) (short_day which w slots) ≡ (parts_in which w slots).short
unfolding short_day night_parts day_parts
short_in_all w slots Nights = refl
short_in_all w slots Days = refl

over_in_all : (w : List ℕ) (slots : ℕ → Slot) (which : Search) → sum_to (days w) (over_day which w slots) ≡ (parts_in which w slots).over
unfolding over_day night_parts day_parts
over_in_all w slots Nights = refl
over_in_all w slots Days = refl

unplaced_are : (w : List ℕ) (slots : ℕ → Slot) (which : Search) → unplaced_in w slots ≡ (parts_in which w slots).unplaced
unfolding night_parts day_parts
unplaced_are w slots Nights = refl
unplaced_are w slots Days = refl

-- at the end they are the ward's
pub month_parts : (w : List ℕ) (which : Search) (gives : ℕ → ℕ × ℕ → Type 0) (u : ℕ) {d x y : ℕ} → MonthSums which w gives d x y → d ≡ days w
    → (slots : ℕ → Slot) → AllShow gives which w slots → u ≡ unplaced_in w slots → ◌≡◌ {A = Parts} (record { short = x; over = y; unplaced = u }) (parts_in which w slots)
month_parts w which gives u h e slots s q =
    let x = h.short_sum slots s ∙ ap (λ (n : ℕ). sum_to n (short_day which w slots)) e ∙ short_in_all w slots which in
    let y = h.over_sum slots s ∙ ap (λ (n : ℕ). sum_to n (over_day which w slots)) e ∙ over_in_all w slots which in
    let z = q ∙ unplaced_are w slots which in
    λ j. record { short = x j; over = y j; unplaced = z j }
