-- What the walk lists from its beginning is the nurse's day list.
use Rattle.std.specs.Prelude.{◌≡◌, Bool, List, ℕ, ◌+◌, ◌-◌, ◌*◌, ◌^◌, ◌≤◌, min, length, get_or}
use Rattle.std.proofs.Common.{sym, ap, ap₂, ◌∙◌, subst, zero-mul, zero-add, arith, pow_mono, pow_pos}
use Rattle.fields.specs.Sizes.{day_places}
use Rattle.numbers.specs.Range.{up_from, filter}
use Rattle.numbers.specs.Digits.{has}
use Rattle.numbers.specs.Patterns.{days_of, pair_of}
use Rattle.numbers.proofs.RangeLaws.{filter_same, length_range}
use Rattle.numbers.proofs.AgreeLaws.{filter_le}
use Rattle.numbers.proofs.DigitLaws.{number_has}
use Rattle.fields.specs.declared.Body.{Body}
use Rattle.fields.specs.Fields.{Accepted, days, longest_days, block, least_rests_of, most_rests_of}
use Rattle.rows.specs.Pairs.{in_pair}
use Rattle.days.specs.Days.{day_rule_of, day_list}
use Rattle.days.specs.CodeMonth.{IsSheet, SmallMonth, in_bounds, rule_of}
use Rattle.days.specs.declared.month.Month.{Month}
use Rattle.days.proofs.SheetLaws.{rule_is, sheet_small}
use Rattle.daylists.specs.Lists.{day_lists}
use Rattle.daylists.specs.CodeWalk.{listed, walked, Filled, Idle, Inside, PutFrom}
use Rattle.daylists.proofs.ReachLaws.{Bounded}
use Rattle.daylists.proofs.ListLaws.{walk_lists}
use Rattle.daylists.proofs.OnwardLaws.{walked_is}

bounded : (b : List ℕ) (n longest p : ℕ) (off : ℕ → Bool) (m : Month) (row : List ℕ) → IsSheet b n longest p off m row → n ≤ day_places → longest ≤ 6 → Bounded m
bounded b n longest p off m row s few short = record {
  small = sheet_small b n longest p off m row s few short;
  within_is = λ k l.
      ap (λ (x : ℕ). has x k) s.within_is ∙ number_has (in_bounds (least_rests_of b) (most_rests_of b)) 32 k l
      ∙ ap₂ (λ (x y : ℕ). in_bounds x y k) (sym s.least_is) (sym s.most_is);
}

-- her sheet under her pattern c
abbrev Sheet : List ℕ → ℕ → ℕ → Month → List ℕ → Type 0
Sheet w i c m row = IsSheet (block w i) (days w) (longest_days w) (days_of c) (in_pair w (pair_of c)) m row

lists_day_list : (w : List ℕ) (i c : ℕ) (m : Month) (row : List ℕ) → Accepted w → Sheet w i c m row → listed m row (days w) 0 0 ≡ day_list w i c
unfolding day_list
lists_day_list w i c m row a s =
    ap (λ (k : ℕ). listed m row k 0 0) (sym s.days_is)
    ∙ walk_lists m row (bounded _ _ _ _ _ m row s a.days_most a.day_run_most)
    ∙ filter_same (rule_of m row) (day_rule_of w i c) (λ q. sym (rule_is _ _ _ _ _ m row s a.day_run_most q)) (up_from 0 (2 ^ m.days))
    ∙ ap (λ (k : ℕ). filter (day_rule_of w i c) (up_from 0 (2 ^ k))) s.days_is

-- ---- the walk's beginning

-- her tables under her pattern c
pub record Tables (w : List ℕ) (i c : ℕ) (m : Month) (row ways : List ℕ) (idle : ℕ) : Type 0 where
  pub accepted : Accepted w
  pub sheet : Sheet w i c m row
  pub filled : Filled m row ways (64 * m.days + 64)
  pub rests : Idle row m.days idle

pub tables : (w : List ℕ) (i c : ℕ) {m : Month} {row ways : List ℕ} {idle : ℕ} → Accepted w → Sheet w i c m row → Filled m row ways (64 * m.days + 64) → Idle row m.days idle
    → Tables w i c m row ways idle
tables w i c a s f r = record { accepted = a; sheet = s; filled = f; rests = r }

module _ {w : List ℕ} {i c : ℕ} {m : Month} {row ways : List ℕ} {idle : ℕ} (t : Tables w i c m row ways idle) where
  small : SmallMonth m
  small = sheet_small _ _ _ _ _ m row t.sheet t.accepted.days_most t.accepted.day_run_most

  pub start_inside : Inside m.days 0 0
  start_inside = record { days_left = omega (arith, small.few_days); fits = omega (arith, pow_mono {i = m.days} {j = day_places} small.few_days) }

  pub start_lists : walked ways idle m.days 0 0 ≡ day_list w i c
  start_lists =
      subst (λ (x : ℕ). walked ways idle m.days x 0 ≡ listed m row m.days x 0) (zero-mul (2 ^ m.days))
      (walked_is m row ways idle small t.filled t.rests m.days 0 0 (omega arith) (pow_pos (m.days - m.days)))
      ∙ ap (λ (k : ℕ). listed m row k 0 0) t.sheet.days_is ∙ lists_day_list w i c m row t.accepted t.sheet

  -- what the walk says of its own list it says of hers
  pub day_count : (places : ℕ) {n : ℕ} → n ≡ min places (0 + length (walked ways idle m.days 0 0)) → n ≡ min places (length (day_list w i c))
  day_count places e = e ∙ ap (min places) (zero-add _ ∙ ap length start_lists)

  pub day_written : {R : Type 0} (Put : R → ℕ → ℕ → R → Type 0) (s t : R) {places : ℕ} → (0 + length (walked ways idle m.days 0 0) ≤ places → PutFrom Put s 0 (walked ways idle m.days 0 0) t)
      → length (day_list w i c) ≤ places → PutFrom Put s 0 (day_list w i c) t
  day_written Put s t f l = subst (λ (L : List ℕ). PutFrom Put s 0 L t) start_lists (f (omega (arith, ap length start_lists)))

-- a day list is shorter than a count may be
pub day_list_short : (w : List ℕ) (i c : ℕ) → Accepted w → length (day_list w i c) ≤ 2 ^ 31
unfolding day_list
day_list_short w i c a =
    let most : length (filter (day_rule_of w i c) (up_from 0 (2 ^ days w))) ≤ length (up_from 0 (2 ^ days w)) = filter_le (day_rule_of w i c) (up_from 0 (2 ^ days w)) in
    omega (arith, most, length_range 0 (2 ^ days w), pow_mono {i = days w} {j = day_places} a.days_most)

-- one of all nurses' lists
pub day_list_of : (nights : List ℕ) {v w : Body} {j i : ℕ} → v ≡ w → j ≡ i → day_list v.numbers.now j (get_or nights i 0) ≡ day_lists w.numbers.now nights i
day_list_of nights e f = rw (e, f)
