-- One duty of one day: its terms' bounds, and what the loops over the groups add up.
use Rattle.std.specs.Prelude.{◌≡◌, refl, Bool, List, ℕ, ◌+◌, ◌-◌, ◌*◌, ◌≤◌, ◌<◌, length}
use Rattle.std.proofs.Common.{mul-le-mul, arith}
use Rattle.numbers.specs.Sum.{sum_to, count_to, Is}
use Rattle.numbers.proofs.SumLaws.{loop_start, loop_turn}
use Rattle.fields.specs.Fields.{need, low, high}
use Rattle.penalty.specs.Weights.{Weights, Light}
use Rattle.penalty.specs.declared.duty.Duty.{Duty}
use Rattle.penalty.specs.CodeCounts.{DutyIs, members_in, need_term, low_term, high_term}

-- products of small numbers
pub w_le : {wt : Weights} {a : ℕ} → Light wt → a ≤ 48 → wt.w * a ≤ 4800
w_le l h = mul-le-mul l.light_w h

pub u_le : {wt : Weights} {a : ℕ} → Light wt → a ≤ 48 → wt.u * a ≤ 4800
u_le l h = mul-le-mul l.light_u h

pub v_le : {wt : Weights} {a : ℕ} → Light wt → a ≤ 65 → wt.v * a ≤ 6500
v_le l h = mul-le-mul l.light_v h

-- ---- what is short and what is over

pub need_is : (wt : Weights) (needs : List ℕ) (k : ℕ) (f : ℕ → Bool) {r x count : ℕ}
    → x ≡ need needs k → count ≡ count_to 64 f → Is r (wt.w * (x - count)) 4800 → Is r (need_term wt needs k f) 4800
unfolding need_term
need_is wt needs k f n e h = rw (n, e) at h

pub group_is : (wt : Weights) (sets needs : List ℕ) (k g : ℕ) (f : ℕ → Bool) {r : Duty} {x y count : ℕ}
    → x ≡ low needs k g → y ≡ high needs k g → count ≡ members_in sets f g → DutyIs r (wt.u * (x - count)) 4800 (wt.v * (count - y)) 6500
    → DutyIs r (low_term wt sets needs k f g) 4800 (high_term wt sets needs k f g) 6500
unfolding low_term high_term
group_is wt sets needs k g f l m e h = rw (l, m, e) at h

-- the loop over the groups
pub record GroupsSummed (wt : Weights) (sets needs : List ℕ) (k : ℕ) (f : ℕ → Bool) (g short over : ℕ) : Type 0 where
  pub inside : g ≤ length sets
  pub short_sum : Is short (need_term wt needs k f + sum_to g (low_term wt sets needs k f)) (4800 + 4800 * g)
  pub over_sum : Is over (0 + sum_to g (high_term wt sets needs k f)) (0 + 6500 * g)

module _ (wt : Weights) (sets needs : List ℕ) (k : ℕ) (f : ℕ → Bool) where
  pub sums_start : {s : ℕ} → Is s (need_term wt needs k f) 4800 → GroupsSummed wt sets needs k f 0 s 0
  sums_start h = record {
    inside = omega arith;
    short_sum = loop_start _ _ _ h;
    over_sum = loop_start 0 0 _ (record { is = refl; most = omega arith });
  }

  pub sums_turn : {g s o : ℕ} {t : Duty} → GroupsSummed wt sets needs k f g s o → g < length sets
      → DutyIs t (low_term wt sets needs k f g) 4800 (high_term wt sets needs k f g) 6500 → GroupsSummed wt sets needs k f (g + 1) (s + t.short) (o + t.over)
  sums_turn h l c = record {
    inside = omega arith;
    short_sum = loop_turn _ 4800 4800 _ _ h.short_sum c.short_is;
    over_sum = loop_turn 0 0 6500 _ _ h.over_sum c.over_is;
  }
