-- The margins: what one more and one fewer change, and how a duty's places are filled.
use Rattle.std.specs.Prelude.{◌≡◌, refl, Bool, true, false, List, ◌⊎◌, ℕ, suc, ◌+◌, ◌-◌, ◌*◌, ◌%◌, ◌≤◌, ◌<◌, eqb, length, get_or, set}
use Rattle.std.proofs.Common.{replicate, sym, ◌∙◌, subst, inl, inr, ⊎_elim, not-suc-le-zero, mul-suc, arith, below_more, eqb-true, length-set, get_or-set_same, get_or-set_other}
use Rattle.std.proofs.lemmas.Bool.{eqb-false}
use Rattle.numbers.specs.Sum.{count_to}
use Rattle.numbers.specs.Digits.{has}
use Rattle.fields.specs.Fields.{days, member_sets, needs, need, low, high}
use Rattle.history.specs.declared.Search.{Search}
use Rattle.history.specs.declared.Search.TheVariants.{Nights, Days}
use Rattle.penalty.specs.Weights.{Weights, Light}
use Rattle.penalty.specs.declared.duty.Duty.{Duty}
use Rattle.penalty.specs.CodeCounts.{weights_of, no_high, DutyIs, members_in, duty_short, duty_over}
use Rattle.tables.proofs.SumLaws.{same_low}
use Rattle.penalty.proofs.CountLaws.{cost_both}
use Rattle.margins.specs.CodeMargins.{bounds_cost, as_low, Margin, Slight, MarginPut, GroupMargin, GroupsPut, DayMargins, DayPut, MarginsOf, SearchMargins}

-- ---- one member more

-- from cost a to cost b: s falls away, o comes
pub record CostStep (a b s o : ℕ) : Type 0 where
  pub balance : a + o ≡ b + s
  pub low_most : s ≤ 100
  pub high_most : o ≤ 100

-- v where a is below b, and else 0
abbrev pub IfLess : ℕ → ℕ → ℕ → ℕ → Type 0
IfLess a b v r = ((a < b) × (r ≡ v)) ⊎ ((b ≤ a) × (r ≡ 0))

-- a product whose second factor is one more, or the same
times_step : (v a b r : ℕ) → ((a ≡ suc b) × (r ≡ v)) ⊎ ((a ≡ b) × (r ≡ 0)) → v * a ≡ v * b + r
times_step v a b r (inl h) = rw (h.0, h.1) (mul-suc v b)
times_step v a b r (inr h) = rw (h.0, h.1) (omega arith)

short_step : (u low x s : ℕ) → IfLess x low u s → u * (low - x) ≡ u * (low - (x + 1)) + s
short_step u low x s h = times_step u (low - x) (low - (x + 1)) s (⊎_elim (λ l. inl (omega arith, l.1)) (λ l. inr (omega arith, l.1)) h)

over_step : (v high x o : ℕ) → IfLess high (x + 1) v o → v * (x + 1 - high) ≡ v * (x - high) + o
over_step v high x o h = times_step v (x + 1 - high) (x - high) o (⊎_elim (λ l. inl (omega arith, l.1)) (λ l. inr (omega arith, l.1)) h)

if_less_most : (a b v r : ℕ) → v ≤ 100 → IfLess a b v r → r ≤ 100
if_less_most a b v r m h = ⊎_elim (λ l. omega (arith, l.1)) (λ l. omega (arith, l.1)) h

pub step : (wt : Weights) (low high x : ℕ) {s o : ℕ} → Light wt → IfLess x low wt.u s → IfLess high (x + 1) wt.v o
    → CostStep (bounds_cost wt low high x) (bounds_cost wt low high (x + 1)) s o
unfolding bounds_cost
step wt low high x {s} {o} h p q = record {
  balance = omega (arith, short_step wt.u low x s p, over_step wt.v high x o q);
  low_most = if_less_most x low wt.u s h.light_u p;
  high_most = if_less_most high (x + 1) wt.v o h.light_v q;
}

-- ---- one condition is put

-- places of one number
pub same_slight : (k v : ℕ) → v ≤ 200 → Slight (replicate k v)
same_slight k v h = record { slight = λ e q. (same_low k v 200 h).low e }

slight_set : (l : List ℕ) (i v : ℕ) → Slight l → i < length l → v ≤ 200 → Slight (set l i v)
slight_set l i v s h k = record { slight = λ e q. go e q (eqb e i) refl }
  where
    go : (e : ℕ) → e < 1088 → (b : Bool) → eqb e i ≡ b → get_or (set l i v) e 0 ≤ 200
    go e q true r = rw (eqb-true e i r, get_or-set_same l i v 0 h) k
    go e q false r = rw (get_or-set_other l i e v 0 (eqb-false e i r)) (s.slight e q)

module _ (l : List ℕ) (at : ℕ) (cost : ℕ → ℕ) (x : ℕ) {m : ℕ} {b : List ℕ} (long : length l ≡ 1152) (fits : at + 32 < 1088)
    (more : (m + cost x ≡ 100 + cost (x + 1)) × (m ≤ 200)) (e : b ≡ set l at m) where
  inside : at < length l
  inside = omega arith

  pub one_slight : Slight l → Slight b
  one_slight s = rw e (slight_set l at m s inside more.1)

  -- with nobody there is no one fewer
  pub put_one : x ≤ 0 → MarginPut l b at cost x
  put_one z = record {
    margin = record { more_is = rw (e, get_or-set_same l at m 0 inside) more.0; fewer_is = λ y q. let n : ⊥ = omega arith in absurd n };
    others = λ i p q. rw e (get_or-set_other l at i m 0 p);
  }

  pub put_both : {f : ℕ} {r : List ℕ} → 0 < x → (f + cost (x - 1 + 1) ≡ 100 + cost (x - 1)) × (f ≤ 200) → r ≡ set b (at + 32) f → MarginPut l r at cost x
  put_both {f} z fewer k =
      let j : at + 32 < length b = rw (e, length-set l at m) (omega arith) in
      record {
        margin = record {
          more_is = rw (k, get_or-set_other b (at + 32) at f 0 (λ q. omega arith), e, get_or-set_same l at m 0 inside) more.0;
          fewer_is = λ y q. let p : x - 1 ≡ y = omega arith in rw (k, get_or-set_same b (at + 32) f 0 j, q) (rw p at fewer.0);
        };
        others = λ i p q. rw (k, get_or-set_other b (at + 32) i f 0 q, e) (get_or-set_other l at i m 0 p);
      }

margin_same : {cost : ℕ → ℕ} {x m f n g : ℕ} → n ≡ m → g ≡ f → Margin cost x m f → Margin cost x n g
margin_same p q k = rw (p, q) k

-- ---- the groups of a day

-- the first g groups are put
pub record GroupsTo (wt : Weights) (sets numbers : List ℕ) (k column d : ℕ) (l r : List ℕ) (g : ℕ) : Type 0 where
  pub inside : g ≤ length sets
  pub done : (h : ℕ) → h < g → GroupMargin wt sets numbers k column r d h
  pub others : (e : ℕ) → (e % 32 ≡ d → ⊥) → get_or r e 0 ≡ get_or l e 0

module _ (wt : Weights) (sets numbers : List ℕ) (k column d : ℕ) (l : List ℕ) where
  pub groups_start : GroupsTo wt sets numbers k column d l l 0
  groups_start = record { inside = omega arith; done = λ h q. absurd (not-suc-le-zero q); others = λ e q. refl }

  pub groups_turn : {r t : List ℕ} {g a b x : ℕ} → GroupsTo wt sets numbers k column d l r g → g < length sets → d < 31
      → a ≡ low numbers k g → b ≡ high numbers k g → x ≡ members_in sets (has column) g → MarginPut r t (64 * g + d) (bounds_cost wt a b) x
      → GroupsTo wt sets numbers k column d l t (g + 1)
  groups_turn {r} {t} {g} z i m ea eb ex p = record {
    inside = omega arith;
    done = below_more (GroupMargin wt sets numbers k column t d) g there (rw (ea, eb, ex) at p.margin);
    others = λ e n. p.others e (λ q. n (omega arith)) (λ q. n (omega arith)) ∙ z.others e n;
  }
    where
      there : (h : ℕ) → h < g → GroupMargin wt sets numbers k column t d h
      there h s =
          margin_same (p.others (64 * h + d) (λ e. omega arith) (λ e. omega arith)) (p.others (64 * h + d + 32) (λ e. omega arith) (λ e. omega arith)) (z.done h s)

  pub groups_end : {r : List ℕ} {g : ℕ} → GroupsTo wt sets numbers k column d l r g → length sets ≤ g → GroupsPut wt sets numbers k column d l r
  groups_end z h = record { groups = λ g q. z.done g (omega arith); others = z.others }

-- ---- a day

pub day_put : (wt : Weights) (sets numbers : List ℕ) (k column d : ℕ) {l m r f : List ℕ} {wt' : Weights} {n x : ℕ} {t : Duty} → length sets ≤ 16 → d < 31
    → GroupsPut wt sets numbers k column d l m → wt' ≡ as_low wt → n ≡ need numbers k → x ≡ count_to 64 (has column)
    → MarginPut m r (1024 + d) (bounds_cost wt' n 0) x → length r ≡ 1152
    → DutyIs t (duty_short wt sets numbers k (has column)) 81600 (duty_over wt sets numbers k (has column)) 104000
    → f ≡ set r (1088 + d) (t.short + t.over) → DayPut wt sets numbers k column d l f
day_put wt sets numbers k column d {l} {m} {r} {f} {t = t} few h g ew en ex p long c z = record {
  day = record {
    groups = λ i q. margin_same
        (other (64 * i + d) (λ e. omega arith) ∙ p.others (64 * i + d) (λ e. omega arith) (λ e. omega arith))
        (other (64 * i + d + 32) (λ e. omega arith) ∙ p.others (64 * i + d + 32) (λ e. omega arith) (λ e. omega arith))
        (g.groups i q);
    everyone = margin_same (other (1024 + d) (λ e. omega arith)) (other (1024 + d + 32) (λ e. omega arith)) (rw (ew, en, ex) at p.margin);
    standing = rw (z, get_or-set_same r (1088 + d) v 0 (omega arith)) (record {
      is = omega (arith, cost_both wt sets numbers k (has column), c.short_is.is, c.over_is.is);
      most = omega (arith, c.short_is.most, c.over_is.most);
    });
  };
  others = λ e n. other e (λ q. n (omega arith)) ∙ p.others e (λ q. n (omega arith)) (λ q. n (omega arith)) ∙ g.others e n;
}
  where
    v : ℕ
    v = t.short + t.over

    other : (e : ℕ) → (e ≡ 1088 + d → ⊥) → get_or f e 0 ≡ get_or r e 0
    other e n = rw z (get_or-set_other r (1088 + d) e v 0 n)

-- ---- the month

-- the first d days are put
pub record DaysTo (w : List ℕ) (wt : Weights) (k : ℕ) (cols part : List ℕ) (d : ℕ) : Type 0 where
  pub inside : d ≤ days w
  pub done : (e : ℕ) → e < d → DayMargins wt (member_sets w) (needs w e) k (get_or cols e 0) part e

module _ (w : List ℕ) (wt : Weights) (k : ℕ) (cols : List ℕ) where
  pub days_start : {part : List ℕ} → DaysTo w wt k cols part 0
  days_start = record { inside = omega arith; done = λ e q. absurd (not-suc-le-zero q) }

  pub days_turn : {sets numbers l r : List ℕ} {d : ℕ} → DaysTo w wt k cols l d → d < days w → days w ≤ 31 → sets ≡ member_sets w → numbers ≡ needs w d
      → DayPut wt sets numbers k (get_or cols d 0) d l r → DaysTo w wt k cols r (d + 1)
  days_turn {sets} {numbers} {l} {r} {d} z h m es en p = record {
    inside = omega arith;
    done = below_more (λ e. DayMargins wt (member_sets w) (needs w e) k (get_or cols e 0) r e) d there (rw (es, en) at p.day);
  }
    where
      there : (e : ℕ) → e < d → DayMargins wt (member_sets w) (needs w e) k (get_or cols e 0) r e
      there e s =
          let x = z.done e s in
          record {
            groups = λ g q. margin_same (p.others (64 * g + e) (λ f. omega arith)) (p.others (64 * g + e + 32) (λ f. omega arith)) (x.groups g q);
            everyone = margin_same (p.others (1024 + e) (λ f. omega arith)) (p.others (1024 + e + 32) (λ f. omega arith)) x.everyone;
            standing = rw (p.others (1088 + e) (λ f. omega arith)) x.standing;
          }

  pub days_end : {part : List ℕ} {d n : ℕ} → DaysTo w wt k cols part d → n ≤ d → n ≡ days w → MarginsOf w wt k cols part
  days_end z h q = record { each = λ e s. z.done e (omega arith) }

-- ---- in the search that was told

margins_by : (w : List ℕ) (k : ℕ) (cols : List ℕ) {part : List ℕ} {x y : Weights} → x ≡ y → MarginsOf w x k cols part → MarginsOf w y k cols part
margins_by w k cols {part} e h = subst (λ (wt : Weights). MarginsOf w wt k cols part) e h

module _ (which : Search) (w night day : List ℕ) {b : List ℕ} {x : Weights} where
  pub by_night : {a : List ℕ} {y : Weights} → which ≡ Nights → x ≡ weights_of w 0 → MarginsOf w x 0 night a → y ≡ no_high (weights_of w 1) → MarginsOf w y 1 day b
      → SearchMargins which w night day a b
  by_night {a} e p h q k = subst (λ (s : Search). SearchMargins s w night day a b) (sym e) (record { night_margins = margins_by w 0 night p h; day_margins = margins_by w 1 day q k })

  pub by_day : (a : List ℕ) → which ≡ Days → x ≡ weights_of w 1 → MarginsOf w x 1 day b → SearchMargins which w night day a b
  by_day a e p h = subst (λ (s : Search). SearchMargins s w night day a b) (sym e) (margins_by w 1 day p h)
