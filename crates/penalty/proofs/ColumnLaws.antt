-- Columns: what a nurse put in changes, how they come to show all nurses, and that counts over their 64 places are counts over the nurses.
use Rattle.std.specs.Prelude.{◌≡◌, refl, Bool, true, false, cond, ◌&&◌, List, ℕ, zero, suc, ◌+◌, ◌-◌, ◌≤◌, ◌<◌, eqb, length, get_or, set as set_at, replicate, ◌++◌, take, drop}
use Rattle.std.proofs.Common.{sym, ap, ap₂, ◌∙◌, ⊎_elim, add-sub_of_le, not-suc-le-zero, eq-or-lt_of_le, le_of_suc-le-suc, add-one, arith, length-set, get_or-set_same, get_or-set_other, ne_eqb, eq-eqb, eqb-true, get_or-take, length-take-le}
use Rattle.std.proofs.lemmas.Bool.{eqb-false}
use Rattle.std.proofs.lemmas.List.{get_or_append_left}
use Rattle.std.proofs.Math.Decide.{dec_lt}
use Rattle.std.proofs.Math.ListN.{get_or-eq_default}
use Rattle.std.proofs.Math.Option.{some}
use Rattle.numbers.specs.Sum.{count_to, one_if}
use Rattle.numbers.specs.Digits.{has, put}
use Rattle.numbers.proofs.SumLaws.{sum_ext, sum_cut}
use Rattle.numbers.proofs.DigitLaws.{bit_of_zero, put_here, put_there}
use Rattle.numbers.specs.Patterns.{days_of}
use Rattle.fields.specs.Fields.{nurses, days}
use Rattle.rows.specs.Pairs.{free_on}
use Rattle.penalty.specs.declared.columns.Columns.{Columns}
use Rattle.history.specs.Slot.{Slot, exchanged}
use Rattle.penalty.specs.Penalty.{starts_in, worked_in, at_night, available_in, at_day}
use Rattle.penalty.specs.CodeColumns.{Same, ShownNight, ShownDay, Empty, PutAt, NursePut, FreeUnder}

-- ---- who is on, below m

module _ (m : ℕ) (f on : ℕ → Bool) (s : Same m f on) where
  -- counts over more places than there are nurses are counts over the nurses
  pub count_same : (k : ℕ) → m ≤ k → (p : ℕ → Bool) → count_to k (λ i. f i && p i) ≡ count_to m (λ i. on i && p i)
  count_same k h p =
      ap (λ (n : ℕ). count_to n (λ i. f i && p i)) (sym (add-sub_of_le h))
      ∙ sum_cut m (k - m) (λ i. one_if (f i && p i)) (λ i l. ap (λ (b : Bool). one_if (b && p i)) (s.above i l))
      ∙ sum_ext m (λ i. one_if (f i && p i)) (λ i. one_if (on i && p i)) (λ i l. ap (λ (b : Bool). one_if (b && p i)) (s.bits i l))

  pub all_same : (k : ℕ) → m ≤ k → count_to k f ≡ count_to m on
  all_same k h =
      ap (λ (n : ℕ). count_to n f) (sym (add-sub_of_le h))
      ∙ sum_cut m (k - m) (λ i. one_if (f i)) (λ i l. ap one_if (s.above i l))
      ∙ sum_ext m (λ i. one_if (f i)) (λ i. one_if (on i)) (λ i l. ap one_if (s.bits i l))

  -- one nurse's bit changed
  pub put_same : (i : ℕ) (b : Bool) → i < m → Same m (put f i b) (put on i b)
  put_same i b h = record {
    above = λ j l. put_there f i b j (λ q. omega arith) ∙ s.above j l;
    bits = λ j l. ap (cond (eqb j i) b) (s.bits j l);
  }

  -- said otherwise
  pub same_as : (on' : ℕ → Bool) → ((i : ℕ) → i < m → on i ≡ on' i) → Same m f on'
  same_as on' e = record { above = s.above; bits = λ i l. s.bits i l ∙ e i l }

-- nobody yet
pub same_none : (x : ℕ) (on : ℕ → Bool) → x ≡ 0 → Same 0 (has x) on
same_none x on e = record { above = λ i l. rw (e, bit_of_zero i); bits = λ i l. absurd (not-suc-le-zero l) }

-- nurse i too
pub same_more : (i : ℕ) (f g on : ℕ → Bool) → Same i f on → g ≡ put f i (on i) → Same (i + 1) g on
same_more i f g on s e = record {
  above = λ j l. ap (λ (h : ℕ → Bool). h j) e ∙ put_there f i (on i) j (λ q. omega arith) ∙ s.above j (omega arith);
  bits = λ j l. ap (λ (h : ℕ → Bool). h j) e ∙ ⊎_elim
      (λ q. put_here f i (on i) j q ∙ ap on (sym q))
      (λ q. put_there f i (on i) j (λ r. omega arith) ∙ s.bits j q)
      (eq-or-lt_of_le (le_of_suc-le-suc (rw add-one at l)));
}

-- nurse i changed, the others as they were
same_put : (m i : ℕ) (f g on on' : ℕ → Bool) → Same m f on → g ≡ put f i (on' i) → i < m → ((j : ℕ) → (j ≡ i → ⊥) → on j ≡ on' j) → Same m g on'
same_put m i f g on on' s e l o = record {
  above = λ j h. ap (λ (x : ℕ → Bool). x j) e ∙ put_there f i (on' i) j (λ q. omega arith) ∙ s.above j h;
  bits = λ j h. ap (λ (x : ℕ → Bool). x j) e ∙ go j h (eqb j i) refl;
}
  where
    go : (j : ℕ) → j < m → (t : Bool) → eqb j i ≡ t → cond t (on' i) (f j) ≡ on' j
    go j h true q = ap on' (sym (eqb-true j i q))
    go j h false q = s.bits j h ∙ o j (eqb-false j i q)

-- ---- putting a nurse in, day by day

-- the first d columns of l are done, the others are as in l₀
pub record PutUpTo (l₀ l : List ℕ) (i set d : ℕ) : Type 0 where
  pub long : length l ≡ length l₀
  pub done : (e : ℕ) → e < d → PutAt l₀ l i set e
  pub left : (e : ℕ) → d ≤ e → get_or l e 0 ≡ get_or l₀ e 0

pub put_start : (l : List ℕ) (i set : ℕ) → PutUpTo l l i set 0
put_start l i set = record { long = refl; done = λ e q. absurd (not-suc-le-zero q); left = λ e q. refl }

pub put_turn : (l₀ l : List ℕ) (i set d a : ℕ) {x : Bool} → PutUpTo l₀ l i set d → d < length l₀ → x ≡ has set d → has a ≡ put (has (get_or l d 0)) i x
    → PutUpTo l₀ (set_at l d a) i set (d + 1)
put_turn l₀ l i set d a {x} p h ex ea = record {
  long = length-set l d a ∙ p.long;
  done = λ e q. ⊎_elim (λ s. here e s) (λ s. there e s) (eq-or-lt_of_le (le_of_suc-le-suc (rw add-one at q)));
  left = λ e q. get_or-set_other l d e a 0 (λ s. omega arith) ∙ p.left e (omega arith);
}
  where
    here : (e : ℕ) → e ≡ d → PutAt l₀ (set_at l d a) i set e
    here e s = rw s (
        ap has (get_or-set_same l d a 0 (omega (arith, p.long))) ∙ ea
        ∙ ap₂ (λ (y : ℕ) (b : Bool). put (has y) i b) (p.left d (omega arith)) ex)

    there : (e : ℕ) → e < d → PutAt l₀ (set_at l d a) i set e
    there e s = ap has (get_or-set_other l d e a 0 (λ t. omega arith)) ∙ p.done e s

-- the first n columns are lent, and stand before the others again
pub put_end : (l₀ l : List ℕ) (i set n d : ℕ) → PutUpTo (take n l₀) l i set d → n ≤ length l₀ → length (take n l₀) ≤ d
    → (e : ℕ) → e < n → PutAt l₀ (l ++ drop n l₀) i set e
put_end l₀ l i set n d p h q e s =
    let long : length l ≡ n = p.long ∙ length-take-le n l₀ h in
    rw (get_or_append_left l (drop n l₀) 0 e (omega arith), sym (get_or-take n l₀ e 0 s)) (p.done e (omega (arith, length-take-le n l₀ h)))

pub zeros : (n d : ℕ) → ◌≡◌ {A = ℕ} (get_or (replicate n 0) d 0) 0
zeros zero d = refl
zeros (suc n) zero = refl
zeros (suc n) (suc d) = zeros n d

-- a list of zeros is 0 past its end too
pub zeros_all : (l : List ℕ) (n : ℕ) → length l ≡ n → ((d : ℕ) → d < n → get_or l d 0 ≡ 0) → (d : ℕ) → get_or l d 0 ≡ 0
zeros_all l n long e d = go (dec_lt d n)
  where
    go : Dec (d < n) → get_or l d 0 ≡ 0
    go (yes h) = e d h
    go (no h) = get_or-eq_default l 0 (omega arith)

-- ---- the columns of a choice of slots

module _ (w : List ℕ) (slots : ℕ → Slot) where
  pub night_none : (c : Columns) → Empty c → ShownNight w slots 0 c
  night_none c e = record {
    night_shown = λ d l. same_none _ _ (e.no_nights d);
    available_shown = λ d l. same_none _ _ (e.no_days d);
  }

  -- nurse i too, with her starts and the days on which her pattern leaves her available
  pub night_more : (i : ℕ) (c r : Columns) {starts free : ℕ} → ShownNight w slots i c → starts ≡ days_of (starts_in w i (slots i)) → FreeUnder w i (starts_in w i (slots i)) free
      → NursePut c r (days w) i starts free → ShownNight w slots (i + 1) r
  night_more i c r s e g q = record {
    night_shown = λ d l. same_more i _ _ (at_night w slots d) (s.night_shown d l) (q.night_put d l ∙ ap (λ (x : ℕ). put (has (get_or c.night d 0)) i (has x d)) e);
    available_shown = λ d l. same_more i _ _ (available_in w slots d) (s.available_shown d l) (q.day_put d l ∙ ap (put (has (get_or c.day d 0)) i) (g d l));
  }

  pub day_none : (c : Columns) → Empty c → ShownDay w slots 0 c
  day_none c e = record { day_shown = λ d l. same_none _ _ (e.no_days d) }

  pub day_more : (i : ℕ) (c r : Columns) {nights worked : ℕ} → ShownDay w slots i c → worked ≡ days_of (worked_in w i (slots i))
      → NursePut c r (days w) i nights worked → ShownDay w slots (i + 1) r
  day_more i c r s e q = record {
    day_shown = λ d l. same_more i _ _ (at_day w slots d) (s.day_shown d l) (q.day_put d l ∙ ap (λ (x : ℕ). put (has (get_or c.day d 0)) i (has x d)) e);
  }

-- ---- an exchange

pub exchanged_here : (slots : ℕ → Slot) (i p : ℕ) → exchanged slots i p i ≡ some p
exchanged_here slots i p = rw (eq-eqb i i refl)

pub exchanged_there : (slots : ℕ → Slot) (i p j : ℕ) → (j ≡ i → ⊥) → exchanged slots i p j ≡ slots j
exchanged_there slots i p j h = rw (ne_eqb j i h)

module _ (w : List ℕ) (slots : ℕ → Slot) (i p : ℕ) (h : i < nurses w) where
  -- nurse i as her new pattern says, the others as they were
  slots_after : (on : ℕ → Slot → Bool) (f : ℕ → Bool) → Same (nurses w) f (λ j. on j (slots j))
      → Same (nurses w) (put f i (on i (some p))) (λ j. on j (exchanged slots i p j))
  slots_after on f s =
      same_put (nurses w) i f (put f i (on i (some p))) (λ j. on j (slots j)) (λ j. on j (exchanged slots i p j)) s
      (ap (λ (x : Slot). put f i (on i x)) (sym (exchanged_here slots i p))) h
      (λ j q. sym (ap (on j) (exchanged_there slots i p j q)))

  pub night_after : (d : ℕ) (f : ℕ → Bool) → Same (nurses w) f (at_night w slots d) → Same (nurses w) (put f i (has (days_of p) d)) (at_night w (exchanged slots i p) d)
  night_after d = slots_after (λ j x. has (days_of (starts_in w j x)) d)

  pub available_after : (d : ℕ) (f : ℕ → Bool) → Same (nurses w) f (available_in w slots d)
      → Same (nurses w) (put f i (free_on w i p (suc d))) (available_in w (exchanged slots i p) d)
  available_after d = slots_after (λ j x. free_on w j (starts_in w j x) (suc d))

  pub day_after : (d : ℕ) (f : ℕ → Bool) → Same (nurses w) f (at_day w slots d) → Same (nurses w) (put f i (has (days_of p) d)) (at_day w (exchanged slots i p) d)
  day_after d = slots_after (λ j x. has (days_of (worked_in w j x)) d)
