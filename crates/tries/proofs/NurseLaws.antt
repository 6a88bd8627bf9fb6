-- A nurse's list by night or by day: what the loops over it ask and find, and that nothing is missed where no trial goes before what is held.
use Rattle.std.specs.Prelude.{ℕ, suc, ◌+◌, ◌*◌, ◌^◌, ◌≤◌, ◌<◌, ◌≡◌, Bool, true, false, ◌&&◌, List, map, get_or}
use Rattle.std.proofs.Common.{sym, ap, ◌∙◌, subst, arith}
use Rattle.std.proofs.Math.Path.{fun_ext}
use Rattle.numbers.specs.Digits.{number_of}
use Rattle.numbers.specs.Patterns.{pattern, unpaired}
use Rattle.numbers.proofs.DigitLaws.{number_has}
use Rattle.numbers.proofs.MemberLaws.{each_map}
use Rattle.fields.specs.Fields.{days, pair_count}
use Rattle.rows.specs.Pairs.{pair_numbers, in_pair}
use Rattle.nights.specs.Own.{own_pattern, with_pairs}
use Rattle.nights.proofs.OwnLaws.{pair_number_lt, with_pairs_each}
use Rattle.history.specs.declared.Search.{Search}
use Rattle.history.specs.declared.Search.TheVariants.{Nights, Days}
use Rattle.tables.specs.CodeTables.{trial_of, trial_without}
use Rattle.trials.specs.CodeTrials.{start_set, NightTrials, DayTrials, CostTrials}
use Rattle.best.specs.CodeBest.{Best, over_list, improves}
use Rattle.best.proofs.BestLaws.{improves_less, over_none, over_filter}
use Rattle.tries.specs.declared.lists.Tried.{Tried}
use Rattle.tries.specs.CodeTries.{allowed_by, Bars, NightTable, offered, tried_in, ListNeeds}

module _ {which : Search} {x : Tried} {c t : List ℕ} (n : ListNeeds which x c t) where
  abbrev w : List ℕ
  w = x.nurse.ward.numbers.now

  abbrev i : ℕ
  i = x.nurse.index

  -- her trials by the table
  pub night_table : (cost : ℕ → ℕ) → CostTrials which w x.before c cost → which ≡ Nights → NightTable w x.before c t cost
  night_table cost y e = record { table = n.table; trials = subst (λ (s : Search). CostTrials s w x.before c cost) e y }

  -- what they found
  pub night_found : (may : ℕ → Bool) (cost : ℕ → ℕ) (held : Best) {r : Best} → which ≡ Nights → r ≡ over_list (λ p. own_pattern w i p && may p) cost i held (with_pairs w (offered x.list))
      → r ≡ over_list may cost i held (tried_in which w i (offered x.list))
  night_found may cost held e f =
      f ∙ sym (over_filter (own_pattern w i) may cost i held (with_pairs w (offered x.list))) ∙ ap (λ (s : Search). over_list may cost i held (tried_in s w i (offered x.list))) (sym e)

-- she may take what is not barred
pub by_bars : (may : ℕ → Bool) (bars : List ℕ) (cost : ℕ → ℕ) (i : ℕ) (held : Best) (list : List ℕ) {r : Best} → Bars may bars → r ≡ over_list (allowed_by bars) cost i held list → r ≡ over_list may cost i held list
by_bars may bars cost i held list b e = e ∙ ap (λ (f : ℕ → Bool). over_list f cost i held list) (sym (fun_ext b))

-- ---- no trial goes before what is held

module _ (w c : List ℕ) (may : ℕ → Bool) (cost : ℕ → ℕ) (others i : ℕ) (held : Best) (list : List ℕ) (least : ℕ) {s : Bool}
    (f : s ≡ improves held (least + 10000000 * others)) (g : s ≡ false) where
  no_better : (x : ℕ) → least ≤ cost x → improves held (cost x + 10000000 * others) ≡ false
  no_better x h = improves_less held (omega (arith, h)) (sym f ∙ g)

  floor_night : (before : ℕ) → pair_count w < 2 ^ 32 → NightTrials w before c cost → ((x off : ℕ) → least ≤ trial_without c (days w) x off)
      → held ≡ over_list may (λ x. cost x + 10000000 * others) i held (tried_in Nights w i list)
  floor_night before few y h =
      sym (over_filter (own_pattern w i) may (λ x. cost x + 10000000 * others) i held (with_pairs w list)
      ∙ over_none (λ x. own_pattern w i x && may x) (λ x. cost x + 10000000 * others) i held (with_pairs w list)
      (with_pairs_each (λ x. (own_pattern w i x && may x) ≡ true → improves held (cost x + 10000000 * others) ≡ false) w list
      (λ j l k q z. no_better (pattern (get_or list j 0) (get_or (pair_numbers w) k 0)) (below (get_or list j 0) (get_or (pair_numbers w) k 0) (pair_number_lt w few k q)))))
    where
      below : (p k : ℕ) → k < 2 ^ 32 → least ≤ cost (pattern p k)
      below p k z =
          let off = number_of (λ d. in_pair w k (suc d)) (days w) in
          subst (λ (x : ℕ). least ≤ x) (y.paired p k off z (λ d l. number_has (λ j. in_pair w k (suc j)) (days w) d l)) (h (start_set before p) off)

  floor_day : DayTrials w c cost → ((x : ℕ) → least ≤ trial_of c (days w) x) → held ≡ over_list may (λ x. cost x + 10000000 * others) i held (tried_in Days w i list)
  floor_day y h =
      sym (over_none may (λ x. cost x + 10000000 * others) i held (map unpaired list)
      (each_map (λ x. may x ≡ true → improves held (cost x + 10000000 * others) ≡ false) unpaired list
      (λ k l z. no_better (unpaired (get_or list k 0)) (subst (λ (x : ℕ). least ≤ x) (y.worked (get_or list k 0)) (h (start_set 0 (get_or list k 0)))))))

  pub floor_found : (which : Search) (before : ℕ) {n : ℕ} → n ≡ days w → pair_count w < 2 ^ 32 → CostTrials which w before c cost → ((x : ℕ) → least ≤ trial_of c n x)
      → ((x off : ℕ) → least ≤ trial_without c n x off) → held ≡ over_list may (λ x. cost x + 10000000 * others) i held (tried_in which w i list)
  floor_found Nights before e few y h k = floor_night before few y (subst (λ (m : ℕ). (x off : ℕ) → least ≤ trial_without c m x off) e k)
  floor_found Days before e few y h k = floor_day y (subst (λ (m : ℕ). (x : ℕ) → least ≤ trial_of c m x) e h)
