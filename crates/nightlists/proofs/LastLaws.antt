-- Laws of the days on which one start more is the last: the list there needs no walk.
use Rattle.std.specs.Prelude.{◌≡◌, refl, Bool, true, false, List, [], ◌∷◌, ◌++◌, ℕ, zero, suc, ◌+◌, ◌-◌, ◌^◌, ◌≤◌, ◌<◌, leb, eqb, length}
use Rattle.std.proofs.Common.{sym, ap, ◌∙◌, append-nil, append_assoc, add-zero, add-one, arith, length-append, pow_pos, pow_mono, leb-true, leb-false, eqb-true, le-leb, lt-ltb, eq-eqb, ne_eqb}
use Rattle.std.proofs.lemmas.Bool.{eqb-false, lt-leb}
use Rattle.std.specs.declared.option.Option.{Option}
use Rattle.std.specs.declared.option.Option.TheVariants.{None}
use Rattle.numbers.proofs.HalfLaws.{pow_twice}
use Rattle.fields.specs.declared.rules.Rules.{Rules}
use Rattle.nightlists.specs.declared.State.{State}
use Rattle.nightlists.specs.CodeWalk.{closed, here, listed, apart_by, new_days, new_run, last_days, shut_days, lengthened, leaves, Ready}
use Rattle.nightlists.proofs.WalkLaws.{cond_case, here_only, here_is, more_to}
use Rattle.nightlists.proofs.OnwardLaws.{Days, known, days_most, new_start, new_far, never_all, apart_three}

pub length_leaves : (a d : ℕ) → length (leaves a d) ≡ d
unfolding leaves
length_leaves a zero = refl
length_leaves a (suc d) = simp length-append (omega (arith, length_leaves a d))

-- which of these new runs have a wide enough gap
shut_yes : (r : Rules) (s : State) (days d : ℕ) → d < shut_days r s days → closed r 1 (s.first - (d + 1)) ≡ true
unfolding shut_days
shut_yes r s days d =
    cond_case (λ (x : ℕ). d < x → closed r 1 (s.first - (d + 1)) ≡ true) (eqb s.first 0) _ _
    (λ u l. rw (eq-eqb (s.first - (d + 1)) 0 (omega (arith, eqb-true _ _ u))) refl)
    (λ u l. rw (ne_eqb (s.first - (d + 1)) 0 (omega arith), le-leb (2 + r.g1) (s.first - (d + 1)) (omega arith)) refl)

shut_no : (r : Rules) (s : State) (days d : ℕ) → shut_days r s days ≤ d → d < days → (0 < s.first → d + 1 < s.first) → closed r 1 (s.first - (d + 1)) ≡ false
unfolding shut_days
shut_no r s days d =
    cond_case (λ (x : ℕ). x ≤ d → d < days → (0 < s.first → d + 1 < s.first) → closed r 1 (s.first - (d + 1)) ≡ false) (eqb s.first 0) _ _
    (λ u m l f. absurd (omega arith))
    (λ u m l f.
    let far : d + 1 < s.first = f (omega (arith, eqb-false _ _ u)) in
    rw (ne_eqb (s.first - (d + 1)) 0 (omega arith), lt-leb (2 + r.g1) (s.first - (d + 1)) (omega arith)) refl)

shut_most : (r : Rules) (s : State) (days : ℕ) → shut_days r s days ≤ days
unfolding shut_days
shut_most r s days = cond_case (λ (x : ℕ). x ≤ days) (eqb s.first 0) _ _ (λ u. omega arith) (λ u. omega arith)

begun_most : (r : Rules) (apart : ℕ) (s : State) (days : ℕ) → last_days r apart s days ≤ days
unfolding last_days
begun_most r apart s days =
    cond_case (λ (x : ℕ). x ≤ days) (eqb r.most (s.count + 1)) _ _ (λ u. omega arith)
    (λ u. cond_case (λ (x : ℕ). x ≤ days) (leb r.longest 1) _ _ (λ v. omega arith) (λ v. omega arith))

-- the list over the days that need no walk
pub record Begun (r : Rules) (left a : ℕ) (s : State) (days begun shut : ℕ) : Type 0 where
  pub begun_days : begun ≤ days
  pub days_left : days ≤ left
  pub shut_begun : shut ≤ begun
  pub whole : listed r begun a s ≡ listed r 0 a s ++ leaves a shut

-- a pattern to which no start more may come
abbrev Only : Rules → ℕ → State → ℕ → Type 0
Only r a s d = listed r d (a + 2 ^ d) (new_run s d) ≡ listed r 0 (a + 2 ^ d) (new_run s d)

no_days : (c : Bool) (apart : ℕ) (s : State) (d : ℕ) → d + 1 ≤ apart → 0 ≡ new_days c apart (new_run s d) d
unfolding new_days
no_days c apart s d l = rw (ne_eqb (d + 1) 0 (omega arith)) (cond_case (λ (x : ℕ). 0 ≡ x) c _ _ (λ u. omega arith) (λ u. refl))

not_long : (r : Rules) (s : State) (d : ℕ) → r.longest ≤ 1 → lengthened r (new_run s d) d ≡ None
unfolding lengthened
not_long r s d l = rw (le-leb r.longest 1 l) refl

not_before : (r : Rules) (s : State) (d : ℕ) → d + 1 ≤ 2 → lengthened r (new_run s d) d ≡ None
unfolding lengthened
not_before r s d l = rw (lt-ltb (d + 1) 3 (omega arith)) (cond_case (λ (N : Option State). N ≡ None) (leb r.longest 1) _ _ (λ u. refl) (λ u. refl))

module _ (r : Rules) {apart : ℕ} (s : State) (p : apart ≡ apart_by r) (a d : ℕ) where
  only_few : d + 1 ≤ apart → lengthened r (new_run s d) d ≡ None → Only r a s d
  only_few l n = go (leb r.most (s.count + 1)) refl
    where
      go : (v : Bool) → leb r.most (s.count + 1) ≡ v → Only r a s d
      go true u = here_only r d (a + 2 ^ d) (new_run s d) (leb-true _ _ u)
      go false u =
          let c = closed r 1 (s.first - (d + 1)) in
          let t : Days r c apart d (new_run s d) 0 = known refl p (leb-false _ _ u) (no_days c apart s d l) in
          never_all t (omega arith) (omega arith) (a + 2 ^ d) refl n

module _ {r : Rules} {done : Bool} {apart left : ℕ} {s : State} {days : ℕ} (k : Days r done apart left s days) (a m : ℕ) (most : m ≤ days) (only : (d : ℕ) → d < m → Only r a s d) where
  leaf : (d : ℕ) → d < m → listed r (d + 1) a s ≡ listed r d a s ++ here (closed r 1 (s.first - (d + 1))) (a + 2 ^ d)
  leaf d l =
      more_to r d a s (new_run s d) (2 ^ d) (new_start k (omega arith) refl) refl
      ∙ ap (λ (L : List ℕ). listed r d a s ++ L) (only d l ∙ here_is r (a + 2 ^ d) (new_run s d) refl)

  shut_all : (d : ℕ) → d ≤ shut_days r s m → listed r d a s ≡ listed r 0 a s ++ leaves a d
  unfolding leaves
  shut_all zero l = sym (append-nil _)
  shut_all (suc d) l =
      let w : shut_days r s m ≤ m = shut_most r s m in
      rw (← add-one d) (leaf d (omega arith)
      ∙ rw (shut_yes r s m d (omega arith), shut_all d (omega arith)) (append_assoc (listed r 0 a s) (leaves a d) ((a + 2 ^ d) ∷ [])))

  shut_none : (j : ℕ) → shut_days r s m + j ≤ m → listed r (shut_days r s m + j) a s ≡ listed r (shut_days r s m) a s
  shut_none zero l = rw (add-zero (shut_days r s m)) refl
  shut_none (suc j) l =
      let d = shut_days r s m + j in
      let e : shut_days r s m + suc j ≡ d + 1 = omega arith in
      rw e (leaf d (omega arith)
      ∙ rw (shut_no r s m d (omega arith) (omega arith) (new_far k (omega arith))) (append-nil _ ∙ shut_none j (omega arith)))

  shut_days_lem : listed r m a s ≡ listed r 0 a s ++ leaves a (shut_days r s m)
  shut_days_lem =
      let w : shut_days r s m ≤ m = shut_most r s m in
      let e : shut_days r s m + (m - shut_days r s m) ≡ m = omega arith in
      ap (λ (d : ℕ). listed r d a s) (sym e) ∙ shut_none (m - shut_days r s m) (omega arith) ∙ shut_all (shut_days r s m) (omega arith)

module _ {r : Rules} {done : Bool} {apart left : ℕ} {s : State} {days : ℕ} (k : Days r done apart left s days) (a : ℕ) where
  last_only : (d : ℕ) → d < last_days r apart s days → Only r a s d
  unfolding last_days
  last_only d =
      cond_case (λ (x : ℕ). d < x → Only r a s d) (eqb r.most (s.count + 1)) _ _
      (λ u l. here_only r d (a + 2 ^ d) (new_run s d) (omega (arith, eqb-true _ _ u)))
      (λ u. cond_case (λ (x : ℕ). d < x → Only r a s d) (leb r.longest 1) _ _
      (λ v l. only_few r s k.apart_is a d (omega arith) (not_long r s d (leb-true _ _ v)))
      (λ v l. only_few r s k.apart_is a d (omega (arith, k.apart_is, apart_three r)) (not_before r s d (omega arith))))

  pub begun_by : {begun shut : ℕ} → begun ≡ last_days r apart s days → shut ≡ shut_days r s begun → Begun r left a s days begun shut
  begun_by {begun} b q = record {
    begun_days = omega (arith, begun_most r apart s days);
    days_left = days_most k;
    shut_begun = omega (arith, shut_most r s begun);
    whole = rw q (shut_days_lem k a begun (omega (arith, begun_most r apart s days)) (λ d l. last_only d (omega arith)));
  }

module _ {r : Rules} {left a : ℕ} {s : State} {days begun shut : ℕ} (b : Begun r left a s days begun shut) where
  pub begun_left : begun ≤ left
  begun_left = omega (arith, b.begun_days, b.days_left)

  pub begun_ready : Ready left a → a + 2 ^ shut ≤ 2 ^ 32
  begun_ready ready =
      let m : shut ≤ left = omega (arith, b.shut_begun, begun_left) in
      omega (arith, ready.fits, pow_mono {i = shut} {j = left} m)

pub leaf_fits : (a day shut : ℕ) {b : ℕ} → a + 2 ^ shut ≤ 2 ^ 32 → day < shut → b ≡ 2 ^ day → a + b < 2 ^ 32
leaf_fits a day shut f l e = omega (arith, pow_twice day, pow_pos day, pow_mono {i = suc day} {j = shut} l)
