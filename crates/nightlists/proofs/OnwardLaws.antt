-- Laws of the days that the walk goes on to: on the days below `new_days` a new run begins, one day may lengthen the first run,
-- and no other day has a pattern.
use Rattle.std.specs.Prelude.{◌≡◌, refl, Bool, true, false, cond, List, [], ◌++◌, ◌⊎◌, ℕ, zero, suc, ◌+◌, ◌-◌, ◌^◌, ◌≤◌, ◌<◌, min, leb, ltb, eqb}
use Rattle.std.proofs.Common.{sym, ap, ap₂, subst, ◌∙◌, append-nil, inl, inr, add-zero, arith, leb-false, ltb-true, ltb-false, eqb-true, eq-eqb, ne_eqb, lt-ltb, le-ltb, true≢false}
use Rattle.std.proofs.lemmas.Bool.{eqb-false, lt-leb}
use Rattle.std.proofs.lemmas.Option.{same_Some, none-some}
use Rattle.std.specs.declared.option.Option.{Option}
use Rattle.std.specs.declared.option.Option.TheVariants.{Some, None}
use Rattle.fields.specs.declared.rules.Rules.{Rules}
use Rattle.fields.specs.Rules.{gap}
use Rattle.nightlists.specs.declared.State.{State}
use Rattle.nightlists.specs.CodeWalk.{closed, start_at, onward, listed, least_gap, lost, apart_by, new_days, new_run, lengthened, OneStart}
use Rattle.nightlists.proofs.WalkLaws.{cond_case, More, listed_more, one_more}

-- what a case by case choice of the state gives, one case after another
none_by : (f : State → List ℕ) (b : Bool) (N M : Option State) → (b ≡ true → onward N f ≡ []) → (b ≡ false → onward M f ≡ []) → onward (cond b N M) f ≡ []
none_by f b N M = cond_case (λ (K : Option State). onward K f ≡ []) b N M

some_by : {N : Option State} {t : State} {A : Type 0} (b : Bool) → (b ≡ false → N ≡ Some t → A) → cond b None N ≡ Some t → A
some_by {N} {t} {A} b = cond_case (λ (K : Option State). K ≡ Some t → A) b None N (λ u e. absurd (none-some _ e))

-- ---- a run whose gap cannot be wide enough

least_here : (r : Rules) (run : ℕ) → least_gap r run ≤ gap r run
unfolding least_gap
least_here r run =
    cond_case (λ (x : ℕ). x ≤ gap r run) (leb run 1) _ _
    (λ u. rw u (cond_case (λ (x : ℕ). x ≤ r.g1) (leb r.longest 1) _ _ (λ v. omega arith) (λ v. omega arith)))
    (λ u. rw u (cond_case (λ (x : ℕ). x ≤ cond (eqb run 2) r.g2 r.g3) (eqb run 2) _ _
    (λ v. rw v (cond_case (λ (x : ℕ). x ≤ r.g2) (leb r.longest 2) _ _ (λ w. omega arith) (λ w. omega arith)))
    (λ v. rw v (omega arith))))

least_one_more : (r : Rules) (run : ℕ) → run < r.longest → least_gap r run ≤ least_gap r (run + 1)
unfolding least_gap
least_one_more r run h = grind arith

lost_parts : (r : Rules) (run dist : ℕ) → lost r run dist ≡ true → (0 < dist) × (dist < 2 + least_gap r run)
unfolding lost
lost_parts r run dist h = go (ltb 0 dist) refl (ltb dist (2 + least_gap r run)) refl
  where
    go : (a : Bool) → ltb 0 dist ≡ a → (b : Bool) → ltb dist (2 + least_gap r run) ≡ b → (0 < dist) × (dist < 2 + least_gap r run)
    go true p true q = (ltb-true _ _ p, ltb-true _ _ q)
    go true p false q = absurd (true≢false (sym h ∙ rw (p, q)))
    go false p b q = absurd (true≢false (sym h ∙ rw p))

lost_by : (r : Rules) (run dist : ℕ) → 0 < dist → dist < 2 + least_gap r run → lost r run dist ≡ true
unfolding lost
lost_by r run dist p q = rw (lt-ltb 0 dist p, lt-ltb dist (2 + least_gap r run) q)

lost_open : (r : Rules) (run dist : ℕ) → lost r run dist ≡ true → closed r run dist ≡ false
lost_open r run dist h =
    let q = lost_parts r run dist h in
    rw (ne_eqb dist 0 (omega (arith, q.0)), lt-leb (2 + gap r run) dist (omega (arith, q.1, least_here r run)))

-- what a list of patterns is at states that are lost
abbrev NoneLost : Rules → (State → List ℕ) → Type 0
NoneLost r f = (t : State) → 0 < t.first → lost r t.run t.dist ≡ true → f t ≡ []

lost_next : (r : Rules) (day : ℕ) (s : State) (f : State → List ℕ) → 0 < day → 0 < s.first → lost r s.run s.dist ≡ true → NoneLost r f → onward (start_at r day s) f ≡ []
lost_next r day s f p b l h =
    none_by f (leb r.most s.count) _ _ (λ t. refl)
    (λ t. none_by f (eqb s.first 0) _ _ (λ u. absurd (omega (arith, eqb-true)))
    (λ u. none_by f (eqb s.first (day + 2)) _ _
    (λ v. none_by f (leb r.longest s.run) _ _ (λ w. refl)
    (λ w. let q = lost_parts r s.run s.dist l in
    h _ p (lost_by r (s.run + 1) s.dist q.0 (omega (arith, q.1, least_one_more r s.run (leb-false _ _ w))))))
    (λ v. none_by f (ltb s.first (day + 3)) _ _ (λ w. refl)
    (λ w. none_by f (closed r s.run s.dist) _ _ (λ x. absurd (true≢false (sym x ∙ lost_open r s.run s.dist l)))
    (λ x. refl)))))

lost_none : (r : Rules) (d a : ℕ) → NoneLost r (listed r d a)
unfolding listed
lost_none r zero a s p l = rw (lost_open r s.run s.dist l)
lost_none r (suc d) a s p l = ap₂ ◌++◌ (lost_none r d a s p l) (lost_next r (suc d) s (λ t. listed r d (a + 2 ^ d) t) (omega arith) p l (λ t. lost_none r d (a + 2 ^ d) t))

-- ---- the days of new runs

-- what is known where the walk has asked for them
pub record Days (r : Rules) (done : Bool) (apart left : ℕ) (s : State) (days : ℕ) : Type 0 where
  pub done_is : done ≡ closed r s.run s.dist
  pub apart_is : apart ≡ apart_by r
  pub few : s.count < r.most
  pub is : days ≡ new_days done apart s left

pub known : {r : Rules} {done : Bool} {apart left : ℕ} {s : State} {days : ℕ} → done ≡ closed r s.run s.dist → apart ≡ apart_by r → s.count < r.most → days ≡ new_days done apart s left → Days r done apart left s days
known d a f i = record { done_is = d; apart_is = a; few = f; is = i }

apart_least : (r : Rules) → (3 ≤ apart_by r) × (2 + least_gap r 1 ≤ apart_by r) × (((3 < apart_by r) → apart_by r ≡ 2 + least_gap r 1))
unfolding apart_by
apart_least r = (omega arith, omega arith, λ h. omega arith)

pub apart_three : (r : Rules) → 3 ≤ apart_by r
apart_three r = (apart_least r).0

-- a day below them
abbrev New : Bool → ℕ → ℕ → State → ℕ → Type 0
New done apart left s day = (s.first ≡ 0) ⊎ ((0 < s.first) × (done ≡ true) × (day + apart < s.first))

new_day : (done : Bool) (apart left : ℕ) (s : State) (day : ℕ) → day < new_days done apart s left → New done apart left s day
unfolding new_days
new_day done apart left s day =
    cond_case (λ (x : ℕ). day < x → New done apart left s day) (eqb s.first 0) _ _
    (λ u l. inl (eqb-true _ _ u))
    (λ u. go done)
  where
    go : (v : Bool) → day < cond v (min left (s.first - apart)) 0 → New v apart left s day
    go true l = inr (omega arith, refl, omega arith)
    go false l = absurd (omega arith)

-- a day past them
past_day : (done : Bool) (apart left : ℕ) (s : State) (day : ℕ) → new_days done apart s left ≤ day → day < left → (0 < s.first) × (done ≡ true → s.first ≤ day + apart)
unfolding new_days
past_day done apart left s day =
    cond_case (λ (x : ℕ). x ≤ day → day < left → (0 < s.first) × (done ≡ true → s.first ≤ day + apart)) (eqb s.first 0) _ _
    (λ u m l. absurd (omega arith))
    (λ u m l. (omega (arith, eqb-false _ _ u), λ y. omega (arith, rw y at m)))

new_most : (done : Bool) (apart left : ℕ) (s : State) → new_days done apart s left ≤ left
unfolding new_days
new_most done apart left s =
    cond_case (λ (x : ℕ). x ≤ left) (eqb s.first 0) _ _ (λ u. omega arith)
    (λ u. cond_case (λ (x : ℕ). x ≤ left) done _ _ (λ v. omega arith) (λ v. omega arith))

-- where there is a start they are all below the day that lengthens its run
new_below : (done : Bool) (apart left : ℕ) (s : State) → 0 < s.first → 3 ≤ apart → new_days done apart s left ≤ s.first - 3
unfolding new_days
new_below done apart left s p q =
    cond_case (λ (x : ℕ). x ≤ s.first - 3) (eqb s.first 0) _ _ (λ u. absurd (omega (arith, eqb-true _ _ u)))
    (λ u. cond_case (λ (x : ℕ). x ≤ s.first - 3) done _ _ (λ v. omega arith) (λ v. omega arith))

-- ---- the day that lengthens the first run

pub record Long (r : Rules) (left : ℕ) (s : State) (t : State) : Type 0 where
  pub some : 1 ≤ t.first
  pub below : t.first - 1 < left
  pub day : s.first ≡ t.first - 1 + 3
  pub start : s.count < r.most → start_at r (t.first - 1 + 1) s ≡ Some t

module _ (r : Rules) (left : ℕ) (s : State) where
  long_state : State
  long_state = record { first = s.first - 2; run = s.run + 1; dist = s.dist; count = s.count + 1 }

  long_start : s.run < r.longest → 3 ≤ s.first → s.first ≤ left + 2 → Long r left s long_state
  unfolding long_state
  long_start a b c = record {
    some = omega arith;
    below = omega arith;
    day = omega arith;
    start = λ f.
        let e : s.first ≡ s.first - 2 - 1 + 1 + 2 = omega arith in
        let d : s.first - 2 - 1 + 1 ≡ s.first - 2 = omega arith in
        rw (lt-leb r.most s.count f, ne_eqb s.first 0 (omega arith), eq-eqb s.first (s.first - 2 - 1 + 1 + 2) e, lt-leb r.longest s.run a, d);
  }

  pub long_is : (t : State) → lengthened r s left ≡ Some t → Long r left s t
  unfolding lengthened long_state
  long_is t =
      some_by (leb r.longest s.run) (λ u. some_by (ltb s.first 3) (λ v. some_by (ltb (left + 2) s.first) (λ w. some_by (lost r (s.run + 1) s.dist)
      (λ x e. subst (Long r left s) (same_Some _ _ e) (long_start (leb-false _ _ u) (ltb-false _ _ v) (ltb-false _ _ w))))))

  -- on that day, where there is no such state
  long_never : (day : ℕ) (f : State → List ℕ) → s.first ≡ day + 3 → day < left → NoneLost r f → lengthened r s left ≡ None → onward (start_at r (day + 1) s) f ≡ []
  unfolding lengthened
  long_never day f e l h n =
      none_by f (leb r.most s.count) _ _ (λ t. refl)
      (λ t. none_by f (eqb s.first 0) _ _ (λ u. absurd (omega (arith, eqb-true _ _ u)))
      (λ u. rw (eq-eqb s.first (day + 1 + 2) (omega arith))
      (none_by f (leb r.longest s.run) _ _ (λ w. refl)
      (λ w. h _ (omega arith) (go w (lost r (s.run + 1) s.dist) refl)))))
    where
      go : leb r.longest s.run ≡ false → (v : Bool) → lost r (s.run + 1) s.dist ≡ v → v ≡ true
      go w true x = refl
      go w false x = absurd (none-some _ (sym (rw (w, le-ltb s.first 3 (omega arith), le-ltb (left + 2) s.first (omega arith), x) at n)))

-- ---- the list, by these days

-- no pattern has a start on k days from `day` on
flat : (r : Rules) (day a : ℕ) (s : State) (k : ℕ) → ((d : ℕ) → day ≤ d → d < day + k → onward (start_at r (d + 1) s) (λ t. listed r d (a + 2 ^ d) t) ≡ []) → listed r (day + k) a s ≡ listed r day a s
flat r day a s zero h = rw (add-zero day) refl
flat r day a s (suc k) h =
    let e : day + suc k ≡ day + k + 1 = omega arith in
    rw e (listed_more r (day + k) a s ∙ rw (h (day + k) (omega arith) (omega arith)) (append-nil _ ∙ flat r day a s k (λ d p q. h d p (omega arith))))

flat_to : (r : Rules) (day left a : ℕ) (s : State) → day ≤ left → ((d : ℕ) → day ≤ d → d < left → onward (start_at r (d + 1) s) (λ t. listed r d (a + 2 ^ d) t) ≡ []) → listed r left a s ≡ listed r day a s
flat_to r day left a s l h =
    let e : day + (left - day) ≡ left = omega arith in
    ap (λ (d : ℕ). listed r d a s) (sym e) ∙ flat r day a s (left - day) (λ d p q. h d p (omega arith))

-- fewer days are then left
pub start_less : {a : ℕ} {t : State} {left b d : ℕ} {u : State} → OneStart a t left b u → (1 ≤ t.first) × (t.first ≤ d) → left < d
start_less o (some, below) = omega (arith, o.left_is)

module _ {r : Rules} {done : Bool} {apart left : ℕ} {s : State} {days : ℕ} (k : Days r done apart left s days) where
  pub days_most : days ≤ left
  days_most = omega (arith, k.is, new_most done apart left s)

  pub new_start : {day : ℕ} {t : State} → day < days → t ≡ new_run s day → start_at r (day + 1) s ≡ Some t
  new_start {day} {t} l e = rw (lt-leb r.most s.count k.few) (go (new_day done apart left s day (omega (arith, k.is))) ∙ ap Some (sym e))
    where
      go : New done apart left s day
          → cond (eqb s.first 0) (Some (record { first = day + 1; run = 1; dist = 0; count = s.count + 1 }))
          (cond (eqb s.first (day + 1 + 2))
          (cond (leb r.longest s.run) None (Some (record { first = day + 1; run = s.run + 1; dist = s.dist; count = s.count + 1 })))
          (cond (ltb s.first (day + 1 + 3)) None
          (cond (closed r s.run s.dist) (Some (record { first = day + 1; run = 1; dist = s.first - (day + 1); count = s.count + 1 })) None)))
          ≡ Some (new_run s day)
      go (inl z) =
          let d : 0 ≡ s.first - (day + 1) = omega arith in
          rw (eq-eqb s.first 0 z) (ap (λ (x : ℕ). Some (record { first = day + 1; run = 1; dist = x; count = s.count + 1 })) d)
      go (inr (p, y, q)) =
          let c : closed r s.run s.dist ≡ true = sym k.done_is ∙ y in
          let far : day + 4 ≤ s.first = omega (arith, k.apart_is, (apart_least r).0) in
          rw (ne_eqb s.first 0 (omega arith), ne_eqb s.first (day + 1 + 2) (omega arith), le-ltb s.first (day + 1 + 3) (omega arith), c)

  -- these days are far from the start after them
  pub new_far : {day : ℕ} → day < days → 0 < s.first → day + 1 < s.first
  new_far {day} l p = go (new_day done apart left s day (omega (arith, k.is)))
    where
      go : New done apart left s day → day + 1 < s.first
      go (inl z) = absurd (omega arith)
      go (inr (q, y, f)) = omega (arith, k.apart_is, (apart_least r).0)

  -- past the days of new runs, but for the day that lengthens the first run
  past_none : (day : ℕ) (f : State → List ℕ) → days ≤ day → day < left → (s.first ≡ day + 3 → ⊥) → NoneLost r f → onward (start_at r (day + 1) s) f ≡ []
  past_none day f m l o h =
      let q = past_day done apart left s day (omega (arith, k.is)) l in
      none_by f (leb r.most s.count) _ _ (λ t. refl)
      (λ t. none_by f (eqb s.first 0) _ _ (λ u. absurd (omega (arith, eqb-true _ _ u, q.0)))
      (λ u. none_by f (eqb s.first (day + 1 + 2)) _ _ (λ v. absurd (o (omega (arith, eqb-true _ _ v))))
      (λ v. none_by f (ltb s.first (day + 1 + 3)) _ _ (λ w. refl)
      (λ w. none_by f (closed r s.run s.dist) _ _
      (λ x.
      let near : s.first ≤ day + apart = q.1 (k.done_is ∙ x) in
      let g = apart_least r in
      let wide : day + 4 ≤ s.first = omega (arith, ltb-false _ _ w) in
      let is : apart_by r ≡ 2 + least_gap r 1 = g.2 (omega (arith, k.apart_is)) in
      h _ (omega arith) (lost_by r 1 (s.first - (day + 1)) (omega arith) (omega (arith, k.apart_is))))
      (λ x. refl)))))

  -- the loop over these days is done
  module _ {day : ℕ} (l : day ≤ days) (m : days ≤ day) (a : ℕ) where
    pub never_all : {N : Option State} → N ≡ lengthened r s left → N ≡ None → listed r left a s ≡ listed r day a s
    never_all e n = flat_to r day left a s (omega (arith, days_most)) (λ d p q. go d p q (eqb s.first (d + 3)) refl)
      where
        go : (d : ℕ) → day ≤ d → d < left → (v : Bool) → eqb s.first (d + 3) ≡ v → onward (start_at r (d + 1) s) (λ t. listed r d (a + 2 ^ d) t) ≡ []
        go d p q true u = long_never r left s d (λ t. listed r d (a + 2 ^ d) t) (eqb-true _ _ u) q (λ t. lost_none r d (a + 2 ^ d) t) (sym e ∙ n)
        go d p q false u = past_none d (λ t. listed r d (a + 2 ^ d) t) (omega arith) q (eqb-false _ _ u) (λ t. lost_none r d (a + 2 ^ d) t)

    pub to_all : {N : Option State} {t : State} {last b : ℕ} {u : State} → N ≡ lengthened r s left → N ≡ Some t → OneStart a t last b u → More r day a s last b u left
    to_all {t = t} {last} {b} {u} e n o =
        let long : Long r left s t = long_is r left s t (sym e ∙ n) in
        let begin : start_at r (last + 1) s ≡ Some t = rw o.left_is (long.start k.few) in
        let low : day ≤ last = omega (arith, k.is, o.left_is, long.day, new_below done apart left s (omega (arith, long.day)) (omega (arith, k.apart_is, (apart_least r).0))) in
        let first : t.first ≡ last + 1 = omega (arith, o.left_is, long.some) in
        record {
          whole = flat_to r (last + 1) left a s (omega (arith, o.left_is, long.below)) (λ d p z. past_none d (λ t. listed r d (a + 2 ^ d) t) (omega arith) z (λ u. omega (arith, o.left_is, long.day)) (λ t. lost_none r d (a + 2 ^ d) t))
              ∙ (let one : More r last a s last b u (last + 1) = one_more r o first begin in one.whole)
              ∙ ap (λ (L : List ℕ). L ++ listed r last b u)
              (flat_to r day last a s low (λ d p z. past_none d (λ t. listed r d (a + 2 ^ d) t) (omega arith) (omega (arith, o.left_is, long.below)) (λ u. omega (arith, o.left_is, long.day)) (λ t. lost_none r d (a + 2 ^ d) t)));
        }

  -- a new run on one more day
  pub new_more : {day a : ℕ} {t : State} {last b : ℕ} {u : State} → day < days → t ≡ new_run s day → OneStart a t last b u → More r day a s last b u (day + 1)
  new_more {day} {t = t} l e o = one_more r o (ap (λ (s : State). s.first) e) (new_start l e)

  -- that is one of those that were undecided
  pub new_first : {day : ℕ} {t : State} → day < days → t ≡ new_run s day → (1 ≤ t.first) × (t.first ≤ left)
  new_first l e = (omega (arith, ap (λ (s : State). s.first) e), omega (arith, ap (λ (s : State). s.first) e, days_most))

  -- and so is the day that lengthens the first run
  pub long_first : {N : Option State} {t : State} → N ≡ lengthened r s left → N ≡ Some t → (1 ≤ t.first) × (t.first ≤ left)
  long_first {N} {t} e n =
      let long : Long r left s t = long_is r left s t (sym e ∙ n) in
      (long.some, omega (arith, long.below, long.some))
