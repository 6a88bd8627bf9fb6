-- Laws of the walk over the days: what one more start adds, what no start more leaves, and the loops over the days below.
use Rattle.std.specs.Prelude.{◌≡◌, refl, Bool, true, false, cond, List, [], ◌∷◌, ◌++◌, ℕ, zero, suc, ◌+◌, ◌-◌, ◌^◌, ◌≤◌, ◌<◌, length}
use Rattle.std.proofs.Common.{sym, ap, ◌∙◌, append-nil, append_assoc, length-append, pow_pos, pow_mono, add-zero, add-one, arith, le-leb}
use Rattle.std.specs.declared.option.Option.TheVariants.{Some}
use Rattle.numbers.proofs.HalfLaws.{pow_twice}
use Rattle.fields.specs.Sizes.{day_places}
use Rattle.fields.specs.declared.rules.Rules.{Rules}
use Rattle.nightlists.specs.declared.State.{State}
use Rattle.nightlists.specs.CodeWalk.{closed, here, start_at, onward, listed, Ready, OneStart}

-- ---- tests

pub cond_case : {A : Type 0} (P : A → Type 0) (b : Bool) (x y : A) → (b ≡ true → P x) → (b ≡ false → P y) → P (cond b x y)
cond_case P true x y f g = f refl
cond_case P false x y f g = g refl

-- ---- the pattern made so far

pub here_is : (r : Rules) (a : ℕ) (s : State) {v : Bool} → v ≡ closed r s.run s.dist → listed r 0 a s ≡ here v a
unfolding listed
here_is r a s h = rw (← h) refl

pub here_most : (r : Rules) (a : ℕ) (s : State) → length (listed r 0 a s) ≤ 1
unfolding listed
here_most r a s = go (closed r s.run s.dist)
  where
    go : (v : Bool) → length (cond v (a ∷ []) []) ≤ 1
    go true = omega arith
    go false = omega arith

-- it is all where no start more may come
pub here_only : (r : Rules) (left a : ℕ) (s : State) → r.most ≤ s.count → listed r left a s ≡ listed r 0 a s
unfolding listed
here_only r zero a s h = refl
here_only r (suc d) a s h = rw (le-leb r.most s.count h) (append-nil _ ∙ here_only r d a s h)

-- ---- one day more

-- the patterns with the days below `next` undecided are those with the days below `day` undecided, and those with a start on day
-- left + 1, which then make the number b
pub record More (r : Rules) (day a : ℕ) (s : State) (left b : ℕ) (t : State) (next : ℕ) : Type 0 where
  pub whole : listed r next a s ≡ listed r day a s ++ listed r left b t

module _ (r : Rules) (day a : ℕ) (s : State) where
  pub listed_more : listed r (day + 1) a s ≡ listed r day a s ++ onward (start_at r (day + 1) s) (λ t. listed r day (a + 2 ^ day) t)
  unfolding listed
  listed_more = rw (add-one day)

  -- with a start there, which adds the number b, and without
  pub more_to : (t : State) (b : ℕ) → start_at r (day + 1) s ≡ Some t → b ≡ 2 ^ day → listed r (day + 1) a s ≡ listed r day a s ++ listed r day (a + b) t
  more_to t b h e = rw e (listed_more ∙ rw h)

-- as a record
pub one_more : (r : Rules) {day a : ℕ} {s t : State} {left b : ℕ} {u : State} → OneStart a t left b u → t.first ≡ day + 1 → start_at r (day + 1) s ≡ Some t → More r day a s left b u (day + 1)
one_more r {day} {a} {s} {t} {left} {b} {u} o f e =
    let d : left ≡ day = omega (arith, o.left_is) in
    let n : t.first - 1 ≡ day = omega arith in
    rw (d, o.state_is, o.from_is, n) record { whole = more_to r day a s t (2 ^ day) e refl }

-- the list of more days begins with that of fewer
pub listed_begins : (r : Rules) (day a : ℕ) (s : State) (k : ℕ) → (L : List ℕ) × (listed r (day + k) a s ≡ listed r day a s ++ L)
listed_begins r day a s zero = ([], rw (add-zero day) (sym (append-nil _)))
listed_begins r day a s (suc k) =
    let e : day + suc k ≡ day + k + 1 = omega arith in
    let q = listed_begins r day a s k in
    let last = onward (start_at r (day + k + 1) s) (λ t. listed r (day + k) (a + 2 ^ (day + k)) t) in
    (q.0 ++ last, rw e (listed_more r (day + k) a s ∙ rw q.1 (append_assoc (listed r day a s) q.0 last)))

pub listed_first : (r : Rules) (day left a : ℕ) (s : State) → day ≤ left → (L : List ℕ) × (listed r left a s ≡ listed r day a s ++ L)
listed_first r day left a s h =
    let e : day + (left - day) ≡ left = omega arith in
    let q = listed_begins r day a s (left - day) in
    (q.0, ap (λ (d : ℕ). listed r d a s) (sym e) ∙ q.1)

pub listed_most : (r : Rules) (day left a : ℕ) (s : State) → day ≤ left → length (listed r day a s) ≤ length (listed r left a s)
listed_most r day left a s h = omega (arith, simp length-append at (ap length (listed_first r day left a s h).1))

-- ---- what is known where the walk stands, with a start on a day below

module _ {left a day b : ℕ} (ready : Ready left a) (l : day < left) (e : b ≡ 2 ^ day) where
  with_fits : a + b + 2 ^ day ≤ 2 ^ 32
  with_fits = omega (arith, ready.fits, pow_twice day, pow_mono {i = suc day} {j = left} l)

  pub with_ready : Ready day (a + b)
  with_ready = record { few_days = omega (arith, ready.few_days); fits = with_fits }

  -- the number with the start is one of 32 bits
  pub with_most : a + b < 2 ^ 32
  with_most = omega (arith, with_fits, pow_pos day)

-- from none
pub none_ready : (n : ℕ) → n ≤ day_places → Ready n 0
none_ready n l = record { few_days = l; fits = omega (arith, pow_mono {i = n} {j = day_places} l) }
