-- From a ward that the questions let through to the range of the number at an index, whatever the numbers before it are.
use Rattle.std.specs.Prelude.{ℕ, zero, suc, ◌+◌, ◌-◌, ◌*◌, ◌/◌, ◌%◌, ◌^◌, ◌≤◌, ◌<◌, ◌≡◌, refl, List, [], ◌∷◌, length, get_or, drop}
use Rattle.std.proofs.Common.{sym, ap, subst, arith}
use Rattle.layout.specs.declared.Field.{Field}
use Rattle.layout.specs.Grammar.{Grammar, done, number, good, check}
use Rattle.layout.specs.Layout.{range, one, pair, repeat, duties, bounds, day, group, mark, nurse}
use Rattle.layout.proofs.GrammarLaws.{in_range}
use Rattle.layout.proofs.AcceptLaws.{first_let_through}

-- after j numbers, whatever they are within their ranges, Q holds of what is left
abbrev pub After : Grammar → ℕ → (Grammar → Type 0) → Type 0
After g zero Q = Q g
After done (suc j) Q = ⊥
After (number f k) (suc j) Q = (v : ℕ) → f.least ≤ v → v ≤ f.most → After (k v) j Q

-- the next number, within its range, has P
abbrev pub First : (ℕ → Type 0) → Grammar → Type 0
First P done = ⊥
First P (number f k) = (v : ℕ) → f.least ≤ v → v ≤ f.most → P v

-- the next two numbers, each within its range, have P
abbrev pub Both : (ℕ → ℕ → Type 0) → Grammar → Type 0
Both P done = ⊥
Both P (number f k) = (v : ℕ) → f.least ≤ v → v ≤ f.most → First (P v) (k v)

-- a list that is let through: what Q says of what is left after j of its numbers
pub record Reached (Q : Grammar → Type 0) (j i : ℕ) (ws : List ℕ) : Type 0 where
  pub here : Grammar
  pub holds : Q here
  pub inside : j ≤ length ws
  pub rest : List ℕ
  pub left : check here i (drop j ws) ≡ good rest

pub reached : (g : Grammar) (j i : ℕ) (ws vs : List ℕ) (Q : Grammar → Type 0) → After g j Q → check g i ws ≡ good vs → (i' : ℕ) × Reached Q j i' ws
unfolding check
reached g zero i ws vs Q q e = (i, record { here = g; holds = q; inside = omega arith; rest = vs; left = e })
reached done (suc j) i ws vs Q q e = absurd q
reached (number f k) (suc j) i [] vs Q q e = absurd (cc)
reached (number f k) (suc j) i (w ∷ ws) vs Q q e =
    let t = first_let_through f k i w ws vs e in
    let r = in_range f w t.0 in
    let a = reached (k w) j (i + 1) ws t.1.0 Q (q w r.0 r.1) t.1.1 in
    (a.0, record { here = a.1.here; holds = a.1.holds; inside = omega (arith, a.1.inside); rest = a.1.rest; left = a.1.left })

first_of : (g : Grammar) (P : ℕ → Type 0) (i j : ℕ) (ws vs : List ℕ) → First P g → check g i (drop j ws) ≡ good vs → P (get_or (drop j ws) 0 0)
unfolding check
first_of done P i j ws vs p e = absurd p
first_of (number f k) P i j ws vs p e = go (drop j ws) e
  where
    go : (us : List ℕ) → check (number f k) i us ≡ good vs → P (get_or us 0 0)
    go [] e' = absurd (cc)
    go (u ∷ us) e' =
        let t = first_let_through f k i u us vs e' in
        let r = in_range f u t.0 in
        p u r.0 r.1

at_drop : (ws : List ℕ) (j : ℕ) → get_or (drop j ws) 0 0 ≡ get_or ws j 0
at_drop [] zero = refl
at_drop [] (suc j) = refl
at_drop (w ∷ ws) zero = refl
at_drop (w ∷ ws) (suc j) = at_drop ws j

-- so the number at j has P
pub number_has : (g : Grammar) (j i : ℕ) (ws vs : List ℕ) (P : ℕ → Type 0) → After g j (First P) → check g i ws ≡ good vs → P (get_or ws j 0)
number_has g j i ws vs P q e =
    let a = reached g j i ws vs (First P) q e in
    subst P (at_drop ws j) (first_of a.1.here P a.0 j ws a.1.rest a.1.holds a.1.left)

both_of : (g : Grammar) (P : ℕ → ℕ → Type 0) (i j : ℕ) (ws vs : List ℕ) → Both P g → check g i (drop j ws) ≡ good vs
    → P (get_or (drop j ws) 0 0) (get_or (drop j ws) 1 0)
unfolding check
both_of done P i j ws vs p e = absurd p
both_of (number f k) P i j ws vs p e = go (drop j ws) e
  where
    go : (us : List ℕ) → check (number f k) i us ≡ good vs → P (get_or us 0 0) (get_or us 1 0)
    go [] e' = absurd (cc)
    go (u ∷ us) e' =
        let t = first_let_through f k i u us vs e' in
        let r = in_range f u t.0 in
        first_of (k u) (P u) (i + 1) 0 us t.1.0 (p u r.0 r.1) t.1.1

next_drop : (ws : List ℕ) (j : ℕ) → get_or (drop j ws) 1 0 ≡ get_or ws (suc j) 0
next_drop [] zero = refl
next_drop [] (suc j) = refl
next_drop (w ∷ ws) zero = refl
next_drop (w ∷ ws) (suc j) = next_drop ws j

-- so the numbers at j and after it have P
pub numbers_have : (g : Grammar) (j i : ℕ) (ws vs : List ℕ) (P : ℕ → ℕ → Type 0) → After g j (Both P) → check g i ws ≡ good vs → P (get_or ws j 0) (get_or ws (suc j) 0)
numbers_have g j i ws vs P q e =
    let a = reached g j i ws vs (Both P) q e in
    let h = both_of a.1.here P a.0 j ws a.1.rest a.1.holds a.1.left in
    subst (λ (x : ℕ). P x (get_or ws (suc j) 0)) (at_drop ws j) (subst (λ (y : ℕ). P (get_or (drop j ws) 0 0) y) (next_drop ws j) h)

done_left : (g : Grammar) (i : ℕ) (us vs : List ℕ) → g ≡ done → check g i us ≡ good vs → length us ≡ 0
unfolding check
done_left done i [] vs q e = refl
done_left done i (u ∷ us) vs q e = absurd (cc)
done_left (number f k) i us vs q e = absurd (cc)

drop_length : (ws : List ℕ) (j : ℕ) → j ≤ length ws → length (drop j ws) ≡ 0 → length ws ≡ j
drop_length ws zero l e = e
drop_length [] (suc j) l e = absurd (omega arith)
drop_length (w ∷ ws) (suc j) l e = ap suc (drop_length ws j (omega arith) e)

-- a layout of j numbers: the list has just those
pub numbers_all : (g : Grammar) (j i : ℕ) (ws vs : List ℕ) → After g j (λ h. h ≡ done) → check g i ws ≡ good vs → length ws ≡ j
numbers_all g j i ws vs q e =
    let a = reached g j i ws vs (λ h. h ≡ done) q e in
    drop_length ws j a.1.inside (done_left a.1.here a.0 (drop j ws) a.1.rest a.1.holds a.1.left)

-- ---- how far each part of the layout reaches

pub after_at : (g : Grammar) (Q : Grammar → Type 0) (j J : ℕ) → j ≡ J → After g j Q → After g J Q
after_at g Q j J e h = subst (λ (x : ℕ). After g x Q) e h

pub after_add : (g : Grammar) (j k : ℕ) (Q : Grammar → Type 0) → After g j (λ h. After h k Q) → After g (j + k) Q
after_add g zero k Q h = after_at g Q k (0 + k) (omega arith) h
after_add done (suc j) k Q h = absurd h
after_add (number f r) (suc j) k Q h =
    after_at (number f r) Q (suc (j + k)) (suc j + k) (omega arith) (λ v lo hi. after_add (r v) j k Q (h v lo hi))

weaken : (g : Grammar) (j : ℕ) (P Q : Grammar → Type 0) → ((h : Grammar) → P h → Q h) → After g j P → After g j Q
weaken g zero P Q f h = f g h
weaken done (suc j) P Q f h = absurd h
weaken (number r k) (suc j) P Q f h = λ v lo hi. weaken (k v) j P Q f (h v lo hi)

-- a part of the layout that takes s numbers, and then leaves the rest
abbrev pub Takes : (Grammar → Grammar) → ℕ → Type 0
Takes body s = (g : Grammar) → After (body g) s (λ h. h ≡ g)

-- what holds after the rest's j holds after s more
pub past : (body : Grammar → Grammar) (s : ℕ) → Takes body s → (g : Grammar) (j : ℕ) (Q : Grammar → Type 0) → After g j Q → After (body g) (s + j) Q
past body s t g j Q h =
    after_add (body g) s j Q (weaken (body g) s (λ x. x ≡ g) (λ x. After x j Q) (λ x e. subst (λ (y : Grammar). After y j Q) (sym e) h) (t g))

pub takes_one : (f : Field) → Takes (one f) 1
takes_one f g = λ v lo hi. refl

pub takes_pair : (hi : ℕ) → Takes (pair hi) 2
takes_pair top g = λ v lo hi u lo' hi'. refl

pub takes_duties : (k d : ℕ) → Takes (duties k d) k
takes_duties zero d g = refl
takes_duties (suc k) d g = λ v lo hi. takes_duties k v g

pub takes_both : (a b : Grammar → Grammar) (s t : ℕ) → Takes a s → Takes b t → Takes (λ g. a (b g)) (s + t)
takes_both a b s t p q g = past a s p (b g) t (λ h. h ≡ g) (q g)

module _ (body : Grammar → Grammar) (s : ℕ) (t : Takes body s) where
  pub takes_repeat : (k : ℕ) → Takes (repeat k body) (k * s)
  takes_repeat zero g = after_at g (λ h. h ≡ g) 0 (0 * s) (omega arith) refl
  takes_repeat (suc k) g =
      after_at (repeat (suc k) body g) (λ h. h ≡ g) (s + k * s) (suc k * s) (omega arith)
      (past body s t (repeat k body g) (k * s) (λ h. h ≡ g) (takes_repeat k g))

  -- within element i of a repeat
  pub in_repeat : (k i : ℕ) (g : Grammar) (j : ℕ) (Q : Grammar → Type 0) → i < k → ((h : Grammar) → After (body h) j Q) → After (repeat k body g) (i * s + j) Q
  in_repeat zero i g j Q l b = absurd (omega arith)
  in_repeat (suc k) zero g j Q l b = after_at (repeat (suc k) body g) Q j (0 * s + j) (omega arith) (b (repeat k body g))
  in_repeat (suc k) (suc i) g j Q l b =
      after_at (repeat (suc k) body g) Q (s + (i * s + j)) (suc i * s + j) (omega arith)
      (past body s t (repeat k body g) (i * s + j) Q (in_repeat k i g j Q (omega arith) b))

pub takes_bounds : Takes bounds 4
takes_bounds = takes_both (pair 48) (pair 48) 2 2 (takes_pair 48) (takes_pair 48)

pub takes_day : (r : ℕ) → Takes (day r) (2 + r * 4)
takes_day r =
    takes_both (λ g. one (range 0 48) (one (range 0 48) g)) (repeat r bounds) 2 (r * 4)
    (takes_both (one (range 0 48)) (one (range 0 48)) 1 1 (takes_one (range 0 48)) (takes_one (range 0 48)))
    (takes_repeat bounds 4 takes_bounds r)

pub takes_group : (m : ℕ) → Takes (group m) 1
takes_group m = takes_one (range 1 (2 ^ m - 1))

pub takes_marks : (n : ℕ) → Takes (repeat n mark) (n * 1)
takes_marks n = takes_repeat mark 1 (takes_one (range 0 6)) n

-- her bounds and marks, after the seven duties
pub bounded : ℕ → Grammar → Grammar
bounded n g = pair 15 (pair 31 (repeat n mark g))

takes_bounded : (n : ℕ) → Takes (bounded n) (2 + (2 + n * 1))
unfolding bounded
takes_bounded n =
    takes_both (pair 15) (λ g. pair 31 (repeat n mark g)) 2 (2 + n * 1) (takes_pair 15)
    (takes_both (pair 31) (repeat n mark) 2 (n * 1) (takes_pair 31) (takes_marks n))

pub takes_nurse : (n : ℕ) → Takes (nurse n) (11 + n)
unfolding bounded
takes_nurse n g =
    after_at (nurse n g) (λ h. h ≡ g) (suc (6 + (2 + (2 + n * 1)))) (11 + n) (omega arith)
    (λ d lo hi. past (duties 6 d) 6 (takes_duties 6 d) (bounded n g) (2 + (2 + n * 1)) (λ h. h ≡ g) (takes_bounded n g))

-- ---- a nurse's block

abbrev pub Most : ℕ → ℕ → Type 0
Most b v = v ≤ b

duty_in : (k d j : ℕ) (g : Grammar) → j < k → After (duties k d g) j (First (Most 4))
duty_in zero d j g l = absurd (omega arith)
duty_in (suc k) d zero g l = λ v lo hi. hi
duty_in (suc k) d (suc j) g l = λ v lo hi. duty_in k v j g (omega arith)

pub nurse_duty : (n k : ℕ) (g : Grammar) → k < 7 → After (nurse n g) k (First (Most 4))
unfolding bounded
nurse_duty n zero g l = λ v lo hi. hi
nurse_duty n (suc k) g l = λ v lo hi. duty_in 6 v k (bounded n g) (omega arith)

module _ (n : ℕ) (g : Grammar) where
  -- the numbers after her seven duties
  later : (j : ℕ) (b : ℕ) → After (bounded n g) j (First (Most b)) → After (nurse n g) (7 + j) (First (Most b))
  unfolding bounded
  later j b h =
      after_at (nurse n g) (First (Most b)) (suc (6 + j)) (7 + j) (omega arith)
      (λ d lo hi. past (duties 6 d) 6 (takes_duties 6 d) (bounded n g) j (First (Most b)) h)

  pub nurse_least_nights : After (nurse n g) 7 (First (Most 15))
  unfolding bounded
  nurse_least_nights = later 0 15 (λ v lo hi. hi)

  pub nurse_most_nights : After (nurse n g) 8 (First (Most 15))
  unfolding bounded
  nurse_most_nights = later 1 15 (λ v lo hi u lo' hi'. hi')

  pub nurse_least_rests : After (nurse n g) 9 (First (Most 31))
  unfolding bounded
  nurse_least_rests = later 2 31 (past (pair 15) 2 (takes_pair 15) (pair 31 (repeat n mark g)) 0 (First (Most 31)) (λ v lo hi. hi))

  pub nurse_most_rests : After (nurse n g) 10 (First (Most 31))
  unfolding bounded
  nurse_most_rests = later 3 31 (past (pair 15) 2 (takes_pair 15) (pair 31 (repeat n mark g)) 1 (First (Most 31)) (λ v lo hi u lo' hi'. hi'))

  pub nurse_mark : (d : ℕ) → d < n → After (nurse n g) (11 + d) (First (Most 6))
  unfolding bounded
  nurse_mark d l =
      after_at (nurse n g) (First (Most 6)) (7 + (2 + (2 + (d * 1 + 0)))) (11 + d) (omega arith)
      (later (2 + (2 + (d * 1 + 0))) 6
      (past (pair 15) 2 (takes_pair 15) (pair 31 (repeat n mark g)) (2 + (d * 1 + 0)) (First (Most 6))
      (past (pair 31) 2 (takes_pair 31) (repeat n mark g) (d * 1 + 0) (First (Most 6))
      (in_repeat mark 1 (takes_one (range 0 6)) n d g 0 (First (Most 6)) l (λ h v lo hi. hi)))))

-- ---- a day

bounds_in : (j : ℕ) (g : Grammar) → j < 4 → After (bounds g) j (First (Most 48))
bounds_in zero g l = λ v lo hi. hi
bounds_in (suc zero) g l = λ v lo hi u lo' hi'. hi'
bounds_in (suc (suc zero)) g l = past (pair 48) 2 (takes_pair 48) (pair 48 g) 0 (First (Most 48)) (λ v lo hi. hi)
bounds_in (suc (suc (suc zero))) g l = past (pair 48) 2 (takes_pair 48) (pair 48 g) 1 (First (Most 48)) (λ v lo hi u lo' hi'. hi')
bounds_in (suc (suc (suc (suc j)))) g l = absurd (omega arith)

pub day_in : (r j : ℕ) (g : Grammar) → j < 2 + r * 4 → After (day r g) j (First (Most 48))
day_in r zero g l = λ v lo hi. hi
day_in r (suc zero) g l = λ v lo hi u lo' hi'. hi'
day_in r (suc (suc j)) g l =
    let q = j / 4 in
    let p = j % 4 in
    λ v lo hi u lo' hi'. after_at (repeat r bounds g) (First (Most 48)) (q * 4 + p) j (omega arith)
    (in_repeat bounds 4 takes_bounds r q g p (First (Most 48)) (omega arith) (λ h. bounds_in p h (omega arith)))

-- a group's low and high on one day, by night and by day
bounds_pair : (k : ℕ) (g : Grammar) → k < 2 → After (bounds g) (2 * k) (Both ◌≤◌)
bounds_pair zero g l = λ v lo hi u lo' hi'. lo'
bounds_pair (suc zero) g l = past (pair 48) 2 (takes_pair 48) (pair 48 g) 0 (Both ◌≤◌) (λ v lo hi u lo' hi'. lo')
bounds_pair (suc (suc k)) g l = absurd (omega arith)

pub day_pair : (r k q : ℕ) (g : Grammar) → k < 2 → q < r → After (day r g) (2 + (q * 4 + 2 * k)) (Both ◌≤◌)
day_pair r k q g l m =
    past (λ x. one (range 0 48) (one (range 0 48) x)) 2 (takes_both (one (range 0 48)) (one (range 0 48)) 1 1 (takes_one (range 0 48)) (takes_one (range 0 48)))
    (repeat r bounds g) (q * 4 + 2 * k) (Both ◌≤◌)
    (in_repeat bounds 4 takes_bounds r q g (2 * k) (Both ◌≤◌) m (λ h. bounds_pair k h l))
