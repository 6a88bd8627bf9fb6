-- Whether a nurse has a pattern: what the walk asks of a night pattern, and what it comes to over the whole month.
use Rattle.std.specs.Prelude.{◌≡◌, refl, Bool, true, false, cond, not, ◌&&◌, List, [], ◌∷◌, ◌++◌, ℕ, zero, suc, ◌+◌, ◌-◌, ◌*◌, ◌/◌, ◌%◌, ◌^◌, ◌≤◌, ◌<◌, bit_and, ltb, length, get_or}
use Rattle.std.proofs.Common.{sym, ap, ◌∙◌, subst, add-mul, one-mul, mul_assoc, div-add-mod', not-suc-le-zero, arith, pow-add, true≢false}
use Rattle.std.proofs.lemmas.Option.{none-some}
use Rattle.std.proofs.Math.Nat.{mul-mod_left, div-eq_of_lt-le}
use Rattle.std.specs.Option.{MatchOption}
use Rattle.std.specs.Bool.{then_some}
use Rattle.std.specs.declared.option.Option.{Option}
use Rattle.std.specs.declared.option.Option.TheVariants.{Some, None}
use Rattle.numbers.specs.Digits.{has}
use Rattle.numbers.specs.Range.{filter, any_of}
use Rattle.numbers.proofs.HalfLaws.{pow_twice, high_half}
use Rattle.numbers.proofs.MemberLaws.{Each, each_append, kept_none}
use Rattle.numbers.proofs.SetLaws.{has_and, has_above}
use Rattle.fields.specs.declared.rules.Rules.{Rules}
use Rattle.fields.specs.Fields.{Accepted, days, block}
use Rattle.fields.specs.Rules.{rules_of}
use Rattle.rows.specs.Pairs.{pair_numbers, pair_fits}
use Rattle.nights.specs.Nights.{common_of}
use Rattle.nights.specs.CodeCommon.{Among}
use Rattle.nights.specs.Hers.{hers_of}
use Rattle.nights.specs.Own.{has_pair, pattern_list}
use Rattle.nights.proofs.ListLaws.{among_common, some_low, some_high}
use Rattle.nights.proofs.OwnLaws.{own_some}
use Rattle.nursemasks.specs.declared.masks.Masks.{Masks}
use Rattle.nursemasks.specs.CodeMasks.{masks_of}
use Rattle.nursemasks.proofs.NearLaws.{out_never}
use Rattle.nightlists.specs.declared.State.{State}
use Rattle.nightlists.specs.CodeWalk.{closed, here, start_at, onward, listed, lengthened, hers_with_pair, OneStart}
use Rattle.nightlists.proofs.WalkLaws.{here_is, here_only, More, listed_more, listed_first}
use Rattle.nightlists.proofs.OnwardLaws.{Days, Long, long_is, long_first, never_all, to_all}

-- it is not hers, or her pairs decide
module _ (w : List ℕ) (i p : ℕ) {hers : Bool} (e : hers ≡ hers_of w i p) where
  pub one_nights : hers ≡ false → false ≡ hers_with_pair w i p
  unfolding hers_with_pair
  one_nights q = sym (ap (λ (v : Bool). v && has_pair w i p) (sym e ∙ q))

  pub one_pair : {r : Bool} → hers ≡ true → r ≡ any_of (pair_fits w i p) (pair_numbers w) → r ≡ hers_with_pair w i p
  unfolding hers_with_pair has_pair
  one_pair q f = f ∙ sym (ap (λ (v : Bool). v && has_pair w i p) (sym e ∙ q))

-- the walk over the whole month
pub some_of_list : (w : List ℕ) (i : ℕ) (L : List ℕ) (h : Bool) → Accepted w → L ≡ common_of w
    → (Among (rules_of w) (days w) L → h ≡ ltb 0 (length (filter (hers_with_pair w i) L))) → h ≡ ltb 0 (length (pattern_list w i))
unfolding hers_with_pair
some_of_list w i L h ok e f =
    f (subst (Among (rules_of w) (days w)) (sym e) (among_common (rules_of w) (days w)))
    ∙ ap (λ (l : List ℕ). ltb 0 (length (filter (hers_with_pair w i) l))) e
    ∙ sym (own_some w i (omega (arith, ok.pairs_most)))

-- ---- the patterns with a start on a day on which she never starts

-- what lies from a on, below a + n
abbrev Within : ℕ → ℕ → ℕ → Type 0
Within a n x = (a ≤ x) × (x < a + n)

onward_each : (P : ℕ → Type 0) (f : State → List ℕ) (N : Option State) → ((t : State) → Each P (f t)) → Each P (onward N f)
onward_each P f (Some t) h = h t
onward_each P f None h = λ k l. absurd (not-suc-le-zero l)

-- the undecided days only add to the number that the others make
listed_within : (r : Rules) (d a : ℕ) (s : State) → Each (Within a (2 ^ d)) (listed r d a s)
unfolding listed
listed_within r zero a s = go (closed r s.run s.dist)
  where
    go : (v : Bool) → Each (Within a (2 ^ 0)) (cond v (a ∷ []) [])
    go true zero h = (omega arith, omega arith)
    go true (suc k) h = absurd (omega arith)
    go false k h = absurd (not-suc-le-zero h)
listed_within r (suc d) a s =
    each_append (Within a (2 ^ suc d)) (listed r d a s) (onward (start_at r (suc d) s) (λ t. listed r d (a + 2 ^ d) t))
    (λ k h. let q = listed_within r d a s k h in (q.0, omega (arith, q.1, pow_twice d)))
    (onward_each (Within a (2 ^ suc d)) (λ t. listed r d (a + 2 ^ d) t) (start_at r (suc d) s)
    (λ t k h. let q = listed_within r d (a + 2 ^ d) t k h in (omega (arith, q.0), omega (arith, q.1, pow_twice d))))

-- a number of which the days from `left` on are decided, with a start on a day below
module _ (left day a : ℕ) (even : a % 2 ^ left ≡ 0) (l : day < left) where
  with_odd : (q : ℕ) × (a + 2 ^ day ≡ (q * 2 + 1) * 2 ^ day)
  with_odd =
      let k = a / 2 ^ left in
      let j = left - suc day in
      let e : j + suc day ≡ left = omega arith in
      let whole : a ≡ k * 2 ^ left = omega (arith, div-add-mod' a (2 ^ left)) in
      let parts : k * 2 ^ left ≡ k * 2 ^ j * 2 ^ suc day = ap (λ (x : ℕ). k * 2 ^ x) (sym e) ∙ ap (λ (x : ℕ). k * x) (pow-add 2 j (suc day)) ∙ sym (mul_assoc k (2 ^ j) (2 ^ suc day)) in
      (k * 2 ^ j, ap (λ (x : ℕ). x + 2 ^ day) (whole ∙ parts) ∙ high_half day (k * 2 ^ j))

  pub with_even : {b : ℕ} → b ≡ 2 ^ day → (a + b) % 2 ^ day ≡ 0
  with_even e = rw (e, with_odd.1) (mul-mod_left (with_odd.0 * 2 + 1) (2 ^ day))

  has_start : (x : ℕ) → Within (a + 2 ^ day) (2 ^ day) x → has x day ≡ true
  has_start x (low, high) =
      let q = with_odd.0 * 2 + 1 in
      let e : a + 2 ^ day ≡ q * 2 ^ day = with_odd.1 in
      let next : (q + 1) * 2 ^ day ≡ q * 2 ^ day + 2 ^ day = rw (add-mul q 1 (2 ^ day), one-mul) in
      let is : x / 2 ^ day ≡ q = div-eq_of_lt-le (2 ^ day) (omega arith) (omega arith) in
      let odd : (with_odd.0 * 2 + 1) % 2 ≡ 1 = omega arith in
      rw (is, odd)

in_both : (x y d : ℕ) → has x d ≡ true → has y d ≡ true → bit_and x y ≡ 0 → ⊥
in_both x y d p q e =
    let both : has (bit_and x y) d ≡ true = has_and x y d ∙ rw (p, q) in
    let none : has (bit_and x y) d ≡ false = ap (λ (z : ℕ). has z d) e ∙ has_above 0 0 d (omega arith) (omega arith) in
    true≢false (sym both ∙ none)

cond_to : (v : Bool) (N : Option State) (t : State) → cond v None N ≡ Some t → N ≡ Some t
cond_to true N t e = absurd (none-some _ e)
cond_to false N t e = e

-- ---- what the walk says of a list, of nurse i, whose masks are m

abbrev pub Says : List ℕ → ℕ → List ℕ → Bool → Type 0
Says w i L h = Among (rules_of w) (days w) L → h ≡ ltb 0 (length (filter (hers_with_pair w i) L))

pub says_as : {v w : List ℕ} {i j : ℕ} (L : List ℕ) (h : Bool) → v ≡ w → i ≡ j → Says v i L h → Says w j L h
says_as {v} {w} {i} {j} L h e f s = subst (λ (x : List ℕ). Says x j L h) e (subst (λ (k : ℕ). Says v k L h) f s)

-- the loop: none of the patterns of the days below `day`
pub record NoneAt (w : List ℕ) (i : ℕ) (r : Rules) (left a : ℕ) (s : State) (day : ℕ) : Type 0 where
  pub day_most : day ≤ left
  pub none : Says w i (listed r day a s) false

module _ (w : List ℕ) (i : ℕ) where
  says_first : (L A B : List ℕ) (h : Bool) → L ≡ A ++ B → Says w i A h → h ≡ true → Says w i L true
  says_first L A B h e f y among = some_low (rules_of w) (days w) (hers_with_pair w i) L h A B e f y among

  says_second : (L A B : List ℕ) (h : Bool) → L ≡ A ++ B → Says w i A false → Says w i B h → Says w i L h
  says_second L A B h e f g among = some_high (rules_of w) (days w) (hers_with_pair w i) L false A B h e f refl g among

  -- none of them is hers where each has a start on a day on which she never starts
  says_barred : {m : Masks} → m ≡ masks_of (rules_of w) (days w) (block w i) → (B : List ℕ) (day : ℕ) → Accepted w → has m.never day ≡ true → Each (λ p. has p day ≡ true) B → Says w i B false
  unfolding Among
  says_barred {m} is B day ok bar each among =
      let none : filter (hers_with_pair w i) B ≡ [] = kept_none (hers_with_pair w i) B (λ k l.
      let q = among k l in
      let p = get_or B k 0 in
      sym (one_nights w i p (out_never (rules_of w) (days w) p (block w i) m is q.0 q.1 ok.days_most (in_both p m.never day (each k l) bar)) refl)) in
      sym (ap (λ (l : List ℕ). ltb 0 (length l)) none)

  module _ (r : Rules) (left a : ℕ) (s : State) {v h : Bool} (e : v ≡ closed r s.run s.dist) (f : Says w i (here v a) h) where
    says_here : Says w i (listed r 0 a s) h
    says_here = rw (here_is r a s e) f

    pub some_here : h ≡ true → Says w i (listed r left a s) true
    some_here y =
        let q = listed_first r 0 left a s (omega arith) in
        says_first _ _ q.0 h q.1 says_here y

    pub none_only : r.most ≤ s.count → h ≡ false → Says w i (listed r left a s) false
    none_only k y = rw (here_only r left a s k, ← y) says_here

    pub none_start : h ≡ false → NoneAt w i r left a s 0
    none_start y = record { day_most = omega arith; none = rw (← y) says_here }

module _ {w : List ℕ} {i : ℕ} {r : Rules} {left a : ℕ} {s : State} {day : ℕ} (n : NoneAt w i r left a s day) where
  -- on one more day she starts
  module _ {next last b : ℕ} {t : State} {h : Bool} (more : More r day a s last b t next) (f : Says w i (listed r last b t) h) where
    pub some_more : Says w i (listed r next a s) h
    some_more = says_second w i (listed r next a s) (listed r day a s) (listed r last b t) h more.whole n.none f

    pub turn_yes : next ≤ left → h ≡ true → Says w i (listed r left a s) true
    turn_yes l y =
        let first = listed_first r next left a s l in
        says_first w i _ _ first.0 h first.1 some_more y

    pub turn_no : next ≤ left → h ≡ false → NoneAt w i r left a s next
    turn_no l y = record { day_most = l; none = rw (← y) some_more }

  -- on the next day she never does
  pub turn_barred : {m : Masks} → m ≡ masks_of (rules_of w) (days w) (block w i) → Accepted w → a % 2 ^ left ≡ 0 → day < left → has m.never day ≡ true → NoneAt w i r left a s (day + 1)
  turn_barred is ok even l bar = record { day_most = omega arith; none = none }
    where
      B : List ℕ
      B = onward (start_at r (day + 1) s) (λ t. listed r day (a + 2 ^ day) t)

      none : Says w i (listed r (day + 1) a s) false
      none = says_second w i (listed r (day + 1) a s) (listed r day a s) B false (listed_more r day a s) n.none
          (says_barred w i is B day ok bar
          (onward_each (λ p. has p day ≡ true) (λ t. listed r day (a + 2 ^ day) t) (start_at r (day + 1) s)
          (λ t k h. has_start left day a even l _ (listed_within r day (a + 2 ^ day) t k h))))

  -- past the days of new runs, where she does not lengthen the first run
  module _ {done : Bool} {apart past : ℕ} (k : Days r done apart left s past) (l : day ≤ past) (q : past ≤ day) where
    pub none_end : {m : Masks} {N : Option State} → m ≡ masks_of (rules_of w) (days w) (block w i) → Accepted w → a % 2 ^ left ≡ 0 → N ≡ cond (has m.never (s.first - 3)) None (lengthened r s left) → N ≡ None → Says w i (listed r left a s) false
    none_end {m} is ok even c e = go (has m.never (s.first - 3)) refl (lengthened r s left) refl
      where
        go : (v : Bool) → has m.never (s.first - 3) ≡ v → (M : Option State) → lengthened r s left ≡ M → Says w i (listed r left a s) false
        go v bar None f = rw (never_all k l q a (sym f) refl) n.none
        go false bar (Some t) f = absurd (none-some _ (sym (rw (bar, f) at (sym c ∙ e))))
        go true bar (Some t) f =
            let long : Long r left s t = long_is r left s t f in
            let last : ℕ = t.first - 1 in
            let there : s.first - 3 ≡ last = omega (arith, long.day) in
            let more : More r day a s last (a + 2 ^ last) t left = to_all k l q a (sym f) refl (record { left_is = refl; from_is = refl; state_is = refl }) in
            says_second w i (listed r left a s) (listed r day a s) (listed r last (a + 2 ^ last) t) false more.whole n.none
            (says_barred w i is (listed r last (a + 2 ^ last) t) last ok (rw there at bar)
            (λ i h. has_start left last a even long.below _ (listed_within r last (a + 2 ^ last) t i h)))

-- where she lengthens the first run
module _ {r : Rules} {left : ℕ} {s : State} {done : Bool} {apart past : ℕ} (k : Days r done apart left s past) (never : Bool) {N : Option State} {t : State} (c : N ≡ cond never None (lengthened r s left)) (e : N ≡ Some t) where
  is_long : lengthened r s left ≡ Some t
  is_long = cond_to never (lengthened r s left) t (sym c ∙ e)

  pub her_first : (1 ≤ t.first) × (t.first ≤ left)
  her_first = long_first k (sym is_long) refl

  pub her_all : {day last b : ℕ} {u : State} (a : ℕ) → day ≤ past → past ≤ day → OneStart a t last b u → More r day a s last b u left
  her_all a l q o = to_all k l q a (sym is_long) refl o

-- what is left of an option where it is kept unless v
pub filter_is : {A : Type 0} (N R : Option A) (P : A → Bool → Type 0) (v : Bool) → MatchOption N (R ≡ None) (λ x. (b : Bool) × P x b × (R ≡ then_some b x))
    → ((x : A) (b : Bool) → N ≡ Some x → P x b → b ≡ not v) → R ≡ cond v None N
filter_is None R P true m f = m
filter_is None R P false m f = m
filter_is (Some x) R P v m f = m.2 ∙ go v (f x m.0 refl m.1)
  where
    go : (u : Bool) → m.0 ≡ not u → then_some m.0 x ≡ cond u None (Some x)
    go true e = rw e refl
    go false e = rw e refl
