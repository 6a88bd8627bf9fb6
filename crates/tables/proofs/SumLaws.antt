-- The sums over six days: how the places are written, one day more, six days, and the table of a month.
use Rattle.std.specs.Prelude.{◌≡◌, refl, Bool, true, false, cond, ◌||◌, List, ℕ, zero, suc, ◌+◌, ◌-◌, ◌*◌, ◌/◌, ◌%◌, ◌^◌, ◌≤◌, ◌<◌, length, get_or, set, replicate, eqb}
use Rattle.std.proofs.Common.{sym, ap, ◌∙◌, subst, ⊎_elim, le_trans, not-suc-le-zero, eq-or-lt_of_le, le_of_suc-le-suc, le-div_iff_mul-le, div-lt_iff_lt-mul, one-mul, mod-eq_of_lt, add-one, arith, length-set, get_or-set_same, get_or-set_other, pow-add, pow_mono, pow_pos, shr-shr}
use Rattle.std.proofs.Math.Decide.{dec_lt}
use Rattle.std.proofs.Math.Pow.{high, low}
use Rattle.std.proofs.lemmas.List.{get_or_past}
use Rattle.numbers.specs.Sum.{sum_to}
use Rattle.numbers.specs.Digits.{has}
use Rattle.numbers.proofs.SumLaws.{sum_zero, sum_suc, sum_ext, sum_le, sum_none}
use Rattle.numbers.proofs.DigitLaws.{bit_above, low_digit}
use Rattle.tables.specs.CodeTables.{night_on, open_on, none_on, Low, Small, key_at, six_at, Sums, Blank, TableOf, Raised, Extended, Cleared, SixSummed}
use Rattle.tables.proofs.TrialLaws.{table_trial_lem}

-- ---- a loop that writes f 0, f 1, .. from a place on

-- the first y are written, and no other place
pub record RaisedTo (l r : List ℕ) (at : ℕ) (f : ℕ → ℕ) (y : ℕ) : Type 0 where
  pub long : length r ≡ length l
  pub within : (k : ℕ) → k < y → get_or r (at + k) 0 ≡ f k
  pub before : (e : ℕ) → e < at → get_or r e 0 ≡ get_or l e 0
  pub after : (e : ℕ) → at + y ≤ e → get_or r e 0 ≡ get_or l e 0

pub raised_start : (l : List ℕ) (at : ℕ) (f : ℕ → ℕ) → RaisedTo l l at f 0
raised_start l at f = record { long = refl; within = λ k q. absurd (not-suc-le-zero q); before = λ e q. refl; after = λ e q. refl }

pub raised_turn : (l r : List ℕ) (at : ℕ) (f : ℕ → ℕ) (y : ℕ) {v : ℕ} → RaisedTo l r at f y → at + y < length l → v ≡ f y → RaisedTo l (set r (at + y) v) at f (y + 1)
raised_turn l r at f y {v} p h q = record {
  long = length-set r (at + y) v ∙ p.long;
  within = λ k s. ⊎_elim (λ t. here k t) (λ t. other (at + k) (λ u. omega arith) ∙ p.within k t) (eq-or-lt_of_le (le_of_suc-le-suc (rw add-one at s)));
  before = λ e s. other e (λ u. omega arith) ∙ p.before e s;
  after = λ e s. other e (λ u. omega arith) ∙ p.after e (omega arith);
}
  where
    here : (k : ℕ) → k ≡ y → get_or (set r (at + y) v) (at + k) 0 ≡ f k
    here k t = rw (t, get_or-set_same r (at + y) v 0 (omega (arith, p.long))) q

    other : (e : ℕ) → (e ≡ at + y → ⊥) → get_or (set r (at + y) v) e 0 ≡ get_or r e 0
    other e t = get_or-set_other r (at + y) e v 0 t

-- ---- what the places are at most

-- the places before some, those, and those after
low_parts : (l : List ℕ) (at count m : ℕ) → ((e : ℕ) → e < at → get_or l e 0 ≤ m) → ((y : ℕ) → y < count → get_or l (at + y) 0 ≤ m) → ((e : ℕ) → at + count ≤ e → get_or l e 0 ≤ m) → Low l m
low_parts l at count m f g h = record { low = λ e. go e (dec_lt e at) (dec_lt e (at + count)) }
  where
    go : (e : ℕ) → Dec (e < at) → Dec (e < at + count) → get_or l e 0 ≤ m
    go e (yes p) q = f e p
    go e (no p) (yes q) =
        let s : at + (e - at) ≡ e = omega arith in
        subst (λ (k : ℕ). get_or l k 0 ≤ m) s (g (e - at) (omega arith))
    go e (no p) (no q) = h e (omega arith)

pub low_more : (l : List ℕ) (m k : ℕ) → m ≤ k → Low l m → Low l k
low_more l m k h s = record { low = λ e. le_trans (s.low e) h }

raised_low : (l r : List ℕ) (from to count x m k : ℕ) → Low l m → m + x ≤ k → Raised l r from to count x → Low r k
raised_low l r from to count x m k s h a =
    low_parts r to count k
    (λ e q. omega (arith, s.low e, a.before e q))
    (λ y q. omega (arith, s.low (from + y), a.within y q))
    (λ e q. omega (arith, s.low e, a.after e q))

-- ---- one day more

-- its places are small enough for the next to be raised
pub once_low : (l a : List ℕ) (base one night : ℕ) → Low l 2227200 → night ≤ 371200 → Raised l a base (base + 4 * one) (4 * one) night → Low a 3000000
once_low l a base one night s h p = raised_low l a base (base + 4 * one) (4 * one) night 2227200 3000000 s (omega arith) p

pub twice_low : (l a m : List ℕ) (base one night opened : ℕ) → Low l 2227200 → night ≤ 371200 → opened ≤ 371200 → Raised l a base (base + 4 * one) (4 * one) night
    → Raised a m base base one opened → Low m 3000000
twice_low l a m base one night opened s h k p q =
    raised_low a m base base one opened 2598400 3000000 (raised_low l a base (base + 4 * one) (4 * one) night 2227200 2598400 s (omega arith) p) (omega arith) q

pub extended : (l a m r : List ℕ) (base one night opened none : ℕ) → Raised l a base (base + 4 * one) (4 * one) night → Raised a m base base one opened
    → Raised m r (base + one) (base + one) (3 * one) none → Extended l r base one night opened none
extended l a m r base one night opened none p q s = record {
  long = s.long ∙ q.long ∙ p.long;
  open_places = λ k h. s.before (base + k) (omega arith) ∙ q.within k h ∙ ap (λ (v : ℕ). v + opened) (p.before (base + k) (omega arith));
  none_places = λ k h i. late k h i;
  night_places = λ k h. s.after (base + 4 * one + k) (omega arith) ∙ q.after (base + 4 * one + k) (omega arith) ∙ p.within k h;
  before = λ e h. s.before e (omega arith) ∙ q.before e h ∙ p.before e (omega arith);
  after = λ e h. s.after e (omega arith) ∙ q.after e (omega arith) ∙ p.after e (omega arith);
}
  where
    late : (k : ℕ) → one ≤ k → k < 4 * one → get_or r (base + k) 0 ≡ get_or l (base + k) 0 + none
    late k h i =
        let e : base + one + (k - one) ≡ base + k = omega arith in
        subst (λ (d : ℕ). get_or r d 0 ≡ get_or m d 0 + none) e (s.within (k - one) (omega arith))
        ∙ ap (λ (v : ℕ). v + none) (q.after (base + k) (omega arith) ∙ p.before (base + k) (omega arith))

-- ---- a key of j + 3 bits: 2 ^ j is the start two days before day j

pow_one : (j : ℕ) → 2 ^ (j + 1) ≡ 2 * 2 ^ j
pow_one j = omega (arith, pow-add 2 j 1)

pow_two : (j : ℕ) → 2 ^ (j + 2) ≡ 4 * 2 ^ j
pow_two j = omega (arith, pow-add 2 j 2)

-- a number below 2 ^ j has no bit from j on
key_open : (k j e : ℕ) → k < 2 ^ j → j ≤ e → has k e ≡ false
key_open k j e h l = ap (λ (x : ℕ). eqb x 1) (bit_above j k e h l)

-- a number from 1 to 3 has one of two bits
two_bits : (q : ℕ) → 1 ≤ q → q < 4 → (eqb (q / 2 % 2) 1 || eqb (q % 2) 1) ≡ true
two_bits zero h l = absurd (omega arith)
two_bits (suc zero) h l = refl
two_bits (suc (suc zero)) h l = refl
two_bits (suc (suc (suc zero))) h l = refl
two_bits (suc (suc (suc (suc q)))) h l = absurd (omega arith)

-- one of the bits j and j + 1
key_none : (k j : ℕ) → 2 ^ j ≤ k → k < 4 * 2 ^ j → (has k (j + 1) || has k j) ≡ true
key_none k j h l =
    ap (λ (x : ℕ). eqb (x % 2) 1 || has k j) (sym (shr-shr k j 1))
    ∙ two_bits (k / 2 ^ j) ((le-div_iff_mul-le (pow_pos j)).1 (omega arith)) ((div-lt_iff_lt-mul (pow_pos j)).1 (omega arith))

-- with 4 * 2 ^ j more: bit j + 2
key_night : (k j : ℕ) → k < 4 * 2 ^ j → has (4 * 2 ^ j + k) (j + 2) ≡ true
key_night k j h =
    let e : 4 * 2 ^ j + k ≡ 1 * 2 ^ (j + 2) + k = omega (arith, pow_two j) in
    ap (λ (x : ℕ). has x (j + 2)) e ∙ ap (λ (x : ℕ). eqb (x % 2) 1) (high 1 (j + 2) (omega (arith, pow_two j)))

-- and the same bits below it
key_rest : (k j e : ℕ) → k < 4 * 2 ^ j → e < j + 2 → has (4 * 2 ^ j + k) e ≡ has k e
key_rest k j e h l =
    let q : 4 * 2 ^ j + k ≡ 1 * 2 ^ (j + 2) + k = omega (arith, pow_two j) in
    ap (λ (x : ℕ). eqb x 1) (sym (low_digit (4 * 2 ^ j + k) (j + 2) e l))
    ∙ ap (λ (x : ℕ). has x e) (ap (λ (x : ℕ). x % 2 ^ (j + 2)) q ∙ low 1 (j + 2) (omega (arith, pow_two j)))

-- ---- six days

key_most : (c : List ℕ) (b key j : ℕ) → Low c 371200 → key_at c b key j ≤ 371200
unfolding key_at
key_most c b key j s = go (has key (j + 2)) (has key (j + 1) || has key j)
  where
    d : ℕ
    d = 6 * b + j

    go : (p q : Bool) → cond p (night_on c d) (cond q (none_on c d) (open_on c d)) ≤ 371200
    go true q = s.low d
    go false true = s.low (72 + d)
    go false false = s.low (36 + d)

-- what a day adds, by its key
module _ (c : List ℕ) (b k j : ℕ) where
  day_open : k < 2 ^ j → key_at c b k j ≡ open_on c (6 * b + j)
  unfolding key_at
  day_open h = rw (key_open k j (j + 2) h (omega arith), key_open k j (j + 1) h (omega arith), key_open k j j h (omega arith))

  day_none : 2 ^ j ≤ k → k < 4 * 2 ^ j → key_at c b k j ≡ none_on c (6 * b + j)
  unfolding key_at
  day_none h l =
      let q : k < 2 ^ (j + 2) = omega (arith, pow_two j) in
      rw (key_open k (j + 2) (j + 2) q (omega arith), key_none k j h l)

  day_night : k < 4 * 2 ^ j → key_at c b (4 * 2 ^ j + k) j ≡ night_on c (6 * b + j)
  unfolding key_at
  day_night h = rw (key_night k j h)

  -- the days before it are those of the lower bits
  day_before : (i : ℕ) → k < 4 * 2 ^ j → i < j → key_at c b (4 * 2 ^ j + k) i ≡ key_at c b k i
  unfolding key_at
  day_before i h l = rw (key_rest k j (i + 2) h (omega arith), key_rest k j (i + 1) h (omega arith), key_rest k j i h (omega arith))

-- the days before day j are summed up, for every key of their bits
abbrev SumsTo : List ℕ → ℕ → List ℕ → ℕ → Type 0
SumsTo c b t j = (key : ℕ) → key < 4 * 2 ^ j → get_or t (256 * b + key) 0 ≡ sum_to j (key_at c b key)

-- day j more
abbrev OneMore : List ℕ → ℕ → List ℕ → List ℕ → ℕ → ℕ → Type 0
OneMore c b r s one j = Extended r s (256 * b) one (night_on c (6 * b + j)) (open_on c (6 * b + j)) (none_on c (6 * b + j))

sums_more : (c r s : List ℕ) (b j : ℕ) → SumsTo c b r j → OneMore c b r s (2 ^ j) j → SumsTo c b s (j + 1)
sums_more c r s b j p x key h = go (dec_lt key (2 ^ j)) (dec_lt key (4 * 2 ^ j))
  where
    one_day : (k : ℕ) {a v y : ℕ} → a ≡ v + y → v ≡ sum_to j (key_at c b k) → key_at c b k j ≡ y → a ≡ sum_to (j + 1) (key_at c b k)
    one_day k e f g = omega (arith, sum_suc j (key_at c b k))

    go : Dec (key < 2 ^ j) → Dec (key < 4 * 2 ^ j) → get_or s (256 * b + key) 0 ≡ sum_to (j + 1) (key_at c b key)
    go (yes l) m = one_day key (x.open_places key l) (p key (omega arith)) (day_open c b key j l)
    go (no l) (yes m) = one_day key (x.none_places key (omega arith) m) (p key m) (day_none c b key j (omega arith) m)
    go (no l) (no m) =
        let k = key - 4 * 2 ^ j in
        let low : k < 4 * 2 ^ j = omega (arith, pow_one j) in
        let e : 4 * 2 ^ j + k ≡ key = omega arith in
        let f : 256 * b + 4 * 2 ^ j + k ≡ 256 * b + key = omega arith in
        subst (λ (y : ℕ). get_or s y 0 ≡ sum_to (j + 1) (key_at c b key)) f
        (subst (λ (y : ℕ). get_or s (256 * b + 4 * 2 ^ j + k) 0 ≡ sum_to (j + 1) (key_at c b y)) e
        (one_day (4 * 2 ^ j + k) (x.night_places k low) (p k low ∙ sum_ext j (key_at c b k) (key_at c b (4 * 2 ^ j + k)) (λ i q. sym (day_before c b k j i low q))) (day_night c b k j low)))

-- before day j
pub record SixTo (c : List ℕ) (b : ℕ) (l r : List ℕ) (j : ℕ) : Type 0 where
  pub long : length r ≡ 1536
  pub sums : SumsTo c b r j
  pub small : Low r 2227200
  pub before : (e : ℕ) → e < 256 * b → get_or r e 0 ≡ get_or l e 0
  pub after : (e : ℕ) → 256 * b + 256 ≤ e → get_or r e 0 ≡ get_or l e 0

pub six_start : (c l r : List ℕ) (b : ℕ) → length l ≡ 1536 → Low l 2227200 → Cleared l r (256 * b) (256 * b + 4) → SixTo c b r r 0
six_start c l r b h s p = record {
  long = p.long ∙ h;
  sums = λ key q. p.within (256 * b + key) (omega arith) (omega arith) ∙ sym (sum_zero (key_at c b key));
  small = low_parts r (256 * b) 4 2227200
      (λ e q. omega (arith, s.low e, p.before e q))
      (λ y q. omega (arith, p.within (256 * b + y) (omega arith) (omega arith)))
      (λ e q. omega (arith, s.low e, p.after e q));
  before = λ e q. refl;
  after = λ e q. refl;
}

-- so that the places of one day more are there
pub one_most : (j : ℕ) → j < 6 → 2 ^ j ≤ 32
one_most j h =
    let q : j ≤ 5 = omega arith in
    pow_mono q

-- the bit of the start two days before day j
pub one_is : (j : ℕ) → j < 6 → 1 * 2 ^ j % 18446744073709551616 ≡ 2 ^ j
one_is j h = ap (λ (x : ℕ). x % 18446744073709551616) (one-mul (2 ^ j)) ∙ mod-eq_of_lt (omega (arith, one_most j h))

pub six_turn : (c l r s : List ℕ) (b j : ℕ) → Low c 371200 → SixTo c b l r j → j < 6 → OneMore c b r s (1 * 2 ^ j % 18446744073709551616) j → SixTo c b l s (j + 1)
six_turn c l r s b j low p h y = record {
  long = x.long ∙ p.long;
  sums = more;
  small = low_parts s (256 * b) (8 * 2 ^ j) 2227200
      (λ e q. omega (arith, p.small.low e, x.before e q))
      (λ y q. omega (arith, more y (omega (arith, pow_one j)), sum_le (j + 1) 371200 (key_at c b y) (λ i k. key_most c b y i low)))
      (λ e q. omega (arith, p.small.low e, x.after e q));
  before = λ e q. x.before e q ∙ p.before e q;
  after = λ e q. x.after e (omega (arith, one_most j h)) ∙ p.after e q;
}
  where
    x : OneMore c b r s (2 ^ j) j
    x = subst (λ (o : ℕ). OneMore c b r s o j) (one_is j h) y

    more : SumsTo c b s (j + 1)
    more = sums_more c r s b j p.sums x

pub six_end : (c l m r : List ℕ) (b : ℕ) {j : ℕ} → length l ≡ 1536 → Cleared l m (256 * b) (256 * b + 4) → SixTo c b m r j → j ≡ 6 → SixSummed c b l r
unfolding six_at
six_end c l m r b {j} h p q e =
    let sums : SumsTo c b r 6 = subst (λ (i : ℕ). SumsTo c b r i) e q.sums in
    record {
      long = q.long ∙ sym h;
      sums = sums;
      small = q.small;
      before = λ d g. q.before d g ∙ p.before d g;
      after = λ d g. q.after d g ∙ p.after d (omega arith);
    }

-- ---- the table of a month

-- past the month nothing is added
six_past : (c : List ℕ) (n b key : ℕ) → Small c n → n ≤ 6 * b → b < 6 → six_at c b key ≡ 0
unfolding six_at key_at
six_past c n b key s h k = sum_none 6 (key_at c b key) (λ j q. go j (has key (j + 2)) (has key (j + 1) || has key j) (s.past (6 * b + j) (omega arith) (omega arith)))
  where
    go : (j : ℕ) (p q : Bool) → let d = 6 * b + j in (night_on c d ≡ 0) × (open_on c d ≡ 0) × (none_on c d ≡ 0) → cond p (night_on c d) (cond q (none_on c d) (open_on c d)) ≡ 0
    go j true q z = z.0
    go j false true z = z.2
    go j false false z = z.1

-- the sixes before b are summed up
pub record FilledTo (c : List ℕ) (n : ℕ) (t : List ℕ) (b : ℕ) : Type 0 where
  pub turns : b ≤ (n + 5) / 6
  pub long : length t ≡ 1536
  pub small : Low t 2227200
  pub done : (a : ℕ) → a < b → Sums c a t

pub fill_start : (c : List ℕ) (n : ℕ) (t : List ℕ) → length t ≡ 1536 → Low t 2227200 → FilledTo c n t 0
fill_start c n t h s = record { turns = omega arith; long = h; small = s; done = λ a q. absurd (not-suc-le-zero q) }

pub fill_turn : (c : List ℕ) (n : ℕ) (t r : List ℕ) (b : ℕ) → FilledTo c n t b → b < (n + 5) / 6 → SixSummed c b t r → FilledTo c n r (b + 1)
fill_turn c n t r b p h x = record {
  turns = omega arith;
  long = x.long ∙ p.long;
  small = x.small;
  done = λ a q. ⊎_elim (λ s. subst (λ (k : ℕ). Sums c k r) (sym s) x.sums) (λ s. earlier a s) (eq-or-lt_of_le (le_of_suc-le-suc (rw add-one at q)));
}
  where
    earlier : (a : ℕ) → a < b → Sums c a r
    earlier a q key l = x.before (256 * a + key) (omega arith) ∙ p.done a q key l

-- and the places past them are 0
pub fill_end : (c : List ℕ) (n : ℕ) (t r : List ℕ) {b k : ℕ} → FilledTo c n t b → k ≡ (n + 5) / 6 → k ≤ b → Cleared t r (256 * k) 1536 → Small c n → TableOf c n r
fill_end c n t r {b} {k} p e m x s = record {
  trials = table_trial_lem c r n s (λ a q. every a q (dec_lt a k));
  blank = record {
    long = x.long ∙ p.long;
    small = record { low = λ d. low d (dec_lt d (256 * k)) };
    past = λ d q. none d (omega arith) (dec_lt d 1536);
  };
}
  where
    none : (d : ℕ) → 256 * k ≤ d → Dec (d < 1536) → get_or r d 0 ≡ 0
    none d h (yes l) = x.within d h l
    none d h (no l) = get_or_past r d 0 (omega (arith, x.long, p.long))

    low : (d : ℕ) → Dec (d < 256 * k) → get_or r d 0 ≤ 2227200
    low d (yes l) = omega (arith, p.small.low d, x.before d l)
    low d (no l) = omega (arith, none d (omega arith) (dec_lt d 1536))

    every : (a : ℕ) → a < 6 → Dec (a < k) → Sums c a r
    every a q (yes l) key h = x.before (256 * a + key) (omega arith) ∙ p.done a (omega arith) key h
    every a q (no l) key h = x.within (256 * a + key) (omega arith) (omega arith) ∙ sym (six_past c n a key s (omega arith) q)

-- a table of one number
pub same_low : (k v m : ℕ) → v ≤ m → Low (replicate k v) m
same_low k v m h = record { low = each k }
  where
    each : (k e : ℕ) → get_or (replicate {A = ℕ} k v) e 0 ≤ m
    each zero e = omega arith
    each (suc k) zero = h
    each (suc k) (suc e) = each k e

-- a table of zeros
pub zeros_blank : (n : ℕ) → Blank (replicate 1536 0) n
zeros_blank n = record { long = refl; small = same_low 1536 0 2227200 (omega arith); past = λ e q. omega (arith, (same_low 1536 0 0 (omega arith)).low e) }
