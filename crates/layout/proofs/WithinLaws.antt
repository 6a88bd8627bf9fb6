-- What a ward's numbers come to at most, by any measure of its fields: 4,107 numbers where each counts 1; proofs/LongestLaws counts bytes.
use Rattle.std.specs.Prelude.{ℕ, zero, suc, ◌+◌, ◌-◌, ◌*◌, ◌^◌, ◌≤◌, ◌<◌, Bool, true, false, cond, ltb}
use Rattle.std.proofs.Common.{le_refl, le_trans, mul-le-mul_right, arith, lit<, pow_mono}
use Rattle.std.specs.declared.option.Option.TheVariants.{Some}
use Rattle.layout.specs.declared.Field.{Field}
use Rattle.layout.specs.declared.Head.{Head}
use Rattle.layout.specs.Grammar.{Grammar, done, number}
use Rattle.layout.specs.CodeWant.{SmallField, Within}
use Rattle.layout.specs.Layout.{range, one, pair, repeat, duties, since, pairs, two, bounds, day, group, mark, nurse, rules, sizes, body, first, ward}
use Rattle.layout.proofs.PairLaws.{pairs_few}

-- numbers below 2 ^ 49 that come to at most N, where a number of a field up to m counts `size m`
pub data WithinBy (size : ℕ → ℕ) : ℕ → Grammar → Type 0 where
  no_more : {N : ℕ} → WithinBy size N done
  and_then : {f : Field} {k : ℕ → Grammar} {n N : ℕ} → SmallField (Some f) → n + size f.most ≤ N
      → ((v : ℕ) → f.least ≤ v → v ≤ f.most → WithinBy size n (k v)) → WithinBy size N (number f k)

-- a field whose least and most fit one byte
abbrev OneByte : Field → Type 0
OneByte f = (f.least < 128) × (f.most < 128)

-- a number that fits one byte counts 1, and one of more bytes at most `big`
module _ (size : ℕ → ℕ) (big : ℕ) (one_byte : (m : ℕ) → m < 128 → size m ≤ 1) (more_bytes : (m : ℕ) → size m ≤ big) where
  at_most : {g : Grammar} {n N : ℕ} → n ≤ N → WithinBy size n g → WithinBy size N g
  at_most h no_more = no_more
  at_most h (and_then s r on) = and_then s (le_trans r h) on

  by_field : {f : Field} {k : ℕ → Grammar} {n s : ℕ} → SmallField (Some f) → size f.most ≤ s
      → ((v : ℕ) → f.least ≤ v → v ≤ f.most → WithinBy size n (k v)) → WithinBy size (n + s) (number f k)
  by_field {f} {n} {s} small h on = and_then {f = f} {n = n} {N = n + s} small (omega arith) on

  by_number : {f : Field} {k : ℕ → Grammar} {n : ℕ} → OneByte f
      → ((v : ℕ) → f.least ≤ v → v ≤ f.most → WithinBy size n (k v)) → WithinBy size (n + 1) (number f k)
  by_number {f} h on = by_field (omega arith, omega arith) (one_byte f.most h.1) on

  by_one : {f : Field} {g : Grammar} {n : ℕ} → OneByte f → WithinBy size n g → WithinBy size (n + 1) (one f g)
  by_one s w = by_number s (λ v _ _. w)

  by_pair : {hi : ℕ} {g : Grammar} {n : ℕ} → hi < 128 → WithinBy size n g → WithinBy size (n + 2) (pair hi g)
  by_pair s w = at_most (omega arith) (by_number (lit< tt, s) (λ v _ top. by_one (omega arith, s) w))

  by_duties : (k d : ℕ) {g : Grammar} {n : ℕ} → WithinBy size n g → WithinBy size (n + k) (duties k d g)
  by_duties zero d w = at_most (omega arith) w
  by_duties (suc k) d w = at_most (omega arith) (by_number (lit< tt, lit< tt) (λ v _ _. by_duties k v w))

  module _ (body : Grammar → Grammar) (s : ℕ) (step : (g : Grammar) (n : ℕ) → WithinBy size n g → WithinBy size (n + s) (body g)) where
    by_times : (k : ℕ) {g : Grammar} {n : ℕ} → WithinBy size n g → WithinBy size (n + k * s) (repeat k body g)
    by_times zero w = at_most (omega arith) w
    by_times (suc k) w = at_most (omega arith) (step _ _ (by_times k w))

    by_repeat : {k K : ℕ} {g : Grammar} {n : ℕ} → k ≤ K → WithinBy size n g → WithinBy size (n + K * s) (repeat k body g)
    by_repeat {k} {K} h w = at_most (omega (arith, mul-le-mul_right s h)) (by_times k w)

  by_bounds : (g : Grammar) (n : ℕ) → WithinBy size n g → WithinBy size (n + 4) (bounds g)
  by_bounds g n w = at_most (omega arith) (by_pair (lit< tt) (by_pair (lit< tt) w))

  by_day : {r : ℕ} → r ≤ 16 → (g : Grammar) (n : ℕ) → WithinBy size n g → WithinBy size (n + 66) (day r g)
  by_day h g n w = at_most (omega arith) (by_one (lit< tt, lit< tt) (by_one (lit< tt, lit< tt) (by_repeat bounds 4 by_bounds h w)))

  by_nurse : {d : ℕ} → d ≤ 31 → (g : Grammar) (n : ℕ) → WithinBy size n g → WithinBy size (n + 42) (nurse d g)
  by_nurse h g n w =
      at_most (omega arith)
      (by_number (lit< tt, lit< tt) (λ v _ _. by_duties 6 v
      (by_pair (lit< tt) (by_pair (lit< tt)
      (by_repeat mark 1 (λ _ _. by_one (lit< tt, lit< tt)) h w)))))

  by_group : {m : ℕ} → m ≤ 48 → (g : Grammar) (n : ℕ) → WithinBy size n g → WithinBy size (n + big) (group m g)
  by_group {m} h g n w = let q : 2 ^ m ≤ 2 ^ 48 = pow_mono h in by_field (lit< tt, omega arith) (more_bytes (2 ^ m - 1)) (λ v _ _. w)

  module _ (h : Head) (hm : h.m ≤ 48) (hn : h.n ≤ 31) (hr : h.r ≤ 16) where
    by_pairs : (k before : ℕ) → before < 31 → WithinBy size k (pairs h k before)
    by_pairs zero before l = no_more
    by_pairs (suc k) before l = at_most (omega arith) (by_number (omega arith, omega arith) (λ d _ top. by_pairs k d (omega arith)))

    by_since : {g : Grammar} {n : ℕ} (from : ℕ) → WithinBy size n g → WithinBy size n (since from h g)
    by_since {g} {n} from w = go (ltb h.edition from)
      where
        go : (b : Bool) → WithinBy size n (cond b done g)
        go true = no_more
        go false = w

    by_two : WithinBy size 11 (two h)
    by_two =
        by_since 2
        (by_number {n = 10} (lit< tt, omega (arith, pairs_few h.n)) (λ k _ top. at_most (omega (arith, pairs_few h.n)) (by_pairs k 0 (lit< tt))))

    by_rules : WithinBy size (4086 + 16 * big) (rules h)
    by_rules =
        at_most (omega arith)
        (by_one (lit< tt, lit< tt) (by_one (lit< tt, lit< tt)
        (by_repeat (one (range 1 5)) 1 (λ _ _. by_one (lit< tt, lit< tt)) (le_refl 3)
        (by_one (lit< tt, lit< tt) (by_one (lit< tt, lit< tt)
        (by_repeat (one (range 1 100)) 1 (λ _ _. by_one (lit< tt, lit< tt)) (le_refl 6)
        (by_repeat (nurse h.n) 42 (by_nurse hn) hm
        (by_repeat (group h.m) big (by_group hm) hr
        (by_repeat (day h.r) 66 (by_day hr) hn by_two)))))))))

  by_sizes : {m : ℕ} (e : ℕ) → m ≤ 48 → WithinBy size (4088 + 16 * big) (sizes e m)
  by_sizes {m} e hm =
      at_most (omega arith)
      (by_number (lit< tt, lit< tt) (λ n _ hn. by_number (lit< tt, lit< tt) (λ r _ hr.
      by_rules (record { m = m; n = n; r = r; edition = e }) hm hn hr)))

  by_body : (e : ℕ) → WithinBy size (4089 + 16 * big) (body e)
  by_body e = at_most (omega arith) (by_number (lit< tt, lit< tt) (λ m _ hm. by_sizes e hm))

  by_first : (m : ℕ) → m ≤ 48 → WithinBy size (4090 + 16 * big) (first m)
  by_first zero h = at_most (omega arith) (by_number (lit< tt, lit< tt) (λ e _ _. by_body e))
  by_first (suc m) h = at_most (omega arith) (by_sizes 1 h)

  -- all but the groups' members fit one byte
  pub ward_by : WithinBy size (4091 + 16 * big) ward
  unfolding ward
  ward_by = at_most (omega arith) (by_number (lit< tt, lit< tt) (λ m _ hm. by_first m hm))

counted : {n : ℕ} {g : Grammar} → WithinBy (λ _. 1) n g → (N : ℕ) → n ≤ N → Within N g
counted no_more N h = tt
counted (and_then s r on) zero h = absurd (omega arith)
counted (and_then s r on) (suc N) h = (s, λ v lo hi. counted (on v lo hi) N (omega arith))

-- whatever room there is for a ward's numbers, if it is enough
pub within_ward : (N : ℕ) → 4107 ≤ N → Within N ward
within_ward N h = counted (ward_by (λ _. 1) 1 (λ m s. le_refl 1) (λ m. le_refl 1)) N h
