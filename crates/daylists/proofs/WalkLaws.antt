-- Laws of the table and of the walk: what each function of the code has in hand is what the model says.
use Rattle.std.specs.Prelude.{◌≡◌, refl, Bool, true, false, cond, List, [], ◌∷◌, ◌++◌, ℕ, zero, suc, ◌+◌, ◌-◌, ◌*◌, ◌/◌, ◌%◌, ◌^◌, ◌≤◌, ◌<◌, min, bit_or, length, get_or, set, take, drop}
use Rattle.std.proofs.Common.{sym, ap, ap₂, ◌∙◌, subst, div-one, sub-one, arith, lt-ltb, shl_exact, one-mul, length-set, take-suc-set, add-one, append_assoc, add-zero, zero-add, get_or-set_same, get_or-set_other}
use Rattle.std.proofs.lemmas.List.{drop-set-lt, take-append-drop}
use Rattle.std.proofs.lemmas.Nat.{shl-shr}
use Rattle.std.proofs.Math.Decide.{dec_lt}
use Rattle.std.proofs.Math.Nat.{zero-div}
use Rattle.fields.specs.Sizes.{day_places}
use Rattle.numbers.specs.Range.{up_from, all}
use Rattle.numbers.specs.Sum.{one_if}
use Rattle.numbers.specs.Digits.{bit, has, number_of}
use Rattle.numbers.proofs.DigitLaws.{bit_lt, bit_is, number_has}
use Rattle.numbers.proofs.HalfLaws.{pow_half, low_half, high_half}
use Rattle.days.specs.Days.{is_rest, windows_hold}
use Rattle.days.specs.CodeMonth.{duty_at, rest_on}
use Rattle.daylists.specs.CodeWalk.{Filled, Idle, Inside, may_choose, step_holds, first_hold, branch, reach, onward, opens, walked, PutFrom}
use Rattle.days.specs.declared.month.Month.{Month}
use Rattle.daylists.proofs.LocalLaws.{choice_next, choice_few, choice_many, rest_low, rest_high}

-- ---- how many choices of n days there are, up to 64

module _ (n : ℕ) (few : n ≤ day_places) {top : ℕ} (e : top ≡ min ((1 * 2 ^ n) % 2 ^ 64) 64) where
  pub top_is : top ≡ min (2 ^ n) 64
  top_is = omega (arith, e, shl_exact {a = 1} 1 n 64 (omega arith) (omega arith))

  module _ {s : ℕ} (h : s < top) where
    pub choice_small : s < 64
    choice_small = omega arith

    pub choice_inside : s < 2 ^ n
    choice_inside = omega (arith, top_is)

module _ (m : Month) (row : List ℕ) where
  -- ---- one day

  module _ (d q : ℕ) where
    pub step_late : m.days < d + 7 → true ≡ step_holds m row d q
    unfolding step_holds
    step_late h = rw (lt-ltb m.days (d + 7) h)

  -- ---- the table

  module _ (s : ℕ) {k : ℕ} {v : Bool} (e : k ≡ min 6 m.days) (g : v ≡ all (may_choose m s) (up_from 0 k)) where
    pub first_windows : {x : Bool} → v ≡ true → x ≡ all (windows_hold (duty_at row s) m.longest) (up_from 7 k) → x ≡ first_hold m row s
    unfolding first_hold
    first_windows y h = rw (← e, ← g, y) h

    pub first_no_lem : v ≡ false → false ≡ first_hold m row s
    unfolding first_hold
    first_no_lem y = rw (← e, ← g, y)

  module _ (s : ℕ) {x : Bool} (g : x ≡ first_hold m row s) where
    pub reach_base : x ≡ true → m.within ≡ reach m row 0 s
    unfolding reach
    reach_base y = rw (← g, y)

    pub reach_none : x ≡ false → 0 ≡ reach m row 0 s
    unfolding reach
    reach_none y = rw (← g, y)

  module _ (d x found : ℕ) where
    kept_onward : (s : ℕ) {v : ℕ} → x % 64 ≡ s → found ≡ reach m row d s → v ≡ cond (step_holds m row d (x * 2 ^ d)) found 0 → v ≡ onward m row d x
    unfolding onward
    kept_onward s e f k = rw (e, ← f) k

  -- the branch that day d, chosen as in x, takes
  branch_onward : (d x q r : ℕ) → q ≡ x * 2 ^ d → rest_on row q d ≡ r → branch m row (λ y. reach m row d y) d q ≡ onward m row d x / 2 ^ r
  unfolding branch onward
  branch_onward d x q r e g = rw (g, e, shl-shr x d) (moved (step_holds m row d (x * 2 ^ d)))
    where
      moved : (b : Bool) → cond b (reach m row d (x % 64) / 2 ^ r) 0 ≡ cond b (reach m row d (x % 64)) 0 / 2 ^ r
      moved true = refl
      moved false = sym (zero-div (2 ^ r))

  module _ (ways : List ℕ) where
    pub filled_less : (k j : ℕ) → Filled m row ways k → j ≤ k → Filled m row ways j
    filled_less k j f l = record { entry = λ d x h g i. f.entry d x h g (omega arith) }

    -- one choice of six days more, without the seventh and with it
    pub filled_turn : (d s : ℕ) {found v u : ℕ} → s < 64 → Filled m row ways (64 * d + s) → 128 * d + s + 64 < length ways → found ≡ reach m row d s
        → v ≡ cond (step_holds m row d (s * 2 ^ d)) found 0 → u ≡ cond (step_holds m row d ((s + 64) * 2 ^ d)) found 0
        → Filled m row (set (set ways (128 * d + s) v) (128 * d + s + 64) u) (64 * d + s + 1)
    filled_turn d s {found} {v} {u} l f h e g k = record { entry = λ b x i j n. at b x i j n (dec_lt (64 * b + x % 64) (64 * d + s)) (dec_lt x 64) }
      where
        at : (b x : ℕ) → x < 128 → x < 2 ^ (m.days - b) → 64 * b + x % 64 < 64 * d + s + 1 → Dec (64 * b + x % 64 < 64 * d + s) → Dec (x < 64)
            → get_or (set (set ways (128 * d + s) v) (128 * d + s + 64) u) (128 * b + x) 0 ≡ onward m row b x
        at b x i j n (yes q) r =
            get_or-set_other (set ways (128 * d + s) v) (128 * d + s + 64) (128 * b + x) u 0 (λ z. absurd (omega arith))
            ∙ get_or-set_other ways (128 * d + s) (128 * b + x) v 0 (λ z. absurd (omega arith)) ∙ f.entry b x i j q
        at b x i j n (no q) (yes r) =
            let day : b ≡ d = omega arith in
            let six : x ≡ s = omega arith in
            rw (day, six)
            (get_or-set_other (set ways (128 * d + s) v) (128 * d + s + 64) (128 * d + s) u 0 (λ z. absurd (omega arith))
            ∙ get_or-set_same ways (128 * d + s) v 0 (omega arith) ∙ kept_onward d s found s (omega arith) e g)
        at b x i j n (no q) (no r) =
            let day : b ≡ d = omega arith in
            let seven : x ≡ s + 64 = omega arith in
            let place : 128 * d + (s + 64) ≡ 128 * d + s + 64 = omega arith in
            rw (day, seven, place)
            (get_or-set_same (set ways (128 * d + s) v) (128 * d + s + 64) u 0 (simp length-set h) ∙ kept_onward d (s + 64) found s (omega arith) e k)

    filled_day : (d s : ℕ) → m.days < d + 7 → 2 ^ (m.days - d) ≤ s → Filled m row ways (64 * d + s) → Filled m row ways (64 * d + 64)
    filled_day d s late l f = record { entry = λ b x i j n. at b x i j n (dec_lt (64 * b + x % 64) (64 * d + s)) }
      where
        at : (b x : ℕ) → x < 128 → x < 2 ^ (m.days - b) → 64 * b + x % 64 < 64 * d + 64 → Dec (64 * b + x % 64 < 64 * d + s) → get_or ways (128 * b + x) 0 ≡ onward m row b x
        at b x i j n (yes q) = f.entry b x i j q
        at b x i j n (no q) =
            let few : 2 ^ (m.days - d) ≤ 64 = choice_few m.days d late in
            let day : b ≡ d = omega arith in
            let in_month : x < 2 ^ (m.days - d) = subst (λ (k : ℕ). x < 2 ^ (m.days - k)) day j in
            absurd (omega arith)

    -- all choices of the day are done
    pub filled_end : (d s : ℕ) {top : ℕ} → top ≡ min (2 ^ (m.days - d)) 64 → top ≤ s → Filled m row ways (64 * d + s) → Filled m row ways (64 * d + 64)
    filled_end d s e l f = go (dec_lt m.days (d + 7))
      where
        go : Dec (m.days < d + 7) → Filled m row ways (64 * d + 64)
        go (yes h) = filled_day d s h (omega (arith, choice_few m.days d h)) f
        go (no h) = filled_less (64 * d + s) (64 * d + 64) f (omega (arith, choice_many m.days d (omega arith)))

    reach_next : (d s : ℕ) {rest : ℕ} → suc d ≤ m.days → s < 64 → s < 2 ^ (m.days - suc d) → Filled m row ways (64 * suc d) → rest ≡ rest_on row 0 d
        → bit_or (get_or ways (128 * d + 2 * s) 0 / 2 ^ rest) (get_or ways (128 * d + 2 * s + 1) 0) ≡ reach m row (suc d) s
    unfolding reach
    reach_next d s i l h f e =
        let low : 128 * d + 2 * s ≡ 128 * d + s * 2 = omega arith in
        let high : 128 * d + 2 * s + 1 ≡ 128 * d + (s * 2 + 1) = omega arith in
        let more : s * 2 + 1 < 2 ^ (m.days - d) = choice_next m.days d s i h in
        ap₂ bit_or
        (ap₂ (λ (x y : ℕ). x / 2 ^ y) (ap (λ (k : ℕ). get_or ways k 0) low ∙ f.entry d (s * 2) (omega arith) (omega arith) (omega arith)) e
        ∙ sym (branch_onward d (s * 2) (s * 2 ^ suc d) (rest_on row 0 d) (low_half d s) (rest_low row s d)))
        (ap (λ (k : ℕ). get_or ways k 0) high ∙ f.entry d (s * 2 + 1) (omega arith) more (omega arith)
        ∙ sym (branch_onward d (s * 2 + 1) (s * 2 ^ suc d + 2 ^ d) 0 (high_half d s) (rest_high row s d) ∙ div-one (onward m row d (s * 2 + 1))))

    -- a place's counts by those of the day before, without it and with it
    pub reach_node : (d s : ℕ) {rest : ℕ} → 0 < d → d ≤ m.days → s < 64 → s < 2 ^ (m.days - d) → Filled m row ways (64 * d) → rest ≡ rest_on row 0 (d - 1)
        → bit_or (get_or ways (128 * (d - 1) + 2 * s) 0 / 2 ^ rest) (get_or ways (128 * (d - 1) + 2 * s + 1) 0) ≡ reach m row d s
    reach_node zero s f i l h g e = absurd (omega arith)
    reach_node (suc d) s f i l h g e = rw (sub-one (suc d)) (reach_next d s i l h g (rw (sub-one (suc d)) at e))

-- ---- the days of rest

abbrev pub resting : List ℕ → ℕ → Bool
resting row d = is_rest (duty_at row 0 (d + 7))

pub idle_is : (row : List ℕ) (n idle : ℕ) → idle ≡ number_of (resting row) n → Idle row n idle
unfolding rest_on
idle_is row n idle e = record {
  rest = λ d l.
      let h : has idle d ≡ resting row d = rw e (number_has (resting row) n d l) in
      bit_is idle d ∙ ap one_if h;
}

-- ---- the walk

module _ (ways : List ℕ) (idle : ℕ) where
  pub leaf_lists : (left a r : ℕ) {v : Bool} → v ≡ opens ways left a r → v ≡ true → left ≡ 0 → walked ways idle left a r ≡ a ∷ []
  unfolding walked
  leaf_lists left a r e y z = let g : opens ways 0 a r ≡ true = ap (λ (k : ℕ). opens ways k a r) (sym z) ∙ sym e ∙ y in rw (z, g)

  -- nothing is listed where the walk does not go on
  pub stop_lists : (left a r : ℕ) {v : Bool} → v ≡ opens ways left a r → v ≡ false → walked ways idle left a r ≡ []
  unfolding walked
  stop_lists zero a r e y = rw (← e, y)
  stop_lists (suc d) a r e y = rw (← e, y)

  node_is : (left a r : ℕ) → (left ≡ 0 → ⊥) → walked ways idle left a r
      ≡ cond (opens ways left a r) (walked ways idle (left - 1) a (r + bit idle (left - 1)) ++ walked ways idle (left - 1) (a + 2 ^ (left - 1)) r) []
  unfolding walked
  node_is zero a r f = absurd (f refl)
  node_is (suc d) a r f = rw (sub-one (suc d))

-- The walk goes on, and a day is left to decide.
pub record Node (ways : List ℕ) (left a r : ℕ) : Type 0 where
  pub goes : opens ways left a r ≡ true
  pub more : left ≡ 0 → ⊥

pub node_yes : {ways : List ℕ} {left a r : ℕ} {v : Bool} → v ≡ opens ways left a r → v ≡ true → (left ≡ 0 → ⊥) → Node ways left a r
node_yes e y f = record { goes = sym e ∙ y; more = f }

-- the number of the day decided next, as the code shifts it
pub day_bit : {left a r : ℕ} → Inside left a r → (1 * 2 ^ (left - 1)) % 2 ^ 64 ≡ 2 ^ (left - 1)
day_bit {left} inside = shl_exact {a = 1} 1 (left - 1) 64 (omega arith) (omega (arith, inside.days_left)) ∙ one-mul (2 ^ (left - 1))

module _ {ways : List ℕ} {left a r : ℕ} (idle : ℕ) (n : Node ways left a r) where
  -- without the day, and with it: b is its number
  pub node_lists : {b : ℕ} → b ≡ 2 ^ (left - 1)
      → walked ways idle left a r ≡ walked ways idle (left - 1) a (r + bit idle (left - 1)) ++ walked ways idle (left - 1) (a + b) r
  node_lists e = node_is ways idle left a r n.more ∙ rw (n.goes, e)

  module _ (inside : Inside left a r) where
    pub low_inside : Inside (left - 1) a (r + bit idle (left - 1))
    low_inside = record {
      days_left = omega (arith, inside.days_left, bit_lt idle (left - 1), n.more);
      fits = omega (arith, inside.fits, pow_half left n.more);
    }

    pub high_inside : {b : ℕ} → b ≡ 2 ^ (left - 1) → Inside (left - 1) (a + b) r
    high_inside e = record {
      days_left = omega (arith, inside.days_left);
      fits = omega (arith, e, inside.fits, pow_half left n.more);
    }

-- ---- what the walk puts into a room

module _ {R : Type 0} (Put : R → ℕ → ℕ → R → Type 0) where
  pub none_put : (s : R) (i : ℕ) (L : List ℕ) → length L ≡ 0 → PutFrom Put s i L s
  unfolding PutFrom
  none_put s i [] e = refl
  none_put s i (x ∷ L) e = absurd (omega arith)

  pub one_put : (s t : R) (i x : ℕ) (L : List ℕ) → L ≡ x ∷ [] → Put s i x t → PutFrom Put s i L t
  unfolding PutFrom
  one_put s t i x L e p = rw e (t, p, refl)

  both_put : (A B : List ℕ) (s u t : R) (i j : ℕ) → PutFrom Put s i A u → j ≡ i + length A → PutFrom Put u j B t → PutFrom Put s i (A ++ B) t
  unfolding PutFrom
  both_put [] B s u t i j f e g =
      let h : j ≡ i = omega arith in
      rw (← f, ← h) g
  both_put (x ∷ A) B s u t i j f e g = (f.0, f.1, both_put A B f.0 u t (i + 1) j f.2 (omega arith) g)

  pub more_put : (L A B : List ℕ) (s u t : R) (i j : ℕ) → L ≡ A ++ B → PutFrom Put s i A u → j ≡ i + length A → PutFrom Put u j B t → PutFrom Put s i L t
  more_put L A B s u t i j w f e g = rw w (both_put A B s u t i j f e g)

-- where the room is seen as a list in which each one put is set
module _ {R : Type 0} (Put : R → ℕ → ℕ → R → Type 0) (view : R → List ℕ) (sets : (s : R) (i q : ℕ) (t : R) → Put s i q t → view t ≡ set (view s) i q) where
  written_from : (L : List ℕ) (s t : R) (i : ℕ) → PutFrom Put s i L t → i + length L ≤ length (view s)
      → view t ≡ take i (view s) ++ (L ++ drop (i + length L) (view s))
  unfolding PutFrom
  written_from [] s t i f h = rw (f, add-zero i) (sym (take-append-drop i (view s)))
  written_from (x ∷ L) s t i f h =
      let xs = view s in
      let one = sets s i x f.0 f.1 in
      let next : i + 1 + length L ≡ i + suc (length L) = omega arith in
      written_from L f.0 t (i + 1) f.2 (omega (arith, ap length one, length-set xs i x))
      ∙ rw (one, add-one i, take-suc-set xs i x (omega arith), ← add-one i, drop-set-lt (i + 1 + length L) xs i x (omega arith), next)
      (append_assoc (take i xs) (x ∷ []) (L ++ drop (i + suc (length L)) xs))

  pub written_list : (L : List ℕ) (s t : R) → PutFrom Put s 0 L t → length L ≤ length (view s) → view t ≡ L ++ drop (length L) (view s)
  written_list L s t f h = written_from L s t 0 f (omega arith) ∙ ap (λ (k : ℕ). L ++ drop k (view s)) (zero-add (length L))

-- what each one put keeps
pub written_keeps : {R N : Type 0} (Put : R → ℕ → ℕ → R → Type 0) (name : R → N) → ((s : R) (i q : ℕ) (t : R) → Put s i q t → name t ≡ name s)
    → (L : List ℕ) (s t : R) (i : ℕ) → PutFrom Put s i L t → name t ≡ name s
unfolding PutFrom
written_keeps Put name keeps [] s t i f = ap name f
written_keeps Put name keeps (x ∷ L) s t i f = written_keeps Put name keeps L f.0 t (i + 1) f.2 ∙ keeps s i x f.0 f.1
