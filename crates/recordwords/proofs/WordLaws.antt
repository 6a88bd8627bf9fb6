-- Where each field of a record stands among its words.
use Rattle.std.specs.Prelude.{ℕ, zero, suc, ◌+◌, ◌-◌, ◌*◌, ◌/◌, ◌<◌, ◌≡◌, refl, Bool, false, List, [], ◌∷◌, ◌++◌, map, length, get_or, take, drop}
use Rattle.std.proofs.Common.{sym, ap, ◌∙◌, arith, length-append, length-drop, get_or-append-add, get_or-take, get_or-drop, length-take-le, lit<}
use Rattle.std.proofs.lemmas.List.{length-map}
use Rattle.std.proofs.Math.ListN.{get_or-append, get_or-map}
use Rattle.std.specs.Simd.{first_chunks}
use Rattle.fields.specs.Sizes.{nurse_places, removal_places}
use Rattle.numbers.specs.Range.{up_from}
use Rattle.numbers.specs.Patterns.{days_of, pair_of}
use Rattle.numbers.proofs.RangeLaws.{length_range}
use Rattle.search.specs.declared.Record.{Record as Stored}
use Rattle.removals.specs.declared.Removal.{Removal as StoredRemoval}
use Rattle.removals.specs.Removals.{no_removal}
use Rattle.search.specs.Stored.{Sized}
use Rattle.search.proofs.StoredLaws.{get_or_below}
use Rattle.recordwords.specs.Words.{pairs_at, flags_at, record_words, removals_at, steps_at, pattern_at, patterns_of_words, flag_of, removal_at, record_of_words, flag_word, removal_words, words_of_record}
use Rattle.recordwords.specs.CodeWords.{removal_word, removal_from}

-- ---- read

module _ (words : List ℕ) where
  pub patterns_long : length (patterns_of_words words) ≡ nurse_places
  unfolding patterns_of_words
  patterns_long = length-map (up_from 0 nurse_places) (pattern_at words) ∙ length_range 0 nurse_places

  pub pattern_read : (i : ℕ) {c : ℕ} → i < nurse_places → c ≡ pattern_at words i → c ≡ get_or (patterns_of_words words) i 0
  unfolding patterns_of_words
  pattern_read i h e = e ∙ sym (get_or_below (pattern_at words) 0 nurse_places i h)

  pub removals_long : length (map (removal_at words) (up_from 0 removal_places)) ≡ removal_places
  removals_long = length-map (up_from 0 removal_places) (removal_at words) ∙ length_range 0 removal_places

  pub removal_read : (j : ℕ) {x : StoredRemoval} → j < removal_places → x ≡ removal_at words j → x ≡ get_or (map (removal_at words) (up_from 0 removal_places)) j no_removal
  removal_read j h e = e ∙ sym (get_or_below (removal_at words) no_removal removal_places j h)

module _ (words : List ℕ) (long : length words ≡ record_words) where
  pub flags_long : length (map flag_of (take nurse_places (drop flags_at words))) ≡ nurse_places
  flags_long = length-map (take nurse_places (drop flags_at words)) flag_of ∙ length-take-le nurse_places (drop flags_at words) (omega (arith, length-drop flags_at words))

  pub flag_read : (i : ℕ) {f : Bool} → i < nurse_places → f ≡ flag_of (get_or words (flags_at + i) 0) → f ≡ get_or (map flag_of (take nurse_places (drop flags_at words))) i false
  flag_read i h e =
      e ∙ sym (get_or-map flag_of (take nurse_places (drop flags_at words)) i 0 ∙ ap flag_of (get_or-take nurse_places (drop flags_at words) i 0 h ∙ get_or-drop flags_at words i 0))

-- word t of chunk j, where each has four
chunk_word : (k j t : ℕ) (xs d : List ℕ) → j < k → t < 4 → get_or (get_or (first_chunks 4 k xs) j d) t 0 ≡ get_or xs (j * 4 + t) 0
chunk_word zero j t xs d h l = absurd (omega arith)
chunk_word (suc k) zero t xs d h l = get_or-take 4 xs t 0 l ∙ ap (λ (i : ℕ). get_or xs i 0) (omega arith)
chunk_word (suc k) (suc j) t xs d h l =
    chunk_word k j t (drop 4 xs) d (omega arith) l ∙ get_or-drop 4 xs (j * 4 + t) 0 ∙ ap (λ (i : ℕ). get_or xs i 0) (omega arith)

module _ (words : List ℕ) (long : length words ≡ record_words) (each : List (List ℕ)) (d : List ℕ) where
  abbrev part : List ℕ
  part = take (steps_at - removals_at) (drop removals_at words)

  module _ (is : each ≡ first_chunks 4 (length part / 4) part) (j : ℕ) (h : j < removal_places) where
    many : length part / 4 ≡ removal_places
    many = ap (λ (n : ℕ). n / 4) (length-take-le (steps_at - removals_at) (drop removals_at words) (omega (arith, long, length-drop removals_at words)))

    word : (t : ℕ) → t < 4 → get_or (get_or each j d) t 0 ≡ get_or words (removals_at + j * 4 + t) 0
    word t l =
        ap (λ (e : List (List ℕ)). get_or (get_or e j d) t 0) (is ∙ ap (λ (n : ℕ). first_chunks 4 n part) many)
        ∙ chunk_word removal_places j t part d h l
        ∙ get_or-take (steps_at - removals_at) (drop removals_at words) (j * 4 + t) 0 (omega arith)
        ∙ get_or-drop removals_at words (j * 4 + t) 0
        ∙ ap (λ (i : ℕ). get_or words i 0) (omega arith)

    pub removal_taken : removal_from (get_or each j d) ≡ removal_at words j
    removal_taken =
        let first : get_or (get_or each j d) 0 0 ≡ get_or words (removals_at + j * 4) 0 = word 0 (lit< tt) ∙ ap (λ (i : ℕ). get_or words i 0) (omega arith) in
        rw (first, word 1 (lit< tt), word 2 (lit< tt), word 3 (lit< tt)) refl

-- a record read from words has its declared sizes
pub words_sized : (words : List ℕ) → length words ≡ record_words → Sized (record_of_words words)
unfolding record_of_words
words_sized words l = record { patterns_long = patterns_long words; placed_long = flags_long words l; removals_long = removals_long words }

-- ---- written

-- word t of removal q
abbrev at4 : ℕ → ℕ → ℕ
at4 zero t = t
at4 (suc q) t = suc (suc (suc (suc (at4 q t))))

at4_is : (q t : ℕ) → at4 q t ≡ q * 4 + t
at4_is zero t = omega arith
at4_is (suc q) t = let e = at4_is q t in omega arith

four : (x : StoredRemoval) (rest : List ℕ) (t : ℕ) → t < 4 → get_or (x.nurse ∷ flag_word x.has ∷ days_of x.pattern ∷ pair_of x.pattern ∷ rest) t 0 ≡ removal_word x t
four x rest zero h = refl
four x rest (suc zero) h = refl
four x rest (suc (suc zero)) h = refl
four x rest (suc (suc (suc zero))) h = refl
four x rest (suc (suc (suc (suc t)))) h = absurd (omega arith)

removal_at4 : (rs : List StoredRemoval) (q t : ℕ) → q < length rs → t < 4 → get_or (removal_words rs) (at4 q t) 0 ≡ removal_word (get_or rs q no_removal) t
removal_at4 [] q t h k = absurd (omega arith)
removal_at4 (x ∷ rs) zero t h k = four x (removal_words rs) t k
removal_at4 (x ∷ rs) (suc q) t h k = removal_at4 rs q t (omega arith) k

pub removal_words_long : (rs : List StoredRemoval) → length (removal_words rs) ≡ length rs * 4
removal_words_long [] = refl
removal_words_long (x ∷ rs) = let e = removal_words_long rs in omega arith

-- past the first of two lists
past : (n : ℕ) (xs ys : List ℕ) (j : ℕ) → length xs ≡ n → get_or (xs ++ ys) (n + j) 0 ≡ get_or ys j 0
past n xs ys j e = ap (λ (k : ℕ). get_or (xs ++ ys) (k + j) 0) (sym e) ∙ get_or-append-add xs ys j 0

-- a pattern of no days and no pair is 0
days_at : (cs : List ℕ) (i : ℕ) → get_or (map days_of cs) i 0 ≡ days_of (get_or cs i 0)
unfolding days_of
days_at cs i = get_or-map days_of cs i 0

pair_at : (cs : List ℕ) (i : ℕ) → get_or (map pair_of cs) i 0 ≡ pair_of (get_or cs i 0)
unfolding pair_of
pair_at cs i = get_or-map pair_of cs i 0

module _ (r : Stored) (z : Sized r) where
  sets : List ℕ
  sets = map days_of r.patterns

  pairs : List ℕ
  pairs = map pair_of r.patterns

  flags : List ℕ
  flags = map flag_word r.placed

  rest : List ℕ
  rest = removal_words r.removals ++ (r.steps ∷ [])

  sets_is : length sets ≡ nurse_places
  unfolding sets
  sets_is = length-map r.patterns days_of ∙ z.patterns_long

  pairs_is : length pairs ≡ nurse_places
  unfolding pairs
  pairs_is = length-map r.patterns pair_of ∙ z.patterns_long

  flags_is : length flags ≡ nurse_places
  unfolding flags
  flags_is = length-map r.placed flag_word ∙ z.placed_long

  -- past the sets of days, past the pairs, and past the flags
  past_sets : (j : ℕ) → get_or (words_of_record r) (pairs_at + j) 0 ≡ get_or (pairs ++ (flags ++ rest)) j 0
  unfolding words_of_record sets pairs flags rest
  past_sets j = past nurse_places sets (pairs ++ (flags ++ rest)) j sets_is

  past_pairs : (j : ℕ) → get_or (words_of_record r) (flags_at + j) 0 ≡ get_or (flags ++ rest) j 0
  past_pairs j =
      let q : flags_at + j ≡ pairs_at + (nurse_places + j) = omega arith in
      ap (λ (n : ℕ). get_or (words_of_record r) n 0) q ∙ past_sets (nurse_places + j) ∙ past nurse_places pairs (flags ++ rest) j pairs_is

  past_flags : (j : ℕ) → get_or (words_of_record r) (removals_at + j) 0 ≡ get_or rest j 0
  past_flags j =
      let q : removals_at + j ≡ flags_at + (nurse_places + j) = omega arith in
      ap (λ (n : ℕ). get_or (words_of_record r) n 0) q ∙ past_pairs (nurse_places + j) ∙ past nurse_places flags rest j flags_is

  -- nurse i's words
  pub days_place : (i : ℕ) → i < nurse_places → get_or (words_of_record r) i 0 ≡ days_of (get_or r.patterns i 0)
  unfolding words_of_record sets
  days_place i h = let l = sets_is in get_or-append sets _ 0 i (omega arith) ∙ days_at r.patterns i

  pub pair_place : (i : ℕ) → i < nurse_places → get_or (words_of_record r) (pairs_at + i) 0 ≡ pair_of (get_or r.patterns i 0)
  unfolding pairs
  pair_place i h = let l = pairs_is in past_sets i ∙ get_or-append pairs (flags ++ rest) 0 i (omega arith) ∙ pair_at r.patterns i

  pub flag_place : (i : ℕ) → i < nurse_places → get_or (words_of_record r) (flags_at + i) 0 ≡ flag_word (get_or r.placed i false)
  unfolding flags
  flag_place i h = let l = flags_is in past_pairs i ∙ get_or-append flags rest 0 i (omega arith) ∙ get_or-map flag_word r.placed i false

  -- word t of removal q
  pub removal_place : (q t i : ℕ) → q < removal_places → t < 4 → i ≡ removals_at + t + q * 4 → get_or (words_of_record r) i 0 ≡ removal_word (get_or r.removals q no_removal) t
  unfolding rest
  removal_place q t i h k e =
      let l = z.removals_long in
      let m = removal_words_long r.removals in
      let a = at4_is q t in
      let p : i ≡ removals_at + at4 q t = omega arith in
      ap (λ (n : ℕ). get_or (words_of_record r) n 0) p
      ∙ past_flags (at4 q t)
      ∙ get_or-append (removal_words r.removals) (r.steps ∷ []) 0 (at4 q t) (omega arith)
      ∙ removal_at4 r.removals q t (omega arith) k

  pub steps_place : get_or (words_of_record r) steps_at 0 ≡ r.steps
  unfolding rest
  steps_place =
      let l = z.removals_long in
      let m = removal_words_long r.removals in
      past_flags (removal_places * 4 + 0) ∙ past (removal_places * 4) (removal_words r.removals) (r.steps ∷ []) 0 (omega arith)

  pub words_long : length (words_of_record r) ≡ record_words
  unfolding words_of_record
  words_long =
      let l = z.patterns_long in
      let lf = z.placed_long in
      let lr = z.removals_long in
      let m = removal_words_long r.removals in
      simp (length-append, length-map) (omega arith)
