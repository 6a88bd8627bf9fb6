-- A record's words, written part by part from the first to the last.
use Rattle.std.specs.Prelude.{ℕ, zero, suc, ◌+◌, ◌*◌, ◌≤◌, ◌<◌, ◌≡◌, refl, List, [], ◌∷◌, ◌++◌, map, length, get_or, take, set}
use Rattle.std.proofs.Common.{sym, ap, ap₂, ◌∙◌, append_assoc, arith, length-set, take_all, take-suc-set, length-append, length-take-le}
use Rattle.std.proofs.Math.Seq.{paste}
use Rattle.std.proofs.Math.ListN.{get_or-map}
use Rattle.std.proofs.lemmas.List.{length-map}
use Rattle.std.proofs.lemmas.List.Edits.{paste_none, take-paste, paste-paste}
use Rattle.std.specs.Array.{IsFromFnResult}
use Rattle.std.specs.Fn.{Called}
use denote.Param.Members.{Mut}
use Rattle.numbers.proofs.MadeLaws.{made}
use Rattle.numbers.specs.Patterns.{days_of, pair_of}
use Rattle.removals.specs.declared.Removal.{Removal as StoredRemoval}
use Rattle.removals.specs.Removals.{no_removal}
use Rattle.search.specs.declared.Record.{Record as Stored}
use Rattle.fields.specs.Sizes.{nurse_places}
use Rattle.search.specs.Stored.{Sized}
use Rattle.recordwords.proofs.WordLaws.{removal_words_long}
use Rattle.recordwords.specs.Words.{pairs_at, flags_at, removals_at, record_words, steps_at, flag_word, removal_words, words_of_record}
use Rattle.recordwords.specs.CodeWords.{words_of_removal}

-- what an array is that is made of another's elements, each by h
pub mapped :
    {F A B : Type 0} {g : Mut F (ℕ × Unit {0}) B} {f : F} {m : ℕ} (h : A → B) (z : A) (xs : List A) {ys : List B}
    → ((i : ℕ) (y : B) (q : F) → i < m → Called g f (i, tt) y q → (q ≡ f) × (y ≡ h (get_or xs i z))) → IsFromFnResult g f ys m → length xs ≡ m → ys ≡ map h xs
mapped h z xs {ys} gives r l =
    made ys (map h xs) (h z) (λ i y q k c. let t = gives i y q k c in (t.0, t.1 ∙ sym (get_or-map h xs i z))) r (length-map xs h ∙ l)

-- the next part, after the words s
next :
    {s words' : List ℕ} (words part : List ℕ) (at m : ℕ) → take at words ≡ s → words' ≡ paste words at part (length part)
    → at + length part ≤ length words → m ≡ at + length part → take m words' ≡ s ++ part
next words part at m t e fits is =
    ap₂ take is e ∙ take-paste words at part (length part) (omega arith) (omega arith) ∙ ap₂ (λ (x y : List ℕ). x ++ y) t (take_all (length part) part (omega arith))

-- the last word, after the words s
last : {s : List ℕ} (words : List ℕ) (x : ℕ) → take steps_at words ≡ s → length words ≡ record_words → set words steps_at x ≡ s ++ (x ∷ [])
last words x t l =
    sym (take_all record_words (set words steps_at x) (omega (arith, length-set words steps_at x)))
    ∙ take-suc-set words steps_at x (omega arith)
    ∙ ap (λ (xs : List ℕ). xs ++ (x ∷ [])) t

-- ---- the removals

one_more : (rs : List StoredRemoval) (j : ℕ) → j < length rs → removal_words (take (suc j) rs) ≡ removal_words (take j rs) ++ words_of_removal (get_or rs j no_removal)
one_more [] j h = absurd (omega arith)
one_more (x ∷ rs) zero h = refl
one_more (x ∷ rs) (suc j) h = ap (λ (xs : List ℕ). x.nurse ∷ flag_word x.has ∷ days_of x.pattern ∷ pair_of x.pattern ∷ xs) (one_more rs j (omega arith))

-- one part more, after those from removals_at on
pasted_on :
    (old first part : List ℕ) {first' words words' : List ℕ} {at : ℕ} → words ≡ paste old removals_at first (length first) → words' ≡ paste words at part (length part)
    → at ≡ removals_at + length first → removals_at ≤ length old → first' ≡ first ++ part → words' ≡ paste old removals_at first' (length first')
pasted_on old first part w e a fits f =
    e
    ∙ ap₂ (λ (ws : List ℕ) (k : ℕ). paste ws k part (length part)) w a
    ∙ paste-paste old removals_at first part (length first) (length part) refl refl fits
    ∙ ap₂ (λ (s : List ℕ) (k : ℕ). paste old removals_at s k) (sym f) (sym (ap length f ∙ length-append first part))

-- the words of the first j removals are written
abbrev pub RemovalsTo : List StoredRemoval → List ℕ → List ℕ → ℕ → Type 0
RemovalsTo rs old words j = words ≡ paste old removals_at (removal_words (take j rs)) (length (removal_words (take j rs)))

pub removals_none : (rs : List StoredRemoval) (old : List ℕ) → RemovalsTo rs old old 0
removals_none rs old = paste_none old removals_at []

module _ (rs : List StoredRemoval) (old words : List ℕ) {j : ℕ} where
  pub removals_more :
      {words' part : List ℕ} {m : ℕ} → RemovalsTo rs old words j → length old ≡ record_words → j < length rs → m ≡ j + 1
      → part ≡ words_of_removal (get_or rs j no_removal) → words' ≡ paste words (removals_at + j * 4) part (length part) → RemovalsTo rs old words' m
  removals_more {words'} {part} {m} w l h is p e =
      let a = removal_words_long (take j rs) in
      let b = length-take-le j rs (omega (arith, h)) in
      let on : m ≡ suc j = omega (arith, is) in
      pasted_on old (removal_words (take j rs)) part w e (omega (arith, a, b)) (omega (arith, l))
      (ap (λ (k : ℕ). removal_words (take k rs)) on ∙ one_more rs j h ∙ ap (λ (ps : List ℕ). removal_words (take j rs) ++ ps) (sym p))

  pub removals_all : RemovalsTo rs old words j → length rs ≤ j → words ≡ paste old removals_at (removal_words rs) (length (removal_words rs))
  removals_all w h = w ∙ ap (λ (xs : List StoredRemoval). paste old removals_at (removal_words xs) (length (removal_words xs))) (take_all j rs h)

-- ---- all parts

joined : (a b c d e : List ℕ) → (((a ++ b) ++ c) ++ d) ++ e ≡ a ++ (b ++ (c ++ (d ++ e)))
joined a b c d e = append_assoc ((a ++ b) ++ c) d e ∙ append_assoc (a ++ b) c (d ++ e) ∙ append_assoc a b (c ++ (d ++ e))

module _ (r : Stored) (z : Sized r) where
  removals_long : length (removal_words r.removals) ≡ 256
  removals_long = let l = removal_words_long r.removals in omega (arith, l, z.removals_long)

  -- w0 has no words yet, and w1 to w4 have one part more each
  pub written :
      (w0 w1 w2 w3 w4 days pairs flags : List ℕ)
      → length w0 ≡ record_words → length w1 ≡ record_words → length w2 ≡ record_words → length w3 ≡ record_words → length w4 ≡ record_words
      → w1 ≡ paste w0 0 days (length days) → w2 ≡ paste w1 pairs_at pairs (length pairs)
      → w3 ≡ paste w2 flags_at flags (length flags) → w4 ≡ paste w3 removals_at (removal_words r.removals) (length (removal_words r.removals))
      → days ≡ map days_of r.patterns → pairs ≡ map pair_of r.patterns → flags ≡ map flag_word r.placed
      → set w4 steps_at r.steps ≡ words_of_record r
  unfolding words_of_record
  written w0 w1 w2 w3 w4 days pairs flags l0 l1 l2 l3 l4 e1 e2 e3 e4 d p f =
      last w4 r.steps fourth l4
      ∙ joined days pairs flags (removal_words r.removals) (r.steps ∷ [])
      ∙ rw (d, p, f) refl
    where
      ld : length days ≡ nurse_places
      ld = ap length d ∙ length-map r.patterns days_of ∙ z.patterns_long

      lp : length pairs ≡ nurse_places
      lp = ap length p ∙ length-map r.patterns pair_of ∙ z.patterns_long

      lf : length flags ≡ nurse_places
      lf = ap length f ∙ length-map r.placed flag_word ∙ z.placed_long

      first : take pairs_at w1 ≡ days
      first = next w0 days 0 pairs_at refl e1 (omega (arith, l0, ld)) (omega (arith, ld))

      second : take flags_at w2 ≡ days ++ pairs
      second = next w1 pairs pairs_at flags_at first e2 (omega (arith, l1, lp)) (omega (arith, lp))

      third : take removals_at w3 ≡ (days ++ pairs) ++ flags
      third = next w2 flags flags_at removals_at second e3 (omega (arith, l2, lf)) (omega (arith, lf))

      fourth : take steps_at w4 ≡ ((days ++ pairs) ++ flags) ++ removal_words r.removals
      fourth = next w3 (removal_words r.removals) removals_at steps_at third e4 (omega (arith, l3, removals_long)) (omega (arith, removals_long))
