-- The entries of storage: what is written to one is read from it, and no other changes.
use Rattle.std.specs.Prelude.{ℕ, ◌+◌, ◌≤◌, ◌<◌, ◌≡◌, refl, ◌≢◌, Bool, true, false, ◌&&◌, cond, List, [], ◌∷◌, ◌++◌, leb, length, get_or, take, drop}
use Rattle.std.proofs.Common.{sym, ap, ◌∙◌, arith, add-zero, drop-drop, get_or-take, get_or-drop, leb-true, leb-false}
use Rattle.std.proofs.lemmas.Bool.{and_parts}
use Rattle.std.proofs.Math.Bool.{and-false}
use Rattle.std.proofs.Math.Option.{Option, none, some}
use Rattle.std.specs.declared.result.Result.{Result}
use Rattle.std.specs.declared.result.Result.TheVariants.{Ok, Err}
use Rattle.refusals.specs.Questions as question
use Rattle.refusals.specs.Refusals.{numbered}
use Rattle.refusals.specs.declared.Refusal.{Refusal}
use Rattle.refusals.proofs.OrderLaws.{unless_none}
use Rattle.history.specs.Session.{keep_number}
use Rattle.history.proofs.SessionLaws.{storable}
use Rattle.search.specs.Stored.{Sized}
use Rattle.search.specs.declared.Record.{Record as Stored}
use Rattle.recordwords.specs.Words.{record_words, record_of_words, words_of_record}
use Rattle.recordwords.proofs.WordLaws.{words_long}
use Rattle.recordwords.proofs.BackLaws.{read_back}
use Rattle.outcomes.specs.declared.Refused.{Refused}
use Rattle.outcomes.specs.Outcomes.{refused_with}
use Rattle.keeping.specs.Storage.{entry_words, storage_words, entry_at, has_room, may_keep, kept_in, is_kept, may_return, return_no, record_at, returned_to, returned_of}
use Rattle.keeping.proofs.PartLaws.{written_long, read_same, read_before, read_after}

-- ---- the entry of a number

abbrev pub entry : List ℕ → ℕ → List ℕ
entry storage n = take entry_words (drop (entry_at n) storage)

-- what a number of 1 to 8 and room for eight say of places
pub record Within (words n : ℕ) : Type 0 where
  pub least : 1 ≤ n
  pub most : n ≤ 8
  pub fits : entry_at n + entry_words ≤ words

pub keep_number_lem : (n : ℕ) → keep_number n ≡ true → (1 ≤ n) × (n ≤ 8)
keep_number_lem n h = let s = storable true n h in (s.1, s.2)

pub within : (words n : ℕ) → (has_room words && keep_number n) ≡ true → Within words n
within words n h =
    let s = storable (has_room words) n h in
    let room : storage_words ≤ words = leb-true storage_words words s.0 in
    let low : 1 ≤ n = s.1 in
    let high : n ≤ 8 = s.2 in
    record { least = low; most = high; fits = omega arith }

pub entry_long : (r : Stored) → Sized r → length (1 ∷ words_of_record r) ≡ entry_words
entry_long r z = let l = words_long r z in omega arith

-- ---- a keeping

module _ (storage : List ℕ) (n : ℕ) (r : Stored) where
  -- a refused one changes nothing
  pub kept_not : may_keep storage n ≡ false → kept_in storage n r ≡ storage
  unfolding kept_in
  kept_not h = rw h

  pub kept_is : may_keep storage n ≡ true → kept_in storage n r ≡ take (entry_at n) storage ++ ((1 ∷ words_of_record r) ++ drop (entry_at n + entry_words) storage)
  unfolding kept_in
  kept_is h = rw h

  module _ (z : Sized r) where
    kept_long_by : (b : Bool) → may_keep storage n ≡ b → length (kept_in storage n r) ≡ length storage
    kept_long_by true h = ap length (kept_is h) ∙ written_long storage (entry_at n) entry_words (1 ∷ words_of_record r) (within (length storage) n h).fits (entry_long r z)
    kept_long_by false h = ap length (kept_not h)

    pub kept_long : length (kept_in storage n r) ≡ length storage
    kept_long = kept_long_by (may_keep storage n) refl

    pub kept_may : (m : ℕ) → may_keep (kept_in storage n r) m ≡ may_keep storage m
    kept_may m = ap (λ (words : ℕ). has_room words && keep_number m) kept_long

    -- its entry
    pub kept_same : may_keep storage n ≡ true → entry (kept_in storage n r) n ≡ 1 ∷ words_of_record r
    kept_same h = ap (λ (s : List ℕ). entry s n) (kept_is h) ∙ read_same storage (entry_at n) entry_words (1 ∷ words_of_record r) (within (length storage) n h).fits (entry_long r z)

    -- another's
    apart : (m : ℕ) → may_keep storage n ≡ true → n ≢ m → 1 ≤ m → (b : Bool) → leb n m ≡ b → entry (kept_in storage n r) m ≡ entry storage m
    apart m h d low true e =
        let w = within (length storage) n h in
        let l : n ≤ m = leb-true n m e in
        ap (λ (s : List ℕ). entry s m) (kept_is h)
        ∙ read_after storage (entry_at n) entry_words (1 ∷ words_of_record r) w.fits (entry_long r z) (entry_at m) (omega (arith, d))
    apart m h d low false e =
        let w = within (length storage) n h in
        let l : m < n = leb-false n m e in
        ap (λ (s : List ℕ). entry s m) (kept_is h)
        ∙ read_before storage (entry_at n) entry_words (1 ∷ words_of_record r) w.fits (entry_long r z) (entry_at m) (omega arith)

    kept_other_by : (m : ℕ) → n ≢ m → 1 ≤ m → (b : Bool) → may_keep storage n ≡ b → entry (kept_in storage n r) m ≡ entry storage m
    kept_other_by m d low true h = apart m h d low (leb n m) refl
    kept_other_by m d low false h = ap (λ (s : List ℕ). entry s m) (kept_not h)

    pub kept_other : (m : ℕ) → n ≢ m → may_keep storage m ≡ true → entry (kept_in storage n r) m ≡ entry storage m
    kept_other m d h = kept_other_by m d (within (length storage) m h).least (may_keep storage n) refl

-- ---- a return

-- the first word of an entry, and the rest
pub first_word : (storage : List ℕ) (n : ℕ) → get_or storage (entry_at n) 0 ≡ get_or (entry storage n) 0 0
first_word storage n =
    sym (get_or-take entry_words (drop (entry_at n) storage) 0 0 (omega arith) ∙ get_or-drop (entry_at n) storage 0 0 ∙ ap (λ (i : ℕ). get_or storage i 0) (add-zero (entry_at n)))

rest_of : (l : List ℕ) → take record_words (drop 1 l) ≡ drop 1 (take entry_words l)
rest_of [] = refl
rest_of (x ∷ xs) = refl

pub rest_words : (storage : List ℕ) (n : ℕ) → take record_words (drop (entry_at n + 1) storage) ≡ drop 1 (entry storage n)
rest_words storage n = ap (take record_words) (sym (drop-drop 1 (entry_at n) storage)) ∙ rest_of (drop (entry_at n) storage)

-- it brings back a record
abbrev pub Returns : List ℕ → ℕ → Stored → Stored → Type 0
Returns storage n other r = (return_no storage n ≡ none) × (returned_to storage n other ≡ r)

-- it is refused
abbrev pub ReturnsNot : List ℕ → ℕ → Stored → Type 0
ReturnsNot storage n other = (return_no storage n ≡ some (numbered question.storage 0)) × (returned_to storage n other ≡ other)

pub return_may : (storage : List ℕ) (n : ℕ) → may_return storage n ≡ true → may_keep storage n ≡ true
return_may storage n h = (and_parts (may_keep storage n) (is_kept storage n) h).0

module _ (storage : List ℕ) (n : ℕ) (other : Stored) where
  pub brought_back : may_return storage n ≡ true → returned_of storage n other ≡ Ok (record_at storage n)
  unfolding return_no
  brought_back h = rw (returned_of, return_no, h)

  pub brought_nothing : may_return storage n ≡ false → returned_of storage n other ≡ Err (refused_with (numbered question.storage 0) other)
  unfolding return_no
  brought_nothing h = rw (returned_of, return_no, h)

  answered_by : (o : Option Refusal) {r : Stored} → ◌≡◌ {A = Result Stored Refused} (elim o [ none ↦ Ok (record_at storage n) | some x ↦ Err (refused_with x other) ]) (Ok r)
      → o ≡ none
  answered_by none e = refl
  answered_by (some x) e = absurd (cc)

  pub answered_none : {r : Stored} → returned_of storage n other ≡ Ok r → return_no storage n ≡ none
  answered_none e = answered_by (return_no storage n) e

  pub returned_not : may_return storage n ≡ false → ReturnsNot storage n other
  unfolding return_no returned_to
  returned_not h = (rw h, rw (returned_to, h))

  pub returned_is : may_return storage n ≡ true → Returns storage n other (record_at storage n)
  unfolding return_no returned_to
  returned_is h = (rw h, rw (returned_to, h))

  returned_as_by : (b : Bool) → may_return storage n ≡ b → returned_to storage n other ≡ cond b (record_at storage n) other
  returned_as_by true h = (returned_is h).1
  returned_as_by false h = (returned_not h).1

  -- the record after it, by the test alone
  pub returned_as : returned_to storage n other ≡ cond (may_return storage n) (record_at storage n) other
  returned_as = returned_as_by (may_return storage n) refl

  may_of : return_no storage n ≡ none → may_return storage n ≡ true
  unfolding return_no
  may_of e = unless_none (may_return storage n) question.storage 0 e

  pub answered_yes : {r : Stored} → Returns storage n other r → returned_of storage n other ≡ Ok r
  answered_yes y = let h = may_of y.0 in brought_back h ∙ ap Ok (sym (returned_is h).1 ∙ y.1)

  pub answered_no : ReturnsNot storage n other → returned_of storage n other ≡ Err (refused_with (numbered question.storage 0) other)
  answered_no y = rw (returned_of, y.0)

  pub returns_not : may_keep storage n ≡ false → ReturnsNot storage n other
  returns_not h = returned_not (rw h)

  -- nothing is kept
  pub returns_nothing : get_or storage (entry_at n) 0 ≡ 0 → ReturnsNot storage n other
  returns_nothing h =
      let q : is_kept storage n ≡ false = rw h in
      returned_not (rw q (and-false (may_keep storage n)))

  -- a record is kept
  pub returns_kept : (r : Stored) → Sized r → may_keep storage n ≡ true → entry storage n ≡ 1 ∷ words_of_record r → Returns storage n other r
  unfolding record_at
  returns_kept r z h e =
      let k : is_kept storage n ≡ true = rw (first_word storage n, e) in
      let w : take record_words (drop (entry_at n + 1) storage) ≡ words_of_record r = rest_words storage n ∙ ap (drop 1) e in
      let y = returned_is (rw (h, k)) in
      (y.0, y.1 ∙ ap record_of_words w ∙ read_back.same r z)
