-- Storage that holds the records of a session: a keeping and a return do to it what they do to the session.
use Rattle.std.specs.Prelude.{ℕ, zero, suc, ◌+◌, ◌-◌, ◌*◌, ◌≤◌, ◌<◌, ◌≡◌, refl, Bool, true, false, ◌&&◌, List, ◌∷◌, ◌++◌, length, get_or, replicate}
use Rattle.std.proofs.Common.{sym, ap, ap₂, ◌∙◌, append_assoc, arith, length-append, leb-true, eq-eqb, ne_eqb}
use Rattle.std.proofs.lemmas.Bool.{and_parts}
use Rattle.std.proofs.lemmas.List.{length-replicate, replicate-append-replicate}
use Rattle.std.proofs.Math.Option.{Option, none, some}
use Rattle.refusals.specs.Questions as question
use Rattle.refusals.specs.Refusals.{unless}
use Rattle.history.specs.Session.{keep_number, kept_with}
use Rattle.search.specs.Stored.{Sized}
use Rattle.search.specs.declared.Record.{Record as Stored}
use Rattle.recordwords.specs.Words.{words_of_record}
use Rattle.keeping.specs.Storage.{entry_words, storage_words, entry_at, has_room, may_keep, keep_no, kept_in}
use Rattle.keeping.specs.Image.{entry_of, entries_of, storage_of}
use Rattle.keeping.proofs.PartLaws.{replaced, part_is}
use Rattle.keeping.proofs.EntryLaws.{entry, within, entry_long, first_word, kept_is, kept_not, Returns, ReturnsNot, returns_not, returns_nothing, returns_kept}

-- ---- the entries of some numbers

-- those before number j, its own, and those after it
entries_split : (kept : ℕ → Option Stored) (k i m count j : ℕ) → count ≡ k + suc m → j ≡ i + k
    → entries_of kept i count ≡ entries_of kept i k ++ (entry_of (kept j) ++ entries_of kept (suc j) m)
entries_split kept zero i m zero j e d = absurd (omega arith)
entries_split kept zero i m (suc count) j e d =
    let p : i ≡ j = omega arith in
    let q : count ≡ m = omega arith in
    ap₂ (λ (a b : ℕ). entry_of (kept a) ++ entries_of kept (suc a) b) p q
entries_split kept (suc k) i m zero j e d = absurd (omega arith)
entries_split kept (suc k) i m (suc count) j e d =
    ap (λ (es : List ℕ). entry_of (kept i) ++ es) (entries_split kept k (suc i) m count j (omega arith) (omega arith))
    ∙ sym (append_assoc (entry_of (kept i)) (entries_of kept (suc i) k) (entry_of (kept j) ++ entries_of kept (suc j) m))

-- they are those of any other session that keeps the same under these numbers
entries_same : (kept other : ℕ → Option Stored) (i count : ℕ) → ((j : ℕ) → i ≤ j → j < i + count → kept j ≡ other j) → entries_of kept i count ≡ entries_of other i count
entries_same kept other i zero same = refl
entries_same kept other i (suc count) same =
    ap₂ (λ (o : Option Stored) (es : List ℕ). entry_of o ++ es) (same i (omega arith) (omega arith)) (entries_same kept other (suc i) count (λ j l u. same j (omega arith) (omega arith)))

one_long : (o : Option Stored) → ((r : Stored) → o ≡ some r → Sized r) → length (entry_of o) ≡ entry_words
one_long none z = length-replicate {A = ℕ} entry_words 0
one_long (some r) z = entry_long r (z r refl)

-- where nothing is kept they are zeros
entries_zero : (i count : ℕ) → entries_of (λ n. none) i count ≡ replicate (count * entry_words) 0
entries_zero i zero = refl
entries_zero i (suc count) =
    let q : entry_words + count * entry_words ≡ suc count * entry_words = omega arith in
    ap (λ (es : List ℕ). replicate entry_words 0 ++ es) (entries_zero (suc i) count)
    ∙ replicate-append-replicate entry_words (count * entry_words) 0
    ∙ ap (λ (k : ℕ). replicate k 0) q

zeros_after : (i count words : ℕ) → count * entry_words ≤ words → entries_of (λ n. none) i count ++ replicate (words - count * entry_words) 0 ≡ replicate words 0
zeros_after i count words h =
    let q : count * entry_words + (words - count * entry_words) ≡ words = omega arith in
    ap (λ (es : List ℕ). es ++ replicate (words - count * entry_words) 0) (entries_zero i count)
    ∙ replicate-append-replicate (count * entry_words) (words - count * entry_words) 0
    ∙ ap (λ (k : ℕ). replicate k 0) q

-- ---- the storage

module _ (words : ℕ) (kept : ℕ → Option Stored) where
  image_room : has_room words ≡ true → storage_of words kept ≡ entries_of kept 1 8 ++ replicate (words - storage_words) 0
  unfolding storage_of
  image_room h = rw h

  image_none : has_room words ≡ false → storage_of words kept ≡ replicate words 0
  unfolding storage_of
  image_none h = rw h

  -- the entries after number n, and the zeros after the eight
  tail : ℕ → List ℕ
  tail n = entries_of kept (suc n) (8 - n) ++ replicate (words - storage_words) 0

  image_split : (n : ℕ) → (has_room words && keep_number n) ≡ true → storage_of words kept ≡ entries_of kept 1 (n - 1) ++ (entry_of (kept n) ++ tail n)
  unfolding tail
  image_split n h =
      let w = within words n h in
      let rest : List ℕ = replicate (words - storage_words) 0 in
      image_room (and_parts (has_room words) (keep_number n) h).0
      ∙ ap (λ (es : List ℕ). es ++ rest) (entries_split kept (n - 1) 1 (8 - n) 8 n (omega arith) (omega arith))
      ∙ append_assoc (entries_of kept 1 (n - 1)) (entry_of (kept n) ++ entries_of kept (suc n) (8 - n)) rest
      ∙ ap (λ (es : List ℕ). entries_of kept 1 (n - 1) ++ es) (append_assoc (entry_of (kept n)) (entries_of kept (suc n) (8 - n)) rest)

zeros_by : (words : ℕ) (b : Bool) → has_room words ≡ b → storage_of words (λ n. none) ≡ replicate words 0
zeros_by words true h = image_room words (λ n. none) h ∙ zeros_after 1 8 words (leb-true storage_words words h)
zeros_by words false h = image_none words (λ n. none) h

pub image_zeros : (words : ℕ) → storage_of words (λ n. none) ≡ replicate words 0
image_zeros words = zeros_by words (has_room words) refl

module _ (words : ℕ) (kept : ℕ → Option Stored) (sizes : (n : ℕ) (r : Stored) → kept n ≡ some r → Sized r) where
  entries_long : (i count : ℕ) → length (entries_of kept i count) ≡ count * entry_words
  entries_long i zero = omega arith
  entries_long i (suc count) =
      let e = entries_long (suc i) count in
      let o = one_long (kept i) (sizes i) in
      let l = length-append (entry_of (kept i)) (entries_of kept (suc i) count) in
      l ∙ omega arith

  long_by : (b : Bool) → has_room words ≡ b → length (storage_of words kept) ≡ words
  long_by true h =
      let room : storage_words ≤ words = leb-true storage_words words h in
      let e = entries_long 1 8 in
      let z = length-replicate {A = ℕ} (words - storage_words) 0 in
      ap length (image_room words kept h) ∙ length-append (entries_of kept 1 8) (replicate (words - storage_words) 0) ∙ omega arith
  long_by false h = ap length (image_none words kept h) ∙ length-replicate words 0

  pub image_long : length (storage_of words kept) ≡ words
  image_long = long_by (has_room words) refl

  image_may : (n : ℕ) → may_keep (storage_of words kept) n ≡ (has_room words && keep_number n)
  image_may n = ap (λ (k : ℕ). has_room k && keep_number n) image_long

  pub keep_no_lem : (n : ℕ) → keep_no (storage_of words kept) n ≡ unless (has_room words && keep_number n) question.storage 0
  unfolding keep_no
  keep_no_lem n = ap (λ (b : Bool). unless b question.storage 0) (image_may n)

  before_long : (n : ℕ) → length (entries_of kept 1 (n - 1)) ≡ entry_at n
  before_long n = entries_long 1 (n - 1)

  image_entry : (n : ℕ) → (has_room words && keep_number n) ≡ true → entry (storage_of words kept) n ≡ entry_of (kept n)
  image_entry n h =
      part_is (entries_of kept 1 (n - 1)) (entry_of (kept n)) (tail words kept n) (entry_at n) entry_words (image_split words kept n h) (before_long n) (one_long (kept n) (sizes n))

  -- ---- a keeping

  pub image_keeps : (n : ℕ) (r : Stored) → (has_room words && keep_number n) ≡ true → kept_in (storage_of words kept) n r ≡ storage_of words (kept_with kept n r)
  unfolding tail
  image_keeps n r h =
      let w = within words n h in
      let with : ℕ → Option Stored = kept_with kept n r in
      let own : with n ≡ some r = rw (eq-eqb n n refl) in
      let before : entries_of kept 1 (n - 1) ≡ entries_of with 1 (n - 1) = entries_same kept with 1 (n - 1) (λ j l u. sym (rw (ne_eqb j n (λ q. omega arith)))) in
      let after : tail words kept n ≡ tail words with n = ap (λ (es : List ℕ). es ++ replicate (words - storage_words) 0) (entries_same kept with (suc n) (8 - n) (λ j l u. sym (rw (ne_eqb j n (λ q. omega arith))))) in
      kept_is (storage_of words kept) n r (image_may n ∙ h)
      ∙ replaced (entries_of kept 1 (n - 1)) (entry_of (kept n)) (tail words kept n) (entry_at n) entry_words (image_split words kept n h) (before_long n) (one_long (kept n) (sizes n)) (1 ∷ words_of_record r)
      ∙ ap₂ (λ (a b : List ℕ). a ++ ((1 ∷ words_of_record r) ++ b)) before after
      ∙ ap (λ (o : Option Stored). entries_of with 1 (n - 1) ++ (entry_of o ++ tail words with n)) (sym own)
      ∙ sym (image_split words with n h)

  pub image_keeps_not : (n : ℕ) (r : Stored) → (has_room words && keep_number n) ≡ false → kept_in (storage_of words kept) n r ≡ storage_of words kept
  image_keeps_not n r h = kept_not (storage_of words kept) n r (image_may n ∙ h)

  -- ---- a return

  pub image_returns : (n : ℕ) (r other : Stored) → (has_room words && keep_number n) ≡ true → kept n ≡ some r → Returns (storage_of words kept) n other r
  image_returns n r other h e = returns_kept (storage_of words kept) n other r (sizes n r e) (image_may n ∙ h) (image_entry n h ∙ ap entry_of e)

  pub image_returns_not : (n : ℕ) (other : Stored) → (has_room words && keep_number n) ≡ false → ReturnsNot (storage_of words kept) n other
  image_returns_not n other h = returns_not (storage_of words kept) n other (image_may n ∙ h)

  nothing_by : (n : ℕ) (other : Stored) → kept n ≡ none → (b : Bool) → (has_room words && keep_number n) ≡ b → ReturnsNot (storage_of words kept) n other
  nothing_by n other e true h = returns_nothing (storage_of words kept) n other (first_word (storage_of words kept) n ∙ ap (λ (es : List ℕ). get_or es 0 0) (image_entry n h ∙ ap entry_of e))
  nothing_by n other e false h = image_returns_not n other h

  pub image_nothing : (n : ℕ) (other : Stored) → kept n ≡ none → ReturnsNot (storage_of words kept) n other
  image_nothing n other e = nothing_by n other e (has_room words && keep_number n) refl
