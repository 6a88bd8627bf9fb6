-- What is kept comes back as it was, whatever else is kept meanwhile; storage of zeros keeps nothing; a record that comes back has its declared sizes.
use Rattle.std.specs.Prelude.{ℕ, zero, suc, ◌+◌, ◌≡◌, refl, Bool, true, false, List, [], ◌∷◌, length, get_or, take, drop, replicate}
use Rattle.std.proofs.Common.{◌∙◌, arith}
use Rattle.std.proofs.Math.Option.{none}
use Rattle.refusals.specs.Questions as question
use Rattle.refusals.proofs.OrderLaws.{unless_none}
use Rattle.search.specs.Stored.{Sized}
use Rattle.search.specs.declared.Record.{Record as Stored}
use Rattle.recordwords.specs.Words.{record_words}
use Rattle.recordwords.proofs.WordLaws.{words_sized}
use Rattle.keeping.specs.Storage.{entry_at, may_keep, may_return, keep_no, kept_in, record_at, return_no, returned_to}
use Rattle.keeping.specs.Assurance.{Keeping, kept_all, OthersThan, Assurance}
use Rattle.keeping.proofs.PartLaws.{part_long}
use Rattle.keeping.proofs.EntryLaws.{entry, within, kept_long, kept_may, kept_same, kept_other, return_may, answered_yes, answered_no, returns_kept, returns_nothing}

may_of : (storage : List ℕ) (n : ℕ) → keep_no storage n ≡ none → may_keep storage n ≡ true
unfolding keep_no
may_of storage n e = unless_none (may_keep storage n) question.storage 0 e

-- an entry is as it was after keepings under other numbers
through : (n : ℕ) (ks : List Keeping) (storage : List ℕ) → OthersThan n ks → may_keep storage n ≡ true
    → (may_keep (kept_all ks storage) n ≡ true) × (entry (kept_all ks storage) n ≡ entry storage n)
through n [] storage o h = (h, refl)
through n (k ∷ ks) storage o h =
    let t = through n ks (kept_in storage k.number k.rec) o.2 (kept_may storage k.number k.rec o.1 n ∙ h) in
    (t.0, t.1 ∙ kept_other storage k.number k.rec o.1 n o.0 h)

zero_at : (words i : ℕ) → ◌≡◌ {A = ℕ} (get_or (replicate words 0) i 0) 0
zero_at zero i = refl
zero_at (suc words) zero = refl
zero_at (suc words) (suc i) = zero_at words i

pub assurance : Assurance
assurance = record {
  unchanged = λ storage n kept in_hand meanwhile z e o.
      let h = may_of storage n e in
      let after = kept_all meanwhile (kept_in storage n kept) in
      let t = through n meanwhile (kept_in storage n kept) o (kept_may storage n kept z n ∙ h) in
      let y = returns_kept after n in_hand kept z t.0 (t.1 ∙ kept_same storage n kept z h) in
      (answered_yes after n in_hand y, y.1);
  zeros = λ words n in_hand. let y = returns_nothing (replicate words 0) n in_hand (zero_at words (entry_at n)) in (answered_no (replicate words 0) n in_hand y, y.1);
  same_length = kept_long;
}

-- ---- the sizes of what comes back

record_sized : (storage : List ℕ) (n : ℕ) → may_keep storage n ≡ true → Sized (record_at storage n)
unfolding record_at
record_sized storage n h =
    let w = within (length storage) n h in
    words_sized (take record_words (drop (entry_at n + 1) storage)) (part_long storage (entry_at n + 1) record_words (omega arith))

sized_by : (storage : List ℕ) (n : ℕ) (r : Stored) → Sized r → (b : Bool) → may_return storage n ≡ b → Sized (returned_to storage n r)
unfolding return_no returned_to
sized_by storage n r z true h = rw (returned_to, h) (record_sized storage n (return_may storage n h))
sized_by storage n r z false h = rw (returned_to, h) z

pub return_sized : (storage : List ℕ) (n : ℕ) (r : Stored) → Sized r → Sized (returned_to storage n r)
return_sized storage n r z = sized_by storage n r z (may_return storage n) refl
