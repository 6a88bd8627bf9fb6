-- What a keeping and a return end with.
use Rattle.std.specs.Prelude.{ℕ, ◌+◌, ◌-◌, ◌≡◌, ◌≢◌, refl, Bool, true, false, cond, ◌&&◌, List, ◌∷◌, ◌++◌, length, get_or, take, drop}
use Rattle.std.proofs.Common.{sym, ap, ◌∙◌, append_assoc, arith, length-drop, take_all}
use Rattle.std.proofs.Math.Seq.{paste}
use Rattle.std.specs.declared.result.Result.{Result}
use Rattle.std.specs.declared.result.Result.TheVariants.{Ok, Err}
use Rattle.refusals.specs.Questions as question
use Rattle.refusals.specs.Refusals.{numbered, answer_by}
use Rattle.refusals.specs.declared.Refusal.{Refusal}
use Rattle.history.specs.Session.{keep_number}
use Rattle.search.specs.Stored.{Sized}
use Rattle.search.specs.declared.Record.{Record as Stored}
use Rattle.recordwords.specs.Words.{record_words, record_of_words, words_of_record}
use Rattle.outcomes.specs.Outcomes.{refused_with}
use Rattle.keeping.specs.Storage.{entry_words, entry_at, has_room, may_keep, is_kept, keep_no, kept_in, record_at, returned_of}
use Rattle.keeping.proofs.EntryLaws.{entry, entry_long, kept_is, kept_not, first_word, rest_words, brought_back, brought_nothing}

-- where the entry of a number is asked for, and what the answer says
abbrev pub Place : ℕ → ℕ → Result ℕ Refusal
Place words n = cond (has_room words && keep_number n) (Ok (entry_at n)) (Err (numbered question.storage 0))

module _ (storage : List ℕ) (n : ℕ) where
  module _ {at : ℕ} (yes : Ok at ≡ Place (length storage) n) where
    placed : (b : Bool) → Ok at ≡ cond b (Ok (entry_at n)) (Err (numbered question.storage 0)) → (b ≡ true) × (at ≡ entry_at n)
    placed true e = (refl, cc)
    placed false e = absurd (cc)

    may : may_keep storage n ≡ true
    may = (placed (may_keep storage n) yes).0

    here : at ≡ entry_at n
    here = (placed (may_keep storage n) yes).1

    -- a keeping
    pub kept_says : Ok tt ≡ answer_by (keep_no storage n)
    unfolding keep_no
    kept_says = rw may

    pub kept_leaves : (r : Stored) {xs : List ℕ} → Sized r → xs ≡ 1 ∷ words_of_record r → paste storage at xs entry_words ≡ kept_in storage n r
    kept_leaves r {xs} z q =
        let l = entry_long r z in
        ap (λ (i : ℕ). paste storage i xs entry_words) here
        ∙ ap (λ (ws : List ℕ). paste storage (entry_at n) ws entry_words) q
        ∙ append_assoc (take (entry_at n) storage) (take entry_words (1 ∷ words_of_record r)) (drop (entry_at n + entry_words) storage)
        ∙ ap (λ (ws : List ℕ). take (entry_at n) storage ++ (ws ++ drop (entry_at n + entry_words) storage)) (take_all entry_words (1 ∷ words_of_record r) (omega arith))
        ∙ sym (kept_is storage n r may)

    -- a return
    -- the entry, as the code lends it
    abbrev lent : List ℕ
    lent = take (at + entry_words - at) (drop at storage)

    lent_is : lent ≡ entry storage n
    lent_is = let r : at + entry_words - at ≡ entry_words = omega arith in rw (r, here) refl

    first_is : get_or lent 0 0 ≡ get_or storage (entry_at n) 0
    first_is = ap (λ (l : List ℕ). get_or l 0 0) lent_is ∙ sym (first_word storage n)

    pub nothing_kept : (r : Stored) → get_or lent 0 0 ≡ 0 → Err (refused_with (numbered question.storage 0) r) ≡ returned_of storage n r
    nothing_kept r e =
        let q : get_or storage (entry_at n) 0 ≡ 0 = sym first_is ∙ e in
        sym (brought_nothing storage n r (rw (may, q)))

    pub record_kept :
        (r : Stored) {words : List ℕ} {after : Stored} → get_or lent 0 0 ≢ 0 → words ≡ take (length lent - 1) (drop 1 lent) → after ≡ record_of_words words
        → Ok after ≡ returned_of storage n r
    unfolding record_at
    record_kept r {words} some p e =
        let k : get_or storage (entry_at n) 0 ≢ 0 = λ q. some (first_is ∙ q) in
        let y : is_kept storage n ≡ true = grind (arith, k) in
        ap Ok (e ∙ ap record_of_words words_are) ∙ sym (brought_back storage n r (rw (may, y)))
      where
        words_are : words ≡ take record_words (drop (entry_at n + 1) storage)
        words_are = p ∙ take_all (length lent - 1) (drop 1 lent) (omega (arith, length-drop 1 lent)) ∙ ap (drop 1) lent_is ∙ sym (rest_words storage n)

  module _ {no : Refusal} (is : Err no ≡ Place (length storage) n) where
    refused : (b : Bool) → Err no ≡ cond b (Ok (entry_at n)) (Err (numbered question.storage 0)) → (b ≡ false) × (no ≡ numbered question.storage 0)
    refused true e = absurd (cc)
    refused false e = (refl, cc)

    may_not : may_keep storage n ≡ false
    may_not = (refused (may_keep storage n) is).0

    pub keep_refused : Err no ≡ answer_by (keep_no storage n)
    unfolding keep_no
    keep_refused = ap Err (refused (may_keep storage n) is).1 ∙ rw may_not

    pub keep_leaves : (r : Stored) → storage ≡ kept_in storage n r
    keep_leaves r = sym (kept_not storage n r may_not)

    pub return_refused : (r : Stored) → Err (refused_with no r) ≡ returned_of storage n r
    return_refused r = ap (λ (x : Refusal). Err (refused_with x r)) (refused (may_keep storage n) is).1 ∙ sym (brought_nothing storage n r (rw may_not))
