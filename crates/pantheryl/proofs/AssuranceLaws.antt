-- Words that are kept come back saying the same record, and every list of advances goes alike from words that say the same record.
use Rattle.std.specs.Prelude.{◌≡◌, refl, List, [], ◌∷◌, ℕ}
use Rattle.std.proofs.Common.{sym, ap, ap₂, ◌∙◌}
use Rattle.std.proofs.Math.Option.{none}
use Rattle.history.specs.Phase.{Call, Answer, refused, ended}
use Rattle.search.specs.Stored.{Sized}
use Rattle.search.specs.declared.Record.{Record as Stored}
use Rattle.keeping.specs.Storage.{may_return, kept_in, record_at, return_no, returned_to}
use Rattle.keeping.specs.Assurance.{kept_all}
use Rattle.keeping.proofs.AssuranceLaws.{assurance}
use Rattle.refusals.proofs.OrderLaws.{unless_none}
use Rattle.keeping.proofs.EntryLaws.{answered_none, returned_is}
use Rattle.planner.specs.Advances.{advance_nights, advance_days}
use Rattle.recordwords.specs.Words.{record_of_words, words_of_record}
use Rattle.recordwords.proofs.BackLaws.{read_back}
use Rattle.recordwords.proofs.WordLaws.{words_sized}
use Rattle.pantheryl.specs.Answers.{words_left, returned_words}
use Rattle.pantheryl.specs.Demand3.{by_words}
use Rattle.pantheryl.specs.Assurance.{GoAlike, WordsAssured}

-- ---- words that say the same record go alike

left_alike : (a : Answer × Stored) (words those : List ℕ) → record_of_words words ≡ record_of_words those → record_of_words (words_left a words) ≡ record_of_words (words_left a those)
unfolding words_left
left_alike (refused n, r) words those e = e
left_alike (ended end made penalty letters, r) words those e = refl

module _ (advance : Call → Stored → Answer × Stored) where
  turn_answers : (c : Call) (words those : List ℕ) → record_of_words words ≡ record_of_words those → (by_words advance c words).0 ≡ (by_words advance c those).0
  turn_answers c words those e = ap (λ (r : Stored). (advance c r).0) e

  turn_leaves : (c : Call) (words those : List ℕ) → record_of_words words ≡ record_of_words those → record_of_words (by_words advance c words).1 ≡ record_of_words (by_words advance c those).1
  turn_leaves c words those e =
      ap (λ (r : Stored). record_of_words (words_left (advance c r) words)) e ∙ left_alike (advance c (record_of_words those)) words those e

  go_alike : (cs : List Call) (words those : List ℕ) → record_of_words words ≡ record_of_words those → GoAlike advance cs words those
  go_alike [] words those e = (refl, e)
  go_alike (c ∷ cs) words those e =
      let rest = go_alike cs (by_words advance c words).1 (by_words advance c those).1 (turn_leaves c words those e) in
      (ap₂ (λ (a : Answer) (l : List Answer). a ∷ l) (turn_answers c words those e) rest.0, rest.1)

-- ---- what comes back

back_says : (storage : List ℕ) (n : ℕ) (in_hand : List ℕ) (r : Stored) → Sized r → return_no storage n ≡ none → returned_to storage n (record_of_words in_hand) ≡ r
    → record_of_words (returned_words storage n in_hand) ≡ r
unfolding returned_words return_no
back_says storage n in_hand r z unrefused e =
    let may = unless_none (may_return storage n) _ 0 unrefused in
    let q : record_at storage n ≡ r = sym (returned_is storage n (record_of_words in_hand) may).1 ∙ e in
    rw may (ap (λ (x : Stored). record_of_words (words_of_record x)) q ∙ read_back.same r z)

pub words_assured : WordsAssured
words_assured storage n words in_hand meanwhile long room others =
    let z = words_sized words long in
    let back = assurance.unchanged storage n (record_of_words words) (record_of_words in_hand) meanwhile z room others in
    let after = kept_all meanwhile (kept_in storage n (record_of_words words)) in
    let unrefused = answered_none after n (record_of_words in_hand) back.0 in
    let same = back_says after n in_hand (record_of_words words) z unrefused back.1 in
    record {
      done = unrefused;
      same = same;
      nights = λ file cs. go_alike (advance_nights file) cs (returned_words after n in_hand) words same;
      days = λ file nights cs. go_alike (advance_days file nights) cs (returned_words after n in_hand) words same;
    }
