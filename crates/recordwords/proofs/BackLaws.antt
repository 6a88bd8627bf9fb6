-- A record that is written as words is read back as it was.
use Rattle.std.specs.Prelude.{ℕ, ◌+◌, ◌*◌, ◌<◌, ◌≡◌, refl, Bool, true, false, List, map, length, get_or, take, drop, replicate}
use Rattle.std.proofs.Common.{sym, ap, ap₂, ◌∙◌, arith, ext_get_or}
use Rattle.fields.specs.Sizes.{nurse_places, removal_places}
use Rattle.numbers.specs.Range.{up_from}
use Rattle.numbers.specs.Patterns.{pattern}
use Rattle.numbers.proofs.PatternLaws.{back}
use Rattle.search.specs.declared.Record.{Record as Stored}
use Rattle.removals.specs.Removals.{no_removal}
use Rattle.search.specs.Stored.{Sized, all_zero}
use Rattle.recordwords.specs.Words.{flags_at, record_words, removals_at, pattern_at, patterns_of_words, flag_of, removal_at, record_of_words, flag_word, words_of_record}
use Rattle.recordwords.specs.CodeWords.{removal_word}
use Rattle.recordwords.specs.Back.{ReadBack}
use Rattle.recordwords.proofs.WordLaws.{patterns_long, pattern_read, flags_long, flag_read, removals_long, removal_read, days_place, pair_place, flag_place, removal_place, steps_place, words_long}

flag_back : (b : Bool) → flag_of (flag_word b) ≡ b
flag_back true = refl
flag_back false = refl

fresh_read : record_of_words (replicate record_words 0) ≡ all_zero
unfolding record_of_words patterns_of_words up_from pattern
fresh_read = refl

module _ (r : Stored) (z : Sized r) where
  words : List ℕ
  words = words_of_record r

  long : length words ≡ record_words
  unfolding words
  long = words_long r z

  pattern_back : (i : ℕ) → i < nurse_places → pattern_at words i ≡ get_or r.patterns i 0
  unfolding words
  pattern_back i h = ap₂ pattern (days_place r z i h) (pair_place r z i h) ∙ back (get_or r.patterns i 0)

  patterns_back : patterns_of_words words ≡ r.patterns
  patterns_back =
      let l = patterns_long words in
      ext_get_or 0 _ r.patterns (l ∙ sym z.patterns_long) (λ i h. sym (pattern_read words i (omega arith) refl) ∙ pattern_back i (omega arith))

  placed_back : map flag_of (take nurse_places (drop flags_at words)) ≡ r.placed
  unfolding words
  placed_back =
      let l = flags_long words long in
      ext_get_or false _ r.placed (l ∙ sym z.placed_long) (λ i h. sym (flag_read words long i (omega arith) refl) ∙ ap flag_of (flag_place r z i (omega arith)) ∙ flag_back (get_or r.placed i false))

  removal_back : (j : ℕ) → j < removal_places → removal_at words j ≡ get_or r.removals j no_removal
  unfolding words
  removal_back j h =
      let n : get_or words (removals_at + j * 4) 0 ≡ removal_word (get_or r.removals j no_removal) 0 = removal_place r z j 0 (removals_at + j * 4) h (omega arith) (omega arith) in
      let f : get_or words (removals_at + j * 4 + 1) 0 ≡ removal_word (get_or r.removals j no_removal) 1 = removal_place r z j 1 (removals_at + j * 4 + 1) h (omega arith) (omega arith) in
      let p : get_or words (removals_at + j * 4 + 2) 0 ≡ removal_word (get_or r.removals j no_removal) 2 = removal_place r z j 2 (removals_at + j * 4 + 2) h (omega arith) (omega arith) in
      let k : get_or words (removals_at + j * 4 + 3) 0 ≡ removal_word (get_or r.removals j no_removal) 3 = removal_place r z j 3 (removals_at + j * 4 + 3) h (omega arith) (omega arith) in
      rw (n, f, p, k, flag_back, back)

  removals_back : map (removal_at words) (up_from 0 removal_places) ≡ r.removals
  removals_back =
      let l = removals_long words in
      ext_get_or no_removal _ r.removals (l ∙ sym z.removals_long) (λ j h. sym (removal_read words j (omega arith) refl) ∙ removal_back j (omega arith))

  same_read : record_of_words words ≡ r
  unfolding record_of_words words
  same_read = rw (patterns_back, placed_back, removals_back, steps_place r z)

pub read_back : ReadBack
unfolding words
read_back = record { fresh = fresh_read; same = same_read }
