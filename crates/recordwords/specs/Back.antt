-- A search may be kept as words between calls: 401 zeros are the fresh record, and a record that is written as words is read back as it was.
use Rattle.std.specs.Prelude.{◌≡◌, replicate}
use Rattle.search.specs.declared.Record.{Record as Stored}
use Rattle.search.specs.Stored.{Sized, all_zero}
use Rattle.recordwords.specs.Words.{record_words, record_of_words, words_of_record}

pub record ReadBack : Type 0 where
  pub fresh : record_of_words (replicate record_words 0) ≡ all_zero
  pub same : (r : Stored) → Sized r → record_of_words (words_of_record r) ≡ r
