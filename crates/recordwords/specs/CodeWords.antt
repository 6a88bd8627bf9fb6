-- The four words of a removal, one by one and as the code gives and takes them.
use Rattle.std.specs.Prelude.{ℕ, List, [], ◌∷◌, cond, eqb, get_or}
use Rattle.numbers.specs.Patterns.{pattern, days_of, pair_of}
use Rattle.removals.specs.declared.Removal.{Removal as StoredRemoval}
use Rattle.recordwords.specs.Words.{flag_of, flag_word}

-- word t of a removal's four
abbrev pub removal_word : StoredRemoval → ℕ → ℕ
removal_word x t = cond (eqb t 0) x.nurse (cond (eqb t 1) (flag_word x.has) (cond (eqb t 2) (days_of x.pattern) (pair_of x.pattern)))

-- a removal's four words
abbrev pub words_of_removal : StoredRemoval → List ℕ
words_of_removal x = x.nurse ∷ flag_word x.has ∷ days_of x.pattern ∷ pair_of x.pattern ∷ []

-- the removal of these four words
abbrev pub removal_from : List ℕ → StoredRemoval
removal_from words =
    record {
      nurse = get_or words 0 0;
      has = flag_of (get_or words 1 0);
      pattern = pattern (get_or words 2 0) (get_or words 3 0);
    }
