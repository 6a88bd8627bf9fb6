-- The night rule and the common list.
use Rattle.std.specs.Prelude.{Bool, true, cond, ◌&&◌, List, [], ◌∷◌, ℕ, ◌+◌, ◌^◌, leb, eqb, length}
use Rattle.numbers.specs.Range.{up_from, filter}
use Rattle.rows.specs.Rows.{started}
use Rattle.fields.specs.Fields.{days}
use Rattle.fields.specs.Rules.{rules_of, gap}
use Rattle.fields.specs.declared.rules.Rules.{Rules}

-- the starts of p in a month of n days, ascending
unfoldable pub starts : ℕ → ℕ → List ℕ
starts n p = filter (started p) (up_from 1 n)

-- A start on day s, where the start before it was on day prev, the run-th of its run; run 0: there is none before it.
-- Two days on is one run, of at most `longest` starts; anything else is a new run, and is at least 2 and the gap days on.
abbrev pub allowed : Rules → ℕ → ℕ → ℕ → Bool
allowed r prev run s = cond (eqb run 0) true (cond (eqb s (prev + 2)) (leb (run + 1) r.longest) (leb (prev + 2 + gap r run) s))

-- and how many starts its run then has
abbrev pub run_with : ℕ → ℕ → ℕ → ℕ
run_with prev run s = cond (eqb s (prev + 2)) (run + 1) 1

-- each of these starts, in order, is allowed after the one before it
unfoldable pub follow : Rules → ℕ → ℕ → List ℕ → Bool
follow r prev run [] = true
follow r prev run (s ∷ ss) = allowed r prev run s && follow r s (run_with prev run s) ss

-- at most V starts, which keep the rule
unfoldable pub in_common : Rules → ℕ → ℕ → Bool
in_common r n p = leb (length (starts n p)) r.most && follow r 0 0 (starts n p)

-- all patterns of at most V starts that keep the rule, by ascending number
unfoldable pub common : Rules → ℕ → List ℕ
common r n = filter (in_common r n) (up_from 0 (2 ^ n))

abbrev pub common_of : List ℕ → List ℕ
common_of w = common (rules_of w) (days w)
