-- The ward's rules of night duty.
use Rattle.std.specs.Prelude.{cond, List, ℕ, leb, eqb}
use Rattle.fields.specs.Fields.{most_nights, longest_run, gap1, gap2, gap3}
use Rattle.fields.specs.declared.rules.Rules.{Rules}

-- the ward's rules: V, L and the gaps g1, g2, g3
abbrev pub rules_of : List ℕ → Rules
rules_of w = record { most = most_nights w; longest = longest_run w; g1 = gap1 w; g2 = gap2 w; g3 = gap3 w }

-- the gap after a run of so many starts; g3 beyond three
abbrev pub gap : Rules → ℕ → ℕ
gap r run = cond (leb run 1) r.g1 (cond (eqb run 2) r.g2 r.g3)
