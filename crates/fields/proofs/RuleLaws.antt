-- What an accepted ward says of its rules of night duty and of a nurse's numbers.
use Rattle.std.specs.Prelude.{◌≡◌, Bool, true, false, cond, List, ℕ, ◌≤◌, ◌<◌, leb, eqb}
use Rattle.std.proofs.Common.{sym, subst}
use Rattle.fields.specs.Fields.{Accepted, Block, nurses, days, block}
use Rattle.fields.specs.declared.rules.Rules.{Rules}
use Rattle.fields.specs.Rules.{rules_of, gap}
use Rattle.fields.specs.CodeRules.{SmallRules}

-- its rules are small enough to count with
pub small_rules : (w : List ℕ) → Accepted w → SmallRules (rules_of w)
small_rules w ok = record { longest = ok.run_some; g1 = ok.gap1_most; g2 = ok.gap2_most; g3 = ok.gap3_most }

pub block_as : (w : List ℕ) (i : ℕ) {b : List ℕ} {n : ℕ} → Accepted w → i < nurses w → b ≡ block w i → n ≡ days w → Block b n
block_as w i {b} {n} a h e en = subst (λ (x : List ℕ). Block x n) (sym e) (subst (λ (k : ℕ). Block (block w i) k) (sym en) (a.blocks i h))

-- a choice of two keeps what both have
cond_le : (b : Bool) (x y m : ℕ) → x ≤ m → y ≤ m → cond b x y ≤ m
cond_le true x y m p q = p
cond_le false x y m p q = q

pub gap_small : (r : Rules) (run : ℕ) → SmallRules r → gap r run ≤ 5
gap_small r run s = cond_le (leb run 1) _ _ _ s.g1 (cond_le (eqb run 2) _ _ _ s.g2 s.g3)
