-- Demand 2: each of its parts, as the layers prove it.
use Rattle.std.specs.Prelude.{ℕ, ◌*◌, ◌^◌, ◌<◌, ◌≡◌, refl, Bool, true, false, cond, List}
use Rattle.std.proofs.Common.{sym, ap, ◌∙◌, arith}
use Rattle.std.proofs.lemmas.Bool.{false≢true}
use Rattle.std.proofs.Math.Option.{Option, none, some}
use Rattle.std.specs.declared.result.Result.{Result}
use Rattle.std.specs.declared.result.Result.TheVariants.{Ok, Err}
use Rattle.refusals.specs.Refusals.{numbered}
use Rattle.refusals.specs.Questions as question
use Rattle.numbers.specs.Patterns.{days_of, pair_of}
use Rattle.fields.specs.Fields.{body_of, nurses, days, longest_days, block, pair_count}
use Rattle.rows.specs.Pairs.{in_pair}
use Rattle.fields.specs.Rules.{rules_of}
use Rattle.layout.specs.Grammar.{Read, good, bad}
use Rattle.ward.specs.Answers.{read_ward}
use Rattle.layout.proofs.EditionLaws.{editions}
use Rattle.ward.proofs.ReadingLaws.{read_accepted, list_accepted}
use Rattle.ward.proofs.BothWaysLaws.{both_ways}
use Rattle.nights.proofs.ListLaws as night-laws
use Rattle.nights.proofs.OwnLaws.{own_exactly, own_meets, without_pairs}
use Rattle.nights.proofs.PairRuleLaws.{pattern_rule}
use Rattle.nights.proofs.RuleLaws.{common_list_when, meets_when, hers_when, list_filtered}
use Rattle.days.proofs.SheetLaws as day-laws
use Rattle.days.proofs.WordsLaws.{rule_when}
use Rattle.penalty.proofs.HeldLaws.{night_zero, night_held, day_zero, day_held}
use Rattle.penalty.proofs.BoundLaws.{night_total_le, day_total_le}
use Rattle.letters.specs.Letters.{misplaced}
use Rattle.letters.proofs.LetterLaws.{placed_long}
use Rattle.rostercheck.specs.Check.{Holds}
use Rattle.rostercheck.specs.CodeCheck.{holds}
use Rattle.rostercheck.proofs.CheckLaws.{holds_sound, holds_complete}
use Rattle.refusals.specs.declared.Refusal.{Refusal}
use Rattle.outcomes.specs.declared.Verdict.{Verdict}
use Rattle.outcomes.specs.declared.Verdict.TheVariants.{Passed, Broken}
use Rattle.planner.specs.Answers.{check_letters, check_over, check_says}
use Rattle.planner.specs.Demand2.{Passes, Demand2}

-- ---- the check

abbrev is_yes : Result Verdict Refusal → Bool
is_yes (Err n) = false
is_yes (Ok Passed) = true
is_yes (Ok Broken) = false

yes_when : (b : Bool) → is_yes (Ok (cond b Passed Broken)) ≡ b
yes_when true = refl
yes_when false = refl

module _ (w roster : List ℕ) (few : pair_count w < 2 ^ 32) where
  abbrev place : Option ℕ
  place = misplaced (nurses w * days w) roster

  letters_yes : check_letters w roster ≡ Ok Passed → (place ≡ none) × Holds w roster
  unfolding check_letters
  letters_yes e = go place refl
    where
      go : (o : Option ℕ) → place ≡ o → (place ≡ none) × Holds w roster
      go none q =
          let y : Ok (cond (holds w roster) Passed Broken) ≡ check_letters w roster = sym (rw (q, check_letters)) in
          (q, holds_sound w roster few (placed_long (nurses w * days w) roster q) (sym (yes_when (holds w roster)) ∙ ap is_yes (y ∙ e)))
      go (some p) q =
          let y : Err (numbered question.letters p) ≡ check_letters w roster = sym (rw (q, check_letters)) in
          absurd (false≢true (ap is_yes (y ∙ e)))

  yes_letters : place ≡ none → Holds w roster → check_letters w roster ≡ Ok Passed
  unfolding check_letters
  yes_letters q h = rw (q, check_letters, holds_complete w roster few (placed_long (nurses w * days w) roster q) h)

few_read : (file ws : List ℕ) → read_ward file ≡ good ws → pair_count (body_of ws) < 2 ^ 32
few_read file ws e = omega (arith, (list_accepted file ws e).pairs_most)

yes_passes : (file roster : List ℕ) → check_says file roster ≡ Ok Passed → Passes file roster
unfolding check_over
yes_passes file roster e = go (read_ward file) refl
  where
    go : (r : Read) → read_ward file ≡ r → Passes file roster
    go (good ws) q =
        let y = letters_yes (body_of ws) roster (few_read file ws q) (sym (ap (λ (x : Read). check_over x roster) q) ∙ e) in
        record { numbers = ws; reads = q; lettered = y.0; holds = y.1 }
    go (bad n) q = absurd (false≢true (ap is_yes (sym (ap (λ (x : Read). check_over x roster) q) ∙ e)))

passes_yes : (file roster : List ℕ) → Passes file roster → check_says file roster ≡ Ok Passed
unfolding check_over
passes_yes file roster p = ap (λ (x : Read). check_over x roster) p.reads ∙ yes_letters (body_of p.numbers) roster (few_read file p.numbers p.reads) p.lettered p.holds

-- ---- all of it

pub demand2 : Demand2
demand2 = record {
  editions = editions;
  both_ways = both_ways;
  common_listed = λ w. night-laws.common_exactly (rules_of w) (days w);
  nights_listed = night-laws.list_exactly;
  patterns_listed = own_exactly;
  days_listed = day-laws.list_exactly;
  nights_of_common = list_filtered;
  patterns_of_common = own_meets;
  without_pairs = without_pairs;
  means = λ file ws bytes e.
      let w = body_of ws in
      let a = read_accepted file ws bytes e in
      record {
        common_rule = λ p. common_list_when w p a.run_some;
        hers_rule = λ i p. meets_when w p a.run_some i;
        night_rule = λ i p. hers_when w p a.run_some i;
        pattern_rule = λ i c. pattern_rule w i c a.run_some;
        day_rule = λ i c q. rule_when (block w i) (days w) (longest_days w) (days_of c) (in_pair w (pair_of c)) q a.day_run_most;
        few_pairs = a.pairs_most;
        by_night = record { zero_when = λ slots. (night_zero w slots a, night_held w slots); most = λ slots. night_total_le w slots a };
        by_day = record { zero_when = λ slots. (day_zero w slots a, day_held w slots); most = λ slots. day_total_le w slots a };
      };
  check_yes = λ file roster. (yes_passes file roster, passes_yes file roster);
}
