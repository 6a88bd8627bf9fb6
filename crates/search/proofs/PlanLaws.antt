-- Everyone's lists by a plan: what is kept of them, and that nothing else is tried than by the lists themselves.
use Rattle.std.specs.Prelude.{ℕ, ◌^◌, ◌<◌, ◌≤◌, ◌≡◌, refl, Bool, false, ◌&&◌, List, get_or}
use Rattle.std.proofs.Common.{sym, ap, ◌∙◌, subst, arith}
use Rattle.numbers.specs.Range.{filter}
use Rattle.numbers.proofs.RangeLaws.{filter_passes}
use Rattle.numbers.proofs.MemberLaws.{Each}
use Rattle.fields.specs.Fields.{Accepted, nurses, pair_count}
use Rattle.rows.specs.Pairs.{pair_numbers, pair_fits}
use Rattle.numbers.specs.Patterns.{pattern}
use Rattle.nights.specs.Nights.{common_of}
use Rattle.nights.specs.Hers.{hers_of}
use Rattle.nights.specs.Own.{own_pattern}
use Rattle.nights.proofs.OwnLaws.{pair_number_lt, with_pairs_kept, own_at}
use Rattle.history.specs.declared.Search.TheVariants.{Nights, Days}
use Rattle.history.specs.Phase.{Phase}
use Rattle.tries.specs.CodeTries.{AllHers, tried_in}
use Rattle.ownlists.specs.declared.Source.{Source}
use Rattle.ownlists.specs.declared.Source.TheVariants.{Kept, Whole, Among}
use Rattle.ownlists.specs.declared.OwnList.{OwnList}
use Rattle.ownlists.specs.CodeOwn.{no_list, SourceAt, OwnLists}
use Rattle.search.specs.CodeSeek.{tried_by, SeeksBy, listed_by, tried_at}
use Rattle.search.specs.CodePlan.{SourceHers, Tries, HasStretch}

-- ---- by night

-- what is filtered is hers
filtered_hers : (w : List ℕ) (i : ℕ) (xs list : List ℕ) → xs ≡ filter (hers_of w i) list → AllHers w i xs
filtered_hers w i xs list e = subst (AllHers w i) (sym e) (λ k l. filter_passes (hers_of w i) list k l)

-- a pattern is her own only where its nights are hers
tried_own : (w : List ℕ) (i : ℕ) (list : List ℕ) → Accepted w → tried_in Nights w i (filter (hers_of w i) list) ≡ tried_in Nights w i list
tried_own w i list a = with_pairs_kept (own_pattern w i) (hers_of w i) w never list
  where
    few : pair_count w < 2 ^ 32
    few = omega (arith, a.pairs_most)

    never : (p : ℕ) → hers_of w i p ≡ false → Each (λ k. own_pattern w i (pattern p k) ≡ false) (pair_numbers w)
    never p e j l =
        own_at w i p (get_or (pair_numbers w) j 0) (pair_number_lt w few j l) ∙ ap (λ (b : Bool). b && pair_fits w i p (get_or (pair_numbers w) j 0)) e

-- what is known of her own patterns is what the search asks of them
source_hers : (w lists : List ℕ) (i : ℕ) (s : Source) → SourceAt w lists i s → lists ≡ common_of w → SourceHers w lists i s
source_hers w lists i s k q = record {
  kept_hers = λ own z. filtered_hers w i own.now lists (subst (SourceAt w lists i) z k);
  whole_hers = λ z. filtered_hers w i lists lists (sym (subst (SourceAt w lists i) z k));
  among_common = λ z. q;
}

source_tried : (w lists : List ℕ) (i : ℕ) (s : Source) → Accepted w → SourceAt w lists i s → tried_in Nights w i (listed_by lists s) ≡ tried_in Nights w i lists
source_tried w lists i (Kept own) a k = ap (tried_in Nights w i) k ∙ tried_own w i lists a
source_tried w lists i Whole a k = refl
source_tried w lists i Among a k = refl

module _ {w lists : List ℕ} {plan : List OwnList} (o : OwnLists w lists plan) where
  pub own_tries : lists ≡ common_of w → Tries Nights w lists plan
  own_tries e = record {
    each = λ i l. let at = o.each i l in record { by_night = λ z. record { source_hers = source_hers w lists i (get_or plan i no_list).source at.source_is e; workable_are = at.workable_are; before_is = at.before_is } };
  }

  pub own_sought : (ends : List ℕ) {P : Phase} → Accepted w → SeeksBy Nights w (tried_by Nights w lists ends) P → SeeksBy Nights w (tried_at Nights w lists plan) P
  own_sought ends {P} a s = record {
    nurses_are = s.nurses_are;
    tabu_is = s.tabu_is;
    cost_is = s.cost_is;
    patterns_are = λ i l. s.patterns_are i l ∙ sym (source_tried w lists i (get_or plan i no_list).source a (o.each i l).source_is);
    ascending = s.ascending;
  }

-- ---- by day

module _ (w lists ends : List ℕ) (plan : List OwnList) (o : (i : ℕ) → i < nurses w → HasStretch lists ends i (get_or plan i no_list)) where
  pub day_sought : {P : Phase} → SeeksBy Days w (tried_by Days w lists ends) P → SeeksBy Days w (tried_at Days w lists plan) P
  day_sought {P} s = record {
    nurses_are = s.nurses_are;
    tabu_is = s.tabu_is;
    cost_is = s.cost_is;
    patterns_are = λ i l. s.patterns_are i l ∙ ap (tried_in Days w i) (sym (o i l));
    ascending = s.ascending;
  }
