use Rattle.std.proofs.Common.{rules, tests, ◌≡◌, ◌≤◌, length, sym, ap, ◌∙◌, min}
use Rattle.std.proofs.lemmas.Iterator.{YieldsList-from_slice}
use Rattle.std.proofs.lemmas.Iterator.Search.{all_from_yields_List}
use Rattle.numbers.specs.Range.{up_from, all}
use Rattle.history.specs.Record.{names}
use Rattle.removals.specs.Removals.{slot, no_removal}
use Rattle.removals.specs.declared.Removal.{Removal as StoredRemoval}
use Rattle.search.specs.Stored.{names_at}
use Rattle.phases.specs.CodeQuestions.{phase_of}
use Rattle.phases.proofs.QuestionLaws.{phase_tabu, all_taken}
use Rattle.phases.proofs.questions.AskedPhase.removals_name.Goals as goal

pub returns : goal.returns
returns c =
    let w = c.args.self.now.ward.now.numbers.now in
    let P = phase_of c.args.self.now.which w in
    let held = c.args.rec.removals in
    let test = λ (x : StoredRemoval). names P x.nurse (slot x.has x.pattern) in
    let long : length held ≡ 64 = search rules in
    let few : c.held-n.result ≤ length held = search rules in
    all_from_yields_List test _ _ _ c.all.ensures.ran (YieldsList-from_slice _ c.iter.ensures.rest) (λ x b q k. search (rules, tests))
    ∙ all_taken test held no_removal c.held-n.result few
    ∙ ap (λ n. all (names_at P held) (up_from 0 n)) (c.held-n.ensures ∙ ap (min c.args.rec.steps) (c.tabu.ensures.0 ∙ sym (phase_tabu w c.args.self.now.which)))
