use Rattle.std.proofs.Common.{ℕ, rules, tests, refl, suc, get_or, ◌∙◌}
use Rattle.numbers.proofs.IterLaws.{all_below}
use Rattle.rows.specs.States.{code}
use Rattle.rows.specs.declared.State.TheVariants.{Open}
use Rattle.rows.specs.Rows.{allows}
use Rattle.fields.specs.Fields.{mark_on}
use Rattle.rows.proofs.RowLaws.{marks_by_index}
use Rattle.nights.proofs.marks_allow.Goals as goal

pub returns : goal.returns
returns c =
    let table = c.args.table.now in
    let b = c.args.b.now in
    let state : ℕ → ℕ = λ d. code (get_or c.states-states.result d Open) in
    all_below (λ d. allows table (mark_on b.numbers.now (suc d)) (state d)) _ b.days c.all.ensures.ran refl refl (λ x b q k. search (rules, tests))
    ∙ marks_by_index table b.numbers.now c.args.p b.days state c.states-states.ensures
