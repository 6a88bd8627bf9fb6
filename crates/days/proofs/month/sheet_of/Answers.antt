use Rattle.std.proofs.Common.{rules, tests, arith, ◌∙◌, ◌≡◌, ◌+◌, length, refl, suc, length-set}
use Rattle.numbers.proofs.BufferLaws.{place_turn}
use Rattle.fields.specs.Sizes.{row_places}
use Rattle.rows.specs.Rows.{started, fixed_day, available_on}
use Rattle.days.specs.Days.{row_duty, may_work}
use Rattle.days.proofs.MonthLaws.{duty_seven, duty_month}
use Rattle.days.proofs.month.sheet_of.Goals as goal

pub loop-d-init : goal.loop-d-init
loop-d-init c =
    let long : length c.seven_days-row.result ≡ row_places = search rules in
    (long, λ t h. c.seven_days-row.ensures t h ∙ duty_seven c.args.b.now.numbers.now c.args.p t h)

pub loop-d-preserved : goal.loop-d-preserved
loop-d-preserved c =
    let b = c.args.b.now.numbers.now in
    let p = c.args.p in
    let l = c.loop-d in
    let day = duty_month b p l.d c.mark.ensures.is (c.states-states.ensures l.d c.loop-d-test.true) c.duty.ensures.is in (
      length-set l.row (l.d + 7) c.duty.result ∙ l.invariant.0,
      λ t h. place_turn (row_duty b p 0) l.row (l.d + 7) c.duty.result (omega arith) l.invariant.1 day t (omega arith),
    )

pub returns : goal.returns
unfolding available_on
returns c =
    let b = c.args.b.now.numbers.now in
    let p = c.args.p in
    let off = started c.args.off in
    record {
      days_is = refl;
      longest_is = refl;
      least_is = search rules;
      most_is = search rules;
      available_days = c.set_of.ensures.set (λ d. may_work b p off (suc d)) (λ i x l e. let state = c.states-states.ensures i l in search (rules, tests));
      fixed_is = c.set_of-2.ensures.set (fixed_day b) (λ i x l e. search (rules, tests));
      within_is = search rules;
      row_is = λ t h. c.loop-d.invariant.1 t (omega arith);
    }
