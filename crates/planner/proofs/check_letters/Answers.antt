use Rattle.std.proofs.Common.{sym, ap, ◌∙◌, Err}
use Rattle.planner.proofs.AnswerLaws.{letters_long, letters_refused, letters_said}
use Rattle.planner.proofs.check_letters.Goals as goal

pub roster_holds-requires : goal.roster_holds-requires
roster_holds-requires c = letters_long c.args.w.now.numbers.now c.args.roster.now c.misplaced_at.result c.nurses.ensures.0 c.days.ensures.0 c.misplaced_at.ensures c.in_default.is

pub returns-then-roster_holds : goal.returns-then-roster_holds
returns-then-roster_holds c = letters_said c.args.w.now.numbers.now c.args.roster.now c.misplaced_at.result c.nurses.ensures.0 c.days.ensures.0 c.misplaced_at.ensures c.in_default.is (sym c.roster_holds.ensures ∙ c.if-roster_holds.true)

pub returns-in-Some : goal.returns-in-Some
returns-in-Some c = ap Err c.at.ensures ∙ letters_refused c.args.w.now.numbers.now c.args.roster.now c.misplaced_at.result c.nurses.ensures.0 c.days.ensures.0 c.misplaced_at.ensures c.in-Some.is

pub returns : goal.returns
returns c = letters_said c.args.w.now.numbers.now c.args.roster.now c.misplaced_at.result c.nurses.ensures.0 c.days.ensures.0 c.misplaced_at.ensures c.in_default.is (sym c.roster_holds.ensures ∙ c.if-roster_holds.false)
