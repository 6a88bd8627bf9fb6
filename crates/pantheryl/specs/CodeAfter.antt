-- What the code leaves in the record's words and in the roster after what the planner answered.
use Rattle.std.specs.Prelude.{ℕ, ◌≡◌, ◌≤◌, List, ◌++◌, length, take, drop, IfOk}
use Rattle.std.specs.declared.result.Result.{Result}
use Rattle.std.specs.declared.result.Result.TheVariants.{Ok, Err}
use Rattle.fields.specs.Sizes.{letter_places}
use Rattle.refusals.specs.declared.Refusal.{Refusal}
use Rattle.letters.specs.declared.written.Roster.{Roster}
use Rattle.outcomes.specs.declared.Advance.{Advance}
use Rattle.recordwords.specs.Words.{words_of_record}

abbrev pub words_after : Result Advance Refusal → List ℕ → List ℕ
words_after (Err n) before = before
words_after (Ok x) before = words_of_record x.after

-- a roster's count is within its array
abbrev pub CountFits : Roster → Type 0
CountFits given = length given.letters ≡ letter_places → given.count ≤ letter_places

abbrev pub roster_with : Roster → List ℕ → List ℕ
roster_with given before = take given.count given.letters ++ drop given.count before

abbrev pub roster_after : Result Advance Refusal → List ℕ → List ℕ
roster_after (Err n) before = before
roster_after (Ok x) before = roster_with x.roster before

unfoldable pub RosterFits : Result Advance Refusal → Type 0
RosterFits r = IfOk r (λ x. CountFits x.roster)
