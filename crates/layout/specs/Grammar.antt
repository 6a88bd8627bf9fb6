-- A layout is a grammar: the fields in order, where what follows a number may depend on the number. Reading and writing are two
-- folds over it. Each asks every question of one number before the next.
use Rattle.std.specs.Prelude.{ℕ, zero, suc, ◌+◌, Bool, true, not, cond, List, [], ◌∷◌, ◌++◌, drop, ltb, eqb}
use Rattle.std.specs.declared.option.Option.{Option}
use Rattle.std.specs.declared.option.Option.TheVariants.{None, Some}
use Rattle.std.specs.declared.result.Result.{Result}
use Rattle.std.specs.declared.result.Result.TheVariants.{Ok, Err}
use Rattle.refusals.specs.declared.Refusal.{Refusal}
use Rattle.refusals.specs.Refusals.{numbered}
use Rattle.refusals.specs.Questions as question
use Rattle.codec.specs.declared.Number.{Number}
use Rattle.codec.specs.declared.Fault.{Fault}
use Rattle.codec.specs.declared.Fault.TheVariants.{Ended, Long}
use Rattle.layout.specs.declared.Field.{Field}
use Rattle.codec.specs.Groups.{decode, encode}

pub data Grammar : Type 0 where
  done : Grammar
  number : Field → (ℕ → Grammar) → Grammar

-- a duty is 3 exactly after a 2
abbrev pub fits : Option ℕ → ℕ → Bool
fits None v = true
fits (Some d) v = cond (eqb d 2) (eqb v 3) (not (eqb v 3))

-- 0, or the first question of 3 and 4 that v fails in its field
unfoldable pub failed_by : Field → ℕ → ℕ
failed_by f v = cond (ltb v f.least) question.range (cond (ltb f.most v) question.range (cond (fits f.after v) 0 question.duty))

-- what reading comes to: the numbers, or a refusal
pub data Read : Type 0 where
  good : List ℕ → Read
  bad : Refusal → Read

abbrev pub prepend : List ℕ → Read → Read
prepend ws (good vs) = good (ws ++ vs)
prepend ws (bad n) = bad n

-- goes on where the question is 0
abbrev pub on_pass : ℕ → ℕ → Read → Read
on_pass zero at r = r
on_pass (suc q) at r = bad (numbered (suc q) at)

abbrev pub on_number : Field → ℕ → Result Number Fault → (ℕ → ℕ → Read) → Read
on_number f at (Ok n) go = on_pass (failed_by f n.value) at (go n.value n.used)
on_number f at (Err Ended) go = bad (numbered question.whole at)
on_number f at (Err Long) go = bad (numbered question.shortest at)

-- the numbers at the front of the bytes, of which the first is at the offset `at`; nothing may follow the last
unfoldable pub read : Grammar → ℕ → List ℕ → Read
read done at [] = good []
read done at (b ∷ bs) = bad (numbered question.end at)
read (number f k) at bs = on_number f at (decode bs) (λ v used. prepend (v ∷ []) (read (k v) (at + used) (drop used bs)))

-- the questions of a list of numbers of which the first has the index i
unfoldable pub check : Grammar → ℕ → List ℕ → Read
check done i [] = good []
check done i (w ∷ ws) = bad (numbered question.end i)
check (number f k) i [] = bad (numbered question.whole i)
check (number f k) i (w ∷ ws) = on_pass (failed_by f w) i (prepend (w ∷ []) (check (k w) (i + 1) ws))

unfoldable pub bytes_of : List ℕ → List ℕ
bytes_of [] = []
bytes_of (w ∷ ws) = encode w ++ bytes_of ws
