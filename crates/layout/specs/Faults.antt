-- Questions 1 to 5 in words of their own: what is wrong with a file, or with a list of numbers, by a layout. proofs/ReadFaultLaws shows that `read` and
-- proofs/ListFaultLaws that `check` refuse exactly by these.
use Rattle.std.specs.Prelude.{ℕ, ◌≤◌, ◌<◌, ◌≡◌, ◌≢◌, ◌↔◌, ◌⊎◌, List, [], ◌∷◌, ◌++◌, length}
use Rattle.refusals.specs.Questions as question
use Rattle.codec.specs.Bytes.{CutOff, TooLong, Stands}
use Rattle.std.specs.declared.option.Option.{Option}
use Rattle.std.specs.declared.option.Option.TheVariants.{None, Some}
use Rattle.layout.specs.declared.Field.{Field}
use Rattle.layout.specs.Grammar.{Grammar, done, number, bytes_of}

abbrev pub InRange : Field → ℕ → Type 0
InRange f v = (f.least ≤ v) × (v ≤ f.most)

-- a duty is 3 exactly after a 2; nothing else looks at the number before it
abbrev pub FitsBefore : Option ℕ → ℕ → Type 0
FitsBefore None v = Unit
FitsBefore (Some d) v = (d ≡ 2) ↔ (v ≡ 3)

-- the layout takes these numbers, one after the other, and `left` is what is left of it
pub data Takes : Grammar → List ℕ → Grammar → Type 0 where
  none_yet : {left : Grammar} → Takes left [] left
  one_more : {f : Field} {k : ℕ → Grammar} {v : ℕ} {vs : List ℕ} {left : Grammar}
      → InRange f v → FitsBefore f.after v → Takes (k v) vs left → Takes (number f k) (v ∷ vs) left

-- the question that a number fails in its field: 3 before 4
pub data NumberFault (f : Field) (v : ℕ) : ℕ → Type 0 where
  out_of_range : (v < f.least) ⊎ (f.most < v) → NumberFault f v question.range
  unfit : InRange f v → (FitsBefore f.after v → ⊥) → NumberFault f v question.duty

-- the question that bytes fail where this is left of the layout
pub data BytesFault : Grammar → List ℕ → ℕ → Type 0 where
  cut_off : {f : Field} {k : ℕ → Grammar} {bs : List ℕ} → CutOff bs → BytesFault (number f k) bs question.whole
  too_long : {f : Field} {k : ℕ → Grammar} {bs : List ℕ} → TooLong bs → BytesFault (number f k) bs question.shortest
  wrong_number : {f : Field} {k : ℕ → Grammar} {bs : List ℕ} {v q : ℕ} {after : List ℕ}
      → Stands bs v after → NumberFault f v q → BytesFault (number f k) bs q
  more_bytes : {bs : List ℕ} → bs ≢ [] → BytesFault done bs question.end

-- and numbers
pub data NumbersFault : Grammar → List ℕ → ℕ → Type 0 where
  missing : {f : Field} {k : ℕ → Grammar} → NumbersFault (number f k) [] question.whole
  wrong_number : {f : Field} {k : ℕ → Grammar} {v q : ℕ} {after : List ℕ} → NumberFault f v q → NumbersFault (number f k) (v ∷ after) q
  more_numbers : {ws : List ℕ} → ws ≢ [] → NumbersFault done ws question.end

-- A file fails question q at offset p: after the bytes of numbers that the layout takes, so that no earlier question is a no.
pub record FileFault (layout : Grammar) (file : List ℕ) (q p : ℕ) : Type 0 where
  pub taken : List ℕ
  pub left : Grammar
  pub rest : List ℕ
  pub bytes : file ≡ bytes_of taken ++ rest
  pub place : p ≡ length (bytes_of taken)
  pub takes : Takes layout taken left
  pub fault : BytesFault left rest q

-- A list of numbers fails question q at index p.
pub record ListFault (layout : Grammar) (ws : List ℕ) (q p : ℕ) : Type 0 where
  pub taken : List ℕ
  pub left : Grammar
  pub rest : List ℕ
  pub numbers : ws ≡ taken ++ rest
  pub place : p ≡ length taken
  pub takes : Takes layout taken left
  pub fault : NumbersFault left rest q

-- the file's bytes are those of numbers that the layout takes, to its end
pub record FileGood (layout : Grammar) (file ws : List ℕ) : Type 0 where
  pub bytes : file ≡ bytes_of ws
  pub takes : Takes layout ws done
