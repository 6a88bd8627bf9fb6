-- Demand 3: one claim about a whole list of operations.
use Rattle.std.specs.Prelude.{ℕ, suc, ◌-◌, ◌≤◌, ◌<◌, ◌≡◌, Bool, true, false, ◌≢◌, ◌↔◌, ◌⊎◌, length, List, [], ◌∷◌, ◌++◌}
use Rattle.std.proofs.Math.Option.{Option, none, some}
use mathlib.Core.List.{Memᴰ}
use Rattle.refusals.specs.Refusals.{numbered}
use Rattle.refusals.specs.Questions as question
use Rattle.history.specs.Phase.{Step, Phase, unplaced, Call, Answer, refused, ended, End, end_zero, end_asked, end_none, refusal, in_turn}
use Rattle.refusals.specs.declared.Refusal.{Refusal}
use Rattle.history.specs.History.{History, in_use, penalty}
use Rattle.history.specs.Record.{Record, record_of, fresh}
use Rattle.history.specs.Session.{Operation, operation_advance, operation_keep, operation_return, Answered, advanced, stored, Session, begun, known, no13, act, answers, session}

-- after h: an exchange gives one nurse, placed or not, a pattern of hers that is neither in use by her nor given up by her in the last TL steps
pub record Allowed (P : Phase) (h : History) (s : Step) : Type 0 where
  pub nurse : s.nurse < P.nurses
  pub hers : Memᴰ s.pattern (P.patterns s.nurse)
  pub not_in_use : in_use h s.nurse ≢ some s.pattern
  pub not_given_up : (later earlier : History) (t : Step) → h ≡ later ++ (t ∷ earlier) → length later < P.tabu
      → t.nurse ≡ s.nurse → in_use earlier s.nurse ≢ some s.pattern

-- s, which leaves penalty c, goes before t, which leaves d, or is t
pub record NotAfter (c d : ℕ) (s t : Step) : Type 0 where
  pub penalty : c ≤ d
  pub nurse : c ≡ d → s.nurse ≤ t.nurse
  pub number : c ≡ d → s.nurse ≡ t.nurse → s.pattern ≤ t.pattern

-- after h: of all the exchanges allowed s is the one to take: the least resulting penalty; then the lowest nurse; then the lowest number
pub record Least (P : Phase) (h : History) (s : Step) : Type 0 where
  pub allowed : Allowed P h s
  pub least : (t : Step) → Allowed P h t → NotAfter (penalty P (s ∷ h)) (penalty P (t ∷ h)) s t

-- each step of a history, at its place, was the one to take
abbrev pub Steps : (P : Phase) → History → Type 0
Steps P h = (later : History) (s : Step) (earlier : History) → h ≡ later ++ (s ∷ earlier) → Least P earlier s

-- an advance, not refused, that took the history from h to h' and answered end e, n steps, penalty c and letters l
pub record Made (P : Phase) (call : Call) (h h' : History) (e : End) (n c : ℕ) (l : List ℕ) : Type 0 where
  pub new : History
  pub added : h' ≡ new ++ h
  pub steps : n ≡ length new
  pub after : c ≡ penalty P h'
  pub at_most : n ≤ call.steps
  -- each of its steps, at its place, was due and the one to take
  pub each : (later : History) (s : Step) (earlier : History) → new ≡ later ++ (s ∷ earlier)
      → (call.past_zero ≡ false → penalty P (earlier ++ h) ≢ 0) × Least P (earlier ++ h) s
  pub asked : e ≡ end_asked → n ≡ call.steps
  pub zero_when : (e ≡ end_zero) ↔ ((call.past_zero ≡ false) × (c ≡ 0))
  pub none_when : (e ≡ end_none) ↔ (((t : Step) → Allowed P h' t → ⊥) × (n < call.steps) × (call.past_zero ≡ false → c ≢ 0))
  -- the roster goes by the penalty, whatever the end
  pub letters : (c ≡ 0 → l ≡ P.letters (in_use h')) × (c ≢ 0 → l ≡ [])
  -- the placing: while someone is unplaced, each step places a nurse
  pub fewer : unplaced P (in_use h') ≤ unplaced P (in_use h) - n

-- the storage has room for eight records, and the number is 1 to 8
abbrev pub Storable : Bool → ℕ → Type 0
Storable room n = (room ≡ true) × (1 ≤ n) × (n ≤ 8)

-- one operation on a session s: what it answers, and the session after it
pub data Went (P : Phase) (room : Bool) (s : Session History) : Operation → Answered → Session History → Type 0 where
  refuses : {c : Call} {n : Refusal} → refusal P c (length s.in_hand) ≡ some n → Went P room s (operation_advance c) (advanced (refused n)) s
  goes : {c : Call} {h' : History} {e : End} {n p : ℕ} {l : List ℕ} → refusal P c (length s.in_hand) ≡ none → Made P c s.in_hand h' e n p l
      → Went P room s (operation_advance c) (advanced (ended e n p l)) (record { in_hand = h'; kept = s.kept })
  keeps : {n : ℕ} {kept : ℕ → Option History} → Storable room n → kept n ≡ some s.in_hand → ((m : ℕ) → m ≢ n → kept m ≡ s.kept m)
      → Went P room s (operation_keep n) (stored none) (record { in_hand = s.in_hand; kept = kept })
  keeps_not : {n : ℕ} → (Storable room n → ⊥) → Went P room s (operation_keep n) (stored no13) s
  returns : {n : ℕ} {h : History} → Storable room n → s.kept n ≡ some h → Went P room s (operation_return n) (stored none) (record { in_hand = h; kept = s.kept })
  returns_not : {n : ℕ} → (Storable room n → s.kept n ≡ none) → Went P room s (operation_return n) (stored no13) s

-- each operation of a list in turn
pub data Turns (P : Phase) (room : Bool) : List Operation → List Answered → Session History → Session History → Type 0 where
  done : {s : Session History} → Turns P room [] [] s s
  turn : {o : Operation} {os : List Operation} {a : Answered} {l : List Answered} {s s' s'' : Session History}
      → Went P room s o a s' → Turns P room os l s' s'' → Turns P room (o ∷ os) (a ∷ l) s s''

-- Demand 3 of a search that holds its record and the records kept in memory of type M: `start` is its memory at fresh with nothing kept, `perform` what an
-- operation answers and the memory that it leaves, and `image` says how the memory holds the records of a session
pub record Demand3 (P : Phase) (room : Bool) {M : Type 0} (start : M) (perform : Operation → M → Answered × M) (image : Session Record → M) (ops : List Operation) : Type 0 where
  -- every answer, and the memory, equal those of the session
  pub follows : in_turn perform ops start ≡ (answers P room ops, image (known (record_of P) (session P room ops)))
  -- each operation in turn, from fresh with nothing kept
  pub each : Turns P room ops (answers P room ops) (begun []) (session P room ops)
  -- each step of the history in hand, at its place, was the one to take
  pub steps : Steps P (session P room ops).in_hand
  -- at every point of this history with as many steps as there are nurses, nobody is unplaced
  pub placed : (later earlier : History) → (session P room ops).in_hand ≡ later ++ earlier → P.nurses ≤ length earlier
      → (i : ℕ) → i < P.nurses → in_use earlier i ≢ none

-- The claim's own words are enough: whatever takes these operations from fresh as they say has these answers and this session, so nobody need believe
-- how they are computed. proofs/Unique shows it.
abbrev pub Determined : Type 0
Determined = (P : Phase) (room : Bool) (ops : List Operation) (l : List Answered) (s : Session History) → Turns P room ops l (begun []) s
    → (l ≡ answers P room ops) × (s ≡ session P room ops)

-- ---- where there is nothing to search

-- nurse i is the lowest who has no pattern
pub record Without (P : Phase) (i : ℕ) : Type 0 where
  pub nurse : i < P.nurses
  pub no_pattern : P.patterns i ≡ []
  pub lower : (j : ℕ) → j < i → P.patterns j ≢ []

-- every nurse has a pattern, or some nurse is the lowest who has none; proofs/WithoutLaws shows it
abbrev pub OneOrOther : Type 0
OneOrOther = (P : Phase) → ((i : ℕ) → i < P.nurses → P.patterns i ≢ []) ⊎ ((i : ℕ) × Without P i)

-- the first no of questions 7 to 9, or else that of question 10, which names nurse i
abbrev pub or_ten : ℕ → Option Refusal → Refusal
or_ten i (some n) = n
or_ten i none = numbered question.patterns (suc i)

-- an advance that is refused with the no that its call has: the search is as it was
abbrev pub turned_away : {T : Type 0} → (Call → Refusal) → Call → T → Answer × T
turned_away why c search = (refused (why c), search)

-- every advance of a list is refused, with the no that its call has; all else is as above, and every record is fresh
abbrev pub AllRefused : Bool → {M : Type 0} → M → (Operation → M → Answered × M) → (Session Record → M) → (Call → Refusal) → List Operation → Type 0
AllRefused room start perform image why ops =
    let r = in_turn (act (turned_away why) room) ops (begun fresh) in
    in_turn perform ops start ≡ (r.0, image r.1)

-- where nurse i is the lowest who has no pattern, every advance from fresh is refused, by questions 7 to 9 or else by 10
abbrev pub Refusing : Phase → Bool → {M : Type 0} → M → (Operation → M → Answered × M) → (Session Record → M) → Type 0
Refusing P room start perform image = (i : ℕ) → Without P i → (ops : List Operation) → AllRefused room start perform image (λ c. or_ten i (refusal P c 0)) ops
