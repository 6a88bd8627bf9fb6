-- What becomes of the patterns that the walk comes to: they are counted, or written.
use Rattle.std.specs.Prelude.{◌≡◌, List, [], ◌++◌, ℕ, ◌+◌, ◌-◌, ◌≤◌, length, take, drop, refl}
use Rattle.std.proofs.Common.{sym, ap, ◌∙◌, append_assoc, length-append, arith, append-nil, drop-drop}
use Rattle.nightlists.specs.declared.gathering.Tally.{Tally}
use Rattle.nightlists.specs.declared.gathering.Buffer.{Buffer}

-- what the walk asks of the room for a list of patterns, and of what a list makes of what there is so far
pub record GatheringLaws {L : Type 0} (room : L → List ℕ → Type 0) (added : L → List ℕ → L → Type 0) : Type 0 where
  pub none : (a : L) → added a [] a
  pub both : (a b c : L) (xs ys : List ℕ) → added a xs b → added b ys c → added a (xs ++ ys) c
  pub first : (a : L) (xs ys : List ℕ) → room a (xs ++ ys) → room a xs
  pub rest : (a b : L) (xs ys : List ℕ) → room a (xs ++ ys) → added a xs b → room b ys

-- counted, while there are any to be counted
abbrev pub counted_down : Tally → List ℕ → Tally → Type 0
counted_down a xs b = b.left ≡ a.left - length xs

abbrev pub any_room : Tally → List ℕ → Type 0
any_room a xs = Unit {0}

-- written from the place `at` on, which is then `next`
pub record Appended (xs : List ℕ) (at : ℕ) (before : List ℕ) (next : ℕ) (after : List ℕ) : Type 0 where
  pub count : next ≡ at + length xs
  pub front : take next after ≡ take at before ++ xs
  pub behind : drop next after ≡ drop next before
  pub long : length after ≡ length before

pub record AppendedTo (a : Buffer) (xs : List ℕ) (b : Buffer) : Type 0 where
  pub there : Appended xs a.found a.buf.now b.found b.buf.now
  pub same : b.buf.ghost_name ≡ a.buf.ghost_name

abbrev pub room_behind : Buffer → List ℕ → Type 0
room_behind a xs = a.found + length xs ≤ length a.buf.now

-- ---- their laws

pub tally_laws : GatheringLaws any_room counted_down
tally_laws = record {
  none = λ a. omega arith;
  both = λ a b c xs ys p q. simp length-append (omega arith);
  first = λ a xs ys h. tt;
  rest = λ a b xs ys h p. tt;
}

drop_later : (at next : ℕ) (u v : List ℕ) → at ≤ next → drop at u ≡ drop at v → drop next u ≡ drop next v
drop_later at next u v h e =
    let s : next ≡ at + (next - at) = omega arith in
    rw s (sym (drop-drop (next - at) at u) ∙ ap (drop (next - at)) e ∙ drop-drop (next - at) at v)

pub writes_both : (xs ys : List ℕ) {a b c : ℕ} {u v w : List ℕ} → Appended xs a u b v → Appended ys b v c w → Appended (xs ++ ys) a u c w
writes_both xs ys {a} {b} {c} {u} {v} {w} p q = record {
  count = simp length-append (omega (arith, p.count, q.count));
  front = q.front ∙ ap (λ (l : List ℕ). l ++ ys) p.front ∙ append_assoc (take a u) xs ys;
  behind = q.behind ∙ drop_later b c v u (omega (arith, q.count)) p.behind;
  long = q.long ∙ p.long;
}

pub buffer_laws : GatheringLaws room_behind AppendedTo
buffer_laws = record {
  none = λ a. record { there = record { count = omega arith; front = sym (append-nil (take a.found a.buf.now)); behind = refl; long = refl }; same = refl };
  both = λ a b c xs ys p q. record { there = writes_both xs ys p.there q.there; same = q.same ∙ p.same };
  first = λ a xs ys h. omega (arith, simp length-append at h);
  rest = λ a b xs ys h p. omega (arith, simp length-append at h, p.there.count, p.there.long);
}
