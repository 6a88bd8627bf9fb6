-- What becomes of the patterns that the walk comes to: those with one start more, and those of the days so far.
use Rattle.std.specs.Prelude.{◌≡◌, refl, Bool, List, [], ◌∷◌, ◌++◌, ℕ, ◌+◌, ◌^◌, ◌≤◌, ◌<◌, length, set, take, drop}
use Rattle.std.proofs.Common.{sym, ap, ap₂, ◌∙◌, subst, add-one, arith, length-append, length-drop, length-take-le, take-append-drop, take_all, take-suc-set}
use Rattle.fields.specs.declared.rules.Rules.{Rules}
use Rattle.nightlists.specs.declared.State.{State}
use Rattle.nightlists.specs.CodeGathering.{GatheringLaws, Appended}
use Rattle.nightlists.specs.CodeWalk.{closed, here, listed, leaves}
use Rattle.nightlists.proofs.WalkLaws.{More, here_is, here_only, listed_first}
use Rattle.nightlists.proofs.LastLaws.{Begun, begun_left, length_leaves}

-- ---- those with one start more

pub leaves_none : (a : ℕ) → [] ≡ leaves a 0
unfolding leaves
leaves_none a = refl

pub leaf_more : (a day : ℕ) (part : List ℕ) {b : ℕ} → take day part ≡ leaves a day → day < length part → b ≡ 2 ^ day → take (day + 1) (set part day (a + b)) ≡ leaves a (day + 1)
unfolding leaves
leaf_more a day part e l p = rw (add-one day, p) (take-suc-set part day (a + 2 ^ day) l ∙ ap (λ (xs : List ℕ). xs ++ ((a + 2 ^ day) ∷ [])) e)

-- the part of the buffer that they fill is given back
pub leaves_done : (a shut day : ℕ) (part : List ℕ) {at : ℕ} {before after : List ℕ} → take day part ≡ leaves a day → length part ≡ shut → shut ≤ day → day ≤ shut → at + shut ≤ length before
    → take (at + shut) after ≡ take at before ++ part → drop (at + shut) after ≡ drop (at + shut) before → Appended (leaves a shut) at before (at + shut) after
leaves_done a shut day part {at} {before} {after} e l m n room front behind =
    let is : day ≡ shut = omega arith in
    let all : part ≡ leaves a shut = sym (take_all shut part (omega arith)) ∙ ap (λ (d : ℕ). take d part) (sym is) ∙ e ∙ ap (leaves a) is in
    let both : length after ≡ length (take (at + shut) after) + length (drop (at + shut) after) = ap length (sym (take-append-drop (at + shut) after)) ∙ length-append _ _ in
    record {
      count = ap (λ (k : ℕ). at + k) (sym (length_leaves a shut));
      front = front ∙ ap (λ (xs : List ℕ). take at before ++ xs) all;
      behind = behind;
      long = omega (arith, both, ap length front, length-append (take at before) part, length-take-le at before (omega arith), ap length behind, length-drop (at + shut) before);
    }

-- written from the buffer's start
pub all_written : (xs : List ℕ) {before after : List ℕ} {next : ℕ} → Appended xs 0 before next after → after ≡ xs ++ drop (length xs) before
all_written xs {before} {after} {next} w =
    let e : next ≡ length xs = omega (arith, w.count) in
    sym (take-append-drop next after) ∙ ap₂ ◌++◌ w.front (w.behind ∙ ap (λ (n : ℕ). drop n before) e)

-- ---- the walk

module _ {L : Type 0} {holds : L → List ℕ → Type 0} {added : L → List ℕ → L → Type 0} (laws : GatheringLaws holds added) where
  -- no start more may come to the pattern made so far
  pub only_here : (r : Rules) (left a : ℕ) (s : State) {done : Bool} {u v : L} → done ≡ closed r s.run s.dist → r.most ≤ s.count → added u (here done a) v → added u (listed r left a s) v
  only_here r left a s {u = u} {v} e few x = subst (λ (xs : List ℕ). added u xs v) (sym (here_only r left a s few ∙ here_is r a s e)) x

  pub room_here : (r : Rules) (left a : ℕ) (s : State) {done : Bool} {u : L} → done ≡ closed r s.run s.dist → holds u (listed r left a s) → holds u (here done a)
  room_here r left a s {u = u} e x =
      let q = listed_first r 0 left a s (omega arith) in
      laws.first u _ q.0 (subst (holds u) (q.1 ∙ ap (λ (xs : List ℕ). xs ++ q.0) (here_is r a s e)) x)

  -- v has the patterns of the days below `day`, and u had none of them
  pub record WalkAt (r : Rules) (left a : ℕ) (s : State) (u : L) (day : ℕ) (v : L) : Type 0 where
    pub room : holds u (listed r left a s)
    pub day_most : day ≤ left
    pub so_far : added u (listed r day a s) v

  module _ {r : Rules} {left a : ℕ} {s : State} {u : L} {day : ℕ} {v : L} (w : WalkAt r left a s u day v) where
    module _ {next last b : ℕ} {t : State} (more : More r day a s last b t next) (most : next ≤ left) where
      pub walk_room : holds v (listed r last b t)
      walk_room =
          let q = listed_first r next left a s most in
          let whole = subst (holds u) (q.1 ∙ ap (λ (xs : List ℕ). xs ++ q.0) more.whole) w.room in
          laws.rest u v (listed r day a s) (listed r last b t) (laws.first u _ q.0 whole) w.so_far

      pub walk_to : {x : L} → added v (listed r last b t) x → WalkAt r left a s u next x
      walk_to {x} y = record {
        room = w.room;
        day_most = most;
        so_far = subst (λ (xs : List ℕ). added u xs x) (sym more.whole) (laws.both u v x _ _ w.so_far y);
      }

    pub walk_end : listed r left a s ≡ listed r day a s → added u (listed r left a s) v
    walk_end e = subst (λ (xs : List ℕ). added u xs v) (sym e) w.so_far

  module _ {r : Rules} {left a : ℕ} {s : State} {days begun shut : ℕ} (b : Begun r left a s days begun shut) {done : Bool} (e : done ≡ closed r s.run s.dist) {u v : L}
      (whole : holds u (listed r left a s)) (first : added u (here done a) v) where
    begun_is : listed r begun a s ≡ here done a ++ leaves a shut
    begun_is = b.whole ∙ ap (λ (xs : List ℕ). xs ++ leaves a shut) (here_is r a s e)

    pub leaves_room : holds v (leaves a shut)
    leaves_room =
        let q = listed_first r begun left a s (begun_left b) in
        let split = subst (holds u) (q.1 ∙ ap (λ (xs : List ℕ). xs ++ q.0) begun_is) whole in
        laws.rest u v (here done a) (leaves a shut) (laws.first u _ q.0 split) first

    pub walk_start : {x : L} → added v (leaves a shut) x → WalkAt r left a s u begun x
    walk_start {x} y = record {
      room = whole;
      day_most = begun_left b;
      so_far = subst (λ (xs : List ℕ). added u xs x) (sym begun_is) (laws.both u v x _ _ first y);
    }
