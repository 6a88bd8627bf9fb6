-- What the loop of `questions` keeps, and what each way out of it comes to.
use Rattle.std.specs.Prelude.{ℕ, zero, suc, ◌+◌, ◌-◌, ◌*◌, ◌^◌, ◌≤◌, ◌<◌, ◌≡◌, min, refl, List, [], ◌∷◌, ◌++◌, length, take, drop, get_or}
use Rattle.std.proofs.Common.{lit≤, sym, ap, ◌∙◌, subst, append_assoc, append-nil, add-one, arith, length-append, length-take, drop_of_length-le, drop-cons, take-suc, get_or-take}
use Rattle.std.proofs.lemmas.List.{length-replicate}
use Rattle.std.proofs.Math.ListN.{get_or-append}
use Rattle.std.specs.declared.option.Option.{Option}
use Rattle.std.specs.declared.option.Option.TheVariants.{None, Some}
use Rattle.std.specs.declared.result.Result.TheVariants.{Ok, Err}
use Rattle.fields.specs.Sizes.{number_places}
use Rattle.refusals.specs.declared.Refusal.{Refusal}
use Rattle.refusals.specs.Refusals.{numbered}
use Rattle.refusals.specs.Questions as question
use Rattle.layout.specs.declared.Field.{Field}
use Rattle.ward.specs.declared.Ward.{Ward}
use Rattle.codec.specs.Groups.{encode}
use Rattle.layout.specs.Grammar.{Grammar, failed_by, good, bad, prepend, check, bytes_of}
use Rattle.layout.specs.CodeWant.{wanted, after, Within, SmallField}
use Rattle.layout.specs.Layout.{ward}
use Rattle.ward.specs.Answers.{counted, check_ward}
use Rattle.ward.specs.CodeChecked.{said, checked_of}
use Rattle.layout.proofs.GrammarLaws.{in_range, small, within_some, within_step, prepend_nil, prepend_more, check_good, check_failed, check_missing, check_ended, check_extra}
use Rattle.layout.proofs.WithinLaws.{within_ward}
use Rattle.codec.proofs.EncodeLaws.{encode_most}

-- ---- the counted numbers

module _ (w : Ward) (long : length w.numbers ≡ number_places) where
  pub counted_length : length (counted w) ≡ w.count
  unfolding counted
  counted_length =
      simp (length-take, length-append, length-replicate) (omega (arith, long))

  pub counted_at : (i : ℕ) → i < w.count → i < number_places → get_or (counted w) i 0 ≡ get_or w.numbers i 0
  unfolding counted
  counted_at i h m =
      get_or-take w.count _ i 0 h ∙ get_or-append w.numbers _ 0 i (subst (λ (n : ℕ). i < n) (sym long) m)

  pub counted_next : (i : ℕ) → i < w.count → i < number_places → drop i (counted w) ≡ get_or w.numbers i 0 ∷ drop (i + 1) (counted w)
  counted_next i h m =
      drop-cons (counted w) i 0 (subst (λ (n : ℕ). i < n) (sym counted_length) h)
      ∙ rw (counted_at i h m, add-one i)

  pub counted_front : (i : ℕ) → i < w.count → i < number_places → take (i + 1) (counted w) ≡ take i (counted w) ++ (get_or w.numbers i 0 ∷ [])
  counted_front i h m =
      rw (add-one i, take-suc (counted w) i 0 (subst (λ (n : ℕ). i < n) (sym counted_length) h), counted_at i h m)

  pub counted_none : (i : ℕ) → w.count ≤ i → drop i (counted w) ≡ []
  counted_none i h = drop_of_length-le (counted w) (subst (λ (n : ℕ). n ≤ i) (sym counted_length) h)

-- ---- the numbers that the loop goes over: the counted ones in the array

module _ (w : Ward) (k i : ℕ) (some : k ≡ min w.count number_places) (h : i < length (take k w.numbers)) where
  pub is_counted : i < w.count
  is_counted = omega (arith, some, h, length-take k w.numbers)

  pub there : get_or (take k w.numbers) i 0 ≡ get_or w.numbers i 0
  there = get_or-take k w.numbers i 0 (omega (arith, h, length-take k w.numbers))

-- ---- the bytes of numbers

pub bytes_append : (xs ys : List ℕ) → bytes_of (xs ++ ys) ≡ bytes_of xs ++ bytes_of ys
unfolding bytes_of
bytes_append [] ys = refl
bytes_append (x ∷ xs) ys = ap (λ (l : List ℕ). encode x ++ l) (bytes_append xs ys) ∙ sym (append_assoc (encode x) (bytes_of xs) (bytes_of ys))

pub bytes_one : (x : ℕ) → bytes_of (x ∷ []) ≡ encode x
unfolding bytes_of
bytes_one x = append-nil (encode x)

-- ---- the loop

-- an answer that is a yes is that of no question
none_said : (q place : ℕ) → Ok tt ≡ said q place → q ≡ 0
none_said zero place e = refl
none_said (suc q) place e = absurd (cc)

-- how many numbers the longest ward has
abbrev pub longest : ℕ
longest = 4107

pub record Walked (w : Ward) (i bytes : ℕ) (g : Grammar) : Type 0 where
  pub long : length w.numbers ≡ number_places
  pub counts : i ≤ w.count
  pub most : i ≤ longest
  pub few : bytes ≤ 7 * i
  pub room : Within (longest - i) g
  pub sum : bytes ≡ length (bytes_of (take i (counted w)))
  pub same : check_ward (counted w) ≡ prepend (take i (counted w)) (check g i (drop i (counted w)))

pub begin : (w : Ward) {g : Grammar} → length w.numbers ≡ number_places → g ≡ ward → Walked w 0 0 g
unfolding check_ward bytes_of
begin w l start = subst (Walked w 0 0) (sym start) (record {
  long = l;
  counts = omega arith;
  most = omega arith;
  few = omega arith;
  room = within_ward longest (lit≤ tt);
  sum = refl;
  same = prepend_nil (check ward 0 (counted w));
})

module _ (w : Ward) (i bytes : ℕ) (g : Grammar) (so : Walked w i bytes g) where
  -- after the loop all are counted, since the longest ward is shorter than the array
  pub all_counted : {k : ℕ} → k ≡ min w.count number_places → length (take k w.numbers) ≤ i → i ≡ w.count
  all_counted {k} some over = omega (arith, so.long, so.counts, so.most, some, over, length-take k w.numbers)

  ended_with : (n : Refusal) → check g i (drop i (counted w)) ≡ bad n → Err n ≡ checked_of (check_ward (counted w))
  unfolding checked_of
  ended_with n e = sym (ap checked_of (so.same ∙ ap (prepend (take i (counted w))) e))

  module _ (f : Field) {next : Option Field} (is : next ≡ wanted g) (some : next ≡ Some f) where
    e : wanted g ≡ Some f
    e = sym is ∙ some

    pub missing : i ≡ w.count → Err (numbered question.whole w.count) ≡ checked_of (check_ward (counted w))
    missing h =
        ended_with (numbered question.whole w.count)
        (ap (check g i) (counted_none w so.long i (omega arith)) ∙ check_missing g f i e ∙ ap (λ (n : ℕ). bad (numbered question.whole n)) h)

    pub room_here : i < longest
    room_here = let s = within_some (longest - i) g so.room e in omega arith

    inside : i < number_places
    inside = omega (arith, room_here)

    module _ (h : i < w.count) where
      pub failed : {n : Refusal} → Err n ≡ said (failed_by f (get_or w.numbers i 0)) i → Err n ≡ checked_of (check_ward (counted w))
      failed {n} x = go (failed_by f (get_or w.numbers i 0)) refl x
        where
          go : (q : ℕ) → failed_by f (get_or w.numbers i 0) ≡ q → Err n ≡ said q i → Err n ≡ checked_of (check_ward (counted w))
          go zero z y = absurd (cc)
          go (suc q) z y =
              let s : numbered (suc q) i ≡ n = cc in
              ended_with n
              (ap (check g i) (counted_next w so.long i h inside)
              ∙ check_failed g f i e _ _ (λ p. absurd (omega (arith, z, p)))
              ∙ ap (λ (k : ℕ). bad (numbered k i)) z
              ∙ ap bad s)

      module _ (yes : Ok tt ≡ said (failed_by f (get_or w.numbers i 0)) i) where
        a : failed_by f (get_or w.numbers i 0) ≡ 0
        a = none_said _ _ yes

        pub below : get_or w.numbers i 0 < 2 ^ 49
        below =
            let r = in_range f _ a in
            let s = subst SmallField e (small (longest - i) g so.room) in
            omega (arith, s.1)

        on : Walked w (i + 1) (bytes + length (encode (get_or w.numbers i 0))) (after g (get_or w.numbers i 0))
        on = record {
          long = so.long;
          counts = omega arith;
          most = omega (arith, room_here);
          few = omega (arith, so.few, encode_most (get_or w.numbers i 0));
          room = subst (λ (n : ℕ). Within n (after g (get_or w.numbers i 0))) fewer (within_step (longest - i) g f _ so.room e a).1;
          sum = summed;
          same = so.same ∙ ap (prepend (take i (counted w))) (ap (check g i) (counted_next w so.long i h inside) ∙ check_good g f i e _ _ a) ∙ onward;
        }
          where
            fewer : longest - i - 1 ≡ longest - (i + 1)
            fewer = omega arith

            front : take (i + 1) (counted w) ≡ take i (counted w) ++ (get_or w.numbers i 0 ∷ [])
            front = counted_front w so.long i h inside

            summed : bytes + length (encode (get_or w.numbers i 0)) ≡ length (bytes_of (take (i + 1) (counted w)))
            summed =
                rw (front, bytes_append, bytes_one, length-append)
                (ap (λ (n : ℕ). n + length (encode (get_or w.numbers i 0))) so.sum)

            onward :
                prepend (take i (counted w)) (prepend (get_or w.numbers i 0 ∷ []) (check (after g (get_or w.numbers i 0)) (i + 1) (drop (i + 1) (counted w))))
                ≡ prepend (take (i + 1) (counted w)) (check (after g (get_or w.numbers i 0)) (i + 1) (drop (i + 1) (counted w)))
            onward = prepend_more (take i (counted w)) (get_or w.numbers i 0 ∷ []) (check (after g (get_or w.numbers i 0)) (i + 1) (drop (i + 1) (counted w))) ∙ rw (← front)

        pub turn :
            {size : ℕ} {g' : Grammar} → size ≡ length (encode (get_or w.numbers i 0)) → g' ≡ after g (get_or w.numbers i 0)
            → Walked w (i + 1) (bytes + size) g'
        turn {size} s t =
            subst (Walked w (i + 1) (bytes + size)) (sym t)
            (subst (λ (n : ℕ). Walked w (i + 1) (bytes + n) (after g (get_or w.numbers i 0))) (sym s) on)

  module _ {next : Option Field} (is : next ≡ wanted g) (none : next ≡ None) where
    over : wanted g ≡ None
    over = sym is ∙ none

    pub extra : i < w.count → Err (numbered question.end i) ≡ checked_of (check_ward (counted w))
    extra h = ended_with (numbered question.end i) (ap (check g i) (drop-cons (counted w) i 0 (subst (λ (n : ℕ). i < n) (sym (counted_length w so.long)) h)) ∙ check_extra g i _ _ over)

    pub whole : w.count ≤ i → Ok bytes ≡ checked_of (check_ward (counted w))
    unfolding checked_of
    whole h =
        sym (ap checked_of (so.same ∙ ap (prepend (take i (counted w))) (ap (check g i) (counted_none w so.long i h) ∙ check_ended g i over) ∙ ap good (append-nil (take i (counted w))))
        ∙ ap Ok (sym so.sum))
