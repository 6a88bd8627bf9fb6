-- What the reader's loop keeps, and what each way out of it comes to.
use Rattle.std.specs.Prelude.{ℕ, zero, suc, ◌+◌, ◌-◌, ◌≤◌, ◌<◌, ◌≡◌, refl, List, [], ◌∷◌, ◌++◌, length, take, drop, set, replicate}
use Rattle.std.proofs.Common.{sym, ap, ◌∙◌, subst, append-nil, add-one, arith, length-drop, length-set, take-append-drop, take_all, take-suc-set, drop-set-lt, drop-drop, length-take-le}
use Rattle.std.proofs.lemmas.List.{length-replicate}
use Rattle.std.specs.Result.{IfOk}
use Rattle.std.specs.declared.option.Option.{Option}
use Rattle.std.specs.declared.option.Option.TheVariants.{None, Some}
use Rattle.std.specs.declared.result.Result.{Result}
use Rattle.std.specs.declared.result.Result.TheVariants.{Ok, Err}
use Rattle.fields.specs.Sizes.{number_places}
use Rattle.refusals.specs.Refusals.{numbered}
use Rattle.refusals.specs.Questions as question
use Rattle.layout.specs.declared.Field.{Field}
use Rattle.refusals.specs.declared.Refusal.{Refusal}
use Rattle.codec.specs.declared.Number.{Number}
use Rattle.codec.specs.declared.Fault.{Fault}
use Rattle.codec.specs.declared.Fault.TheVariants.{Ended, Long}
use Rattle.codec.specs.Groups.{value, decode}
use Rattle.ward.specs.declared.Ward.{Ward}
use Rattle.ward.specs.CodeChecked.{said, with_number, number_asked}
use Rattle.layout.specs.Grammar.{Grammar, Read, failed_by, good, bad, prepend, read}
use Rattle.layout.specs.CodeWant.{wanted, after, Within}
use Rattle.layout.specs.Layout.{ward}
use Rattle.ward.specs.Answers.{read_ward, reading_of, count_of}
use Rattle.layout.proofs.GrammarLaws.{within_step, prepend_nil, prepend_more, read_good, read_ended, read_long, read_failed, read_over, read_extra, inside}
use Rattle.ward.proofs.FitsLaws.{ward_fits}

-- `count` numbers are read and stand at the array's front, zeros after them; the grammar g is left to read at the offset `at`
pub record So (file numbers : List ℕ) (count at : ℕ) (g : Grammar) : Type 0 where
  pub long : length numbers ≡ number_places
  pub counted : count ≤ number_places
  pub zeros : drop count numbers ≡ replicate (number_places - count) 0
  pub room : Within (number_places - count) g
  pub in_file : at ≤ length file
  pub same : read_ward file ≡ prepend (take count numbers) (read g at (drop at file))

pub begin : (file numbers : List ℕ) {g : Grammar} → numbers ≡ replicate number_places 0 → g ≡ ward → So file numbers 0 0 g
unfolding read_ward
begin file numbers blank start = subst (So file numbers 0 0) (sym start) (record {
  long = ap length blank ∙ length-replicate {A = ℕ} number_places 0;
  counted = omega arith;
  zeros = blank;
  room = ward_fits;
  in_file = omega arith;
  same = prepend_nil (read ward 0 file);
})

replicate_drop : (n : ℕ) → 0 < n → drop {A = ℕ} 1 (replicate n 0) ≡ replicate (n - 1) 0
replicate_drop n h =
    let e : n ≡ suc (n - 1) = omega arith in
    ap (λ (i : ℕ). drop {A = ℕ} 1 (replicate i 0)) e

-- a number that was asked at its place
pub number_good : (f : Field) (at : ℕ) {n : Number} (d : Result Number Fault) → Ok n ≡ number_asked f at d → (d ≡ Ok n) × (failed_by f n.value ≡ 0)
number_good f at {n} (Ok m) e = go (failed_by f m.value) refl e
  where
    go : (q : ℕ) → failed_by f m.value ≡ q → Ok n ≡ with_number m (said q at) → (◌≡◌ {A = Result Number Fault} (Ok m) (Ok n)) × (failed_by f n.value ≡ 0)
    go zero z x =
        let s : m ≡ n = cc in
        (ap Ok s, subst (λ (i : Number). failed_by f i.value ≡ 0) s z)
    go (suc q) z x = absurd (cc)
number_good f at (Err fault) e = absurd (cc)

-- ---- the answer beside the lent array, and the reading

module _ (file numbers : List ℕ) where
  abbrev pub Lent : Result ℕ Refusal → Type 0
  Lent r = (r ≡ count_of (reading_of (read_ward file))) × IfOk (reading_of (read_ward file)) (λ (w : Ward). numbers ≡ w.numbers)

  pub said_no : {n : Refusal} → read_ward file ≡ bad n → Lent (Err n)
  unfolding reading_of
  said_no q = (
    sym (ap (λ (x : Read). count_of (reading_of x)) q),
    subst (λ (x : Read). IfOk (reading_of x) (λ (w : Ward). numbers ≡ w.numbers)) (sym q) tt,
  )

  pub said_yes : {count : ℕ} → Ok (record { numbers = numbers; count = count }) ≡ reading_of (read_ward file) → Lent (Ok count)
  said_yes q = (ap count_of q, subst (λ (x : Result Ward Refusal). IfOk x (λ (w : Ward). numbers ≡ w.numbers)) q refl)

module _ (file numbers : List ℕ) (count at : ℕ) (g : Grammar) (so : So file numbers count at g) where
  -- what is left of the file, as the code lends it
  abbrev left : List ℕ
  left = take (length file - at) (drop at file)

  left_is : left ≡ drop at file
  left_is = take_all (length file - at) (drop at file) (omega (arith, length-drop at file))

  module _ (f : Field) {next : Option Field} (is : next ≡ wanted g) (some : next ≡ Some f) where
    e : wanted g ≡ Some f
    e = sym is ∙ some

    -- the number n was read
    module _ {n : Number} (asked : Ok n ≡ number_asked f at (decode left)) where
      abbrev v : ℕ
      v = n.value

      abbrev used : ℕ
      used = n.used

      d : decode (drop at file) ≡ value v used
      d = ap decode (sym left_is) ∙ (number_good f at _ asked).0

      a : failed_by f v ≡ 0
      a = (number_good f at _ asked).1

      pub past_end : at + n.used ≤ length file
      past_end = let i = inside (drop at file) v used d in omega (arith, length-drop at file, so.in_file)

      pub moves : 0 < n.used
      moves = (inside (drop at file) v used d).0

      pub space : count < number_places
      space = let s = (within_step (number_places - count) g f v so.room e a).0 in omega arith

      pub turn : {g' : Grammar} → g' ≡ after g n.value → So file (set numbers count n.value) (count + 1) (at + n.used) g'
      turn same = subst (So file (set numbers count v) (count + 1) (at + used)) (sym same) onto
        where
          onto : So file (set numbers count v) (count + 1) (at + used) (after g v)
          onto = record {
            long = length-set numbers count v ∙ so.long;
            counted = omega (arith, space);
            zeros = more_zeros;
            room = subst (λ (n : ℕ). Within n (after g v)) fewer (within_step (number_places - count) g f v so.room e a).1;
            in_file = past_end;
            same = so.same ∙ ap (prepend (take count numbers)) (read_good g f at (drop at file) e v used d a) ∙ prepend_more (take count numbers) (v ∷ []) (read (after g v) (at + used) (drop used (drop at file))) ∙ onward;
          }
            where
              fewer : number_places - count - 1 ≡ number_places - (count + 1)
              fewer = omega arith

              more_zeros : drop (count + 1) (set numbers count v) ≡ replicate (number_places - (count + 1)) 0
              more_zeros =
                  drop-set-lt (count + 1) numbers count v (omega arith)
                  ∙ sym (drop-drop 1 count numbers)
                  ∙ ap (drop 1) so.zeros
                  ∙ replicate_drop (number_places - count) (omega (arith, space))
                  ∙ ap (λ (n : ℕ). replicate n 0) fewer

              onward :
                  prepend (take count numbers ++ (v ∷ [])) (read (after g v) (at + used) (drop used (drop at file)))
                  ≡ prepend (take (count + 1) (set numbers count v)) (read (after g v) (at + used) (drop (at + used) file))
              onward =
                  rw (add-one count, take-suc-set numbers count v (subst (λ (n : ℕ). count < n) (sym so.long) space), drop-drop used at file)

    refused : {n : Refusal} (d : Result Number Fault) → decode (drop at file) ≡ d → Err n ≡ number_asked f at d → read g at (drop at file) ≡ bad n
    refused {n} (Ok m) q x = go (failed_by f m.value) refl x
      where
        go : (p : ℕ) → failed_by f m.value ≡ p → Err n ≡ with_number m (said p at) → read g at (drop at file) ≡ bad n
        go zero z y = absurd (cc)
        go (suc p) z y =
            let s : numbered (suc p) at ≡ n = cc in
            read_failed g f at (drop at file) e m.value m.used q (λ w. absurd (omega (arith, z, w)))
            ∙ ap (λ (i : ℕ). bad (numbered i at)) z
            ∙ ap bad s
    refused {n} (Err Ended) q x = let s : numbered question.whole at ≡ n = cc in read_ended g f at (drop at file) e q ∙ ap bad s
    refused {n} (Err Long) q x = let s : numbered question.shortest at ≡ n = cc in read_long g f at (drop at file) e q ∙ ap bad s

    pub failed : {n : Refusal} → Err n ≡ number_asked f at (decode left) → Lent file numbers (Err n)
    failed x = said_no file numbers (so.same ∙ ap (prepend (take count numbers)) (refused (decode left) (ap decode (sym left_is)) x))

  module _ {next : Option Field} (is : next ≡ wanted g) (none : next ≡ None) where
    over_here : wanted g ≡ None
    over_here = sym is ∙ none

    pub extra : at < length file → Lent file numbers (Err (numbered question.end at))
    extra h = said_no file numbers (so.same ∙ ap (prepend (take count numbers)) (read_extra g at (drop at file) over_here (omega (arith, length-drop at file))))

    pub whole : length file ≤ at → Lent file numbers (Ok count)
    unfolding reading_of
    whole h =
        said_yes file numbers (sym (ap reading_of (so.same ∙ ap (prepend (take count numbers)) over ∙ ap good (append-nil (take count numbers)))
        ∙ (λ i. Ok (record { numbers = filled i; count = sized i }))))
      where
        over : read g at (drop at file) ≡ good []
        over = read_over g at (drop at file) over_here (omega (arith, length-drop at file))

        sized : length (take count numbers) ≡ count
        sized = length-take-le count numbers (omega (arith, so.long, so.counted))

        filled : take count numbers ++ replicate (number_places - length (take count numbers)) 0 ≡ numbers
        filled = rw (sized, ← so.zeros) (take-append-drop count numbers)

-- what the answer beside the array says of the reading
module _ (file numbers : List ℕ) where
  pub lent_reading : {count : ℕ} → Lent file numbers (Ok count) → Ok (record { numbers = numbers; count = count }) ≡ reading_of (read_ward file)
  lent_reading {count} (e, leaves) = go (reading_of (read_ward file)) e leaves
    where
      go : (x : Result Ward Refusal) → Ok count ≡ count_of x → IfOk x (λ (w : Ward). numbers ≡ w.numbers) → Ok (record { numbers = numbers; count = count }) ≡ x
      go (Ok w) q h = let s : count ≡ w.count = cc in λ i. Ok (record { numbers = h i; count = s i })
      go (Err n) q h = absurd (cc)

pub lent_bad : (file : List ℕ) {n : Refusal} → Err n ≡ count_of (reading_of (read_ward file)) → read_ward file ≡ bad n
unfolding reading_of
lent_bad file {n} e = go (read_ward file) e
  where
    go : (x : Read) → Err n ≡ count_of (reading_of x) → x ≡ bad n
    go (good ws) q = absurd (cc)
    go (bad m) q = let s : m ≡ n = cc in ap bad s
