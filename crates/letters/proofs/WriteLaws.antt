-- How a roster is written: a row, and the rows one after the other.
use Rattle.std.specs.Prelude.{◌≡◌, List, ◌++◌, ℕ, suc, ◌+◌, ◌-◌, ◌*◌, ◌≤◌, ◌<◌, length, get_or, take, drop, replicate}
use Rattle.std.proofs.Common.{sym, ap, ap₂, ◌∙◌, suc-mul, zero-mul, mul-le-mul, add-one, arith, get_or-take, length-take-le, take_at, drop_at, take_all}
use Rattle.std.proofs.lemmas.List.{length-replicate, replicate-append-replicate, ext_get_or, append_assoc, drop-drop}
use Rattle.std.proofs.Math.Seq.{paste, drop-append-add}
use Rattle.fields.specs.Sizes.{letter_places}
use Rattle.fields.specs.Fields.{Accepted, nurses, days, block}
use Rattle.rows.specs.Rows.{duty_on}
use Rattle.letters.specs.Letters.{letter, row_letters_of, row_letters, letters}
use Rattle.letters.proofs.RowLaws.{row_length, row_at, row_fits, letters_length}
use Rattle.letters.specs.declared.written.Roster.{Roster}

-- ---- a row

-- the first n letters of an array that has each of them
pub row_is : (b : List ℕ) (n p q : ℕ) (row : List ℕ) → n ≤ length row → ((d : ℕ) → d < n → get_or row d 0 ≡ letter (duty_on b p q (suc d))) → take n row ≡ row_letters_of b n p q
row_is b n p q row long are =
    let first : length (take n row) ≡ n = length-take-le n row long in
    ext_get_or 0 (take n row) (row_letters_of b n p q) (first ∙ sym (row_length b n p q))
    (λ d h. let l : d < n = omega (arith, first) in get_or-take n row d 0 l ∙ are d l ∙ sym (row_at b n p q d l))

-- put over what stood at its places
pub row_put : (over : List ℕ) (at : ℕ) (b : List ℕ) (n p q : ℕ) {row : List ℕ} → row ≡ row_letters_of b n p q → take at over ++ (row ++ drop ((at + n) - at) (drop at over)) ≡ paste over at (row_letters_of b n p q) n
row_put over at b n p q e =
    let s = row_letters_of b n p q in
    let k : (at + n) - at ≡ n = omega arith in
    let whole : take n s ≡ s = take_all n s (omega (arith, row_length b n p q)) in
    rw (k, e, whole, append_assoc, drop-drop)

-- ---- the rows

drop_zeros : (n k m : ℕ) → k ≡ n + m → drop n (replicate {A = ℕ} k 0) ≡ replicate m 0
drop_zeros n k m e =
    ap (λ (x : ℕ). drop n (replicate {A = ℕ} x 0)) e
    ∙ ap (drop n) (sym (replicate-append-replicate n m 0))
    ∙ drop_at (replicate n 0) (replicate m 0) n (length-replicate n 0)

module _ (w : List ℕ) (ps qs : ℕ → ℕ) where
  -- the first i rows, and 0 after them
  abbrev pub Rows : ℕ → List ℕ → Type 0
  Rows i all = all ≡ letters w ps qs i ++ replicate (letter_places - i * days w) 0

  pub rows_start : Rows 0 (replicate letter_places 0)
  unfolding letters
  rows_start =
      let z : letter_places - 0 * days w ≡ letter_places = omega (arith, zero-mul (days w)) in
      rw z

  row_over : (i : ℕ) (zeros row : List ℕ) → length row ≡ days w
      → paste (letters w ps qs i ++ zeros) (i * days w) row (days w) ≡ (letters w ps qs i ++ row) ++ drop (days w) zeros
  row_over i zeros row long =
      let before = letters w ps qs i in
      let n = days w in
      let back : i * n + n ≡ length before + n = ap (λ (x : ℕ). x + n) (sym (letters_length w ps qs i)) in
      ap₂ (λ (x y : List ℕ). (x ++ take n row) ++ y)
      (take_at before zeros (i * n) (letters_length w ps qs i))
      (ap (λ (x : ℕ). drop x (before ++ zeros)) back ∙ drop-append-add before zeros n)
      ∙ ap (λ (x : List ℕ). (before ++ x) ++ drop n zeros) (take_all n row (omega arith))

  pub rows_turn : (i : ℕ) {all next : List ℕ} → Rows i all → i < nurses w → nurses w * days w ≤ letter_places
      → next ≡ paste all (i * days w) (row_letters w i (ps i) (qs i)) (days w) → Rows (i + 1) next
  unfolding letters
  rows_turn i e h fits q =
      let n = days w in
      let row = row_letters w i (ps i) (qs i) in
      let rest : letter_places - i * n ≡ n + (letter_places - suc i * n) = omega (arith, row_fits (nurses w) n i h, suc-mul i n) in
      q ∙ ap (λ (x : List ℕ). paste x (i * n) row n) e
      ∙ row_over i (replicate (letter_places - i * n) 0) row (row_length (block w i) n (ps i) (qs i))
      ∙ ap (λ (x : List ℕ). (letters w ps qs i ++ row) ++ x) (drop_zeros n (letter_places - i * n) (letter_places - suc i * n) rest)
      ∙ rw (add-one i)

-- ---- the loop over the nurses

pub record WrittenTo (w : List ℕ) (ps qs : ℕ → ℕ) (i : ℕ) (r : Roster) : Type 0 where
  pub rows_in : r.letters ≡ letters w ps qs i ++ replicate (letter_places - i * days w) 0
  pub count_is : r.count ≡ i * days w

all_room : (w : List ℕ) → Accepted w → nurses w * days w ≤ letter_places
all_room w a = mul-le-mul a.nurses_most a.days_most

module _ (w : List ℕ) (ps qs : ℕ → ℕ) where
  pub written_start : (r : Roster) → r.letters ≡ replicate letter_places 0 → r.count ≡ 0 → WrittenTo w ps qs 0 r
  written_start r e c = record { rows_in = e ∙ rows_start w ps qs; count_is = c ∙ sym (zero-mul (days w)) }

  module _ (i : ℕ) {r : Roster} (t : WrittenTo w ps qs i r) where
    pub written_turn : (next : Roster) (b : List ℕ) (n p q : ℕ) → Accepted w → i < nurses w → b ≡ block w i → n ≡ days w → p ≡ ps i → q ≡ qs i
        → next.letters ≡ paste r.letters r.count (row_letters_of b n p q) n → next.count ≡ r.count + n → WrittenTo w ps qs (i + 1) next
    written_turn next b n p q a h eb en ep eq l c = record {
      rows_in = rows_turn w ps qs i t.rows_in h (all_room w a)
          (l ∙ ap (λ (x : List ℕ). paste r.letters r.count (row_letters_of x n p q) n) eb
          ∙ ap (λ (k : ℕ). paste r.letters r.count (row_letters_of (block w i) k p q) k) en
          ∙ ap₂ (λ (x y : ℕ). paste r.letters r.count (row_letters w i x y) (days w)) ep eq
          ∙ ap (λ (k : ℕ). paste r.letters k (row_letters w i (ps i) (qs i)) (days w)) t.count_is);
      count_is = (let s : suc i * days w ≡ i * days w + days w = suc-mul i (days w) in rw (add-one i) (omega (arith, c, t.count_is, en, s)));
    }
