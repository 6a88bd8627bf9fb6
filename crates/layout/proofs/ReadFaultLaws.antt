-- `read` refuses a file exactly by the faults of specs/Faults, and takes what the layout takes.
use Rattle.std.specs.Prelude.{ℕ, zero, suc, ◌+◌, ◌^◌, ◌<◌, ◌≡◌, refl, List, [], ◌∷◌, ◌++◌, length, drop}
use Rattle.std.proofs.Common.{sym, ap, ◌∙◌, subst, append_assoc, append-nil, arith, length-append}
use Rattle.std.proofs.Math.Seq.{drop-append_seam}
use Rattle.std.specs.declared.result.Result.{Result}
use Rattle.std.specs.declared.result.Result.TheVariants.{Ok, Err}
use Rattle.refusals.specs.Refusals.{numbered}
use Rattle.codec.specs.declared.Number.{Number}
use Rattle.codec.specs.declared.Fault.{Fault}
use Rattle.codec.specs.declared.Fault.TheVariants.{Ended, Long}
use Rattle.codec.specs.Groups.{encode, value, decode}
use Rattle.codec.proofs.NumberLaws.{AllBytes, all_drop, number_read}
use Rattle.codec.proofs.BytesLaws.{cut_off_when, too_long_when, stands_value, value_stands, value_used}
use Rattle.layout.specs.declared.Field.{Field}
use Rattle.layout.specs.Grammar.{Grammar, done, number, failed_by, Read, good, bad, prepend, on_pass, on_number, read, bytes_of}
use Rattle.layout.specs.CodeWant.{Within}
use Rattle.layout.specs.Faults.{Takes, none_yet, one_more, BytesFault, cut_off, too_long, more_bytes, FileFault, FileGood}
use Rattle.layout.proofs.GrammarLaws.{prepend_nil, prepend_more, read_good, read_ended, read_long, read_failed}
use Rattle.layout.proofs.AskedLaws.{asked_none, none_asked, asked_fault, fault_asked, fault_some}

-- ---- what is read

-- what `read g at bs` says of the bytes
abbrev Told : Grammar → ℕ → List ℕ → Read → Type 0
Told g at bs (good ws) = FileGood g bs ws
Told g at bs (bad n) = (p : ℕ) × (n.place ≡ at + p) × FileFault g bs n.question p

here : {g : Grammar} {bs : List ℕ} {q : ℕ} (at : ℕ) → BytesFault g bs q → (p : ℕ) × (at ≡ at + p) × FileFault g bs q p
unfolding bytes_of
here {g} {bs} at h = (0, omega arith, record { taken = []; left = g; rest = bs; bytes = refl; place = refl; takes = none_yet; fault = h })

module _ (f : Field) (k : ℕ → Grammar) (at : ℕ) (bs : List ℕ) (a : AllBytes bs) where
  value_told : (v used : ℕ) → decode bs ≡ value v used → (q : ℕ) → failed_by f v ≡ q → (r : Read) → Told (k v) (at + used) (drop used bs) r
      → Told (number f k) at bs (on_pass q at (prepend (v ∷ []) r))
  unfolding bytes_of
  value_told v used d zero e (good ws) t =
      let o = asked_none f v e in
      record {
        bytes = (value_stands bs v used a d).bytes ∙ ap (λ (l : List ℕ). encode v ++ l) t.bytes;
        takes = one_more o.0 o.1 t.takes;
      }
  value_told v used d zero e (bad n) (p, is, t) =
      let o = asked_none f v e in (
        used + p,
        omega arith,
        record {
          taken = v ∷ t.taken;
          left = t.left;
          rest = t.rest;
          bytes =
              (value_stands bs v used a d).bytes
              ∙ ap (λ (l : List ℕ). encode v ++ l) t.bytes
              ∙ sym (append_assoc (encode v) (bytes_of t.taken) t.rest);
          place = simp length-append (omega (arith, value_used bs v used a d, t.place));
          takes = one_more o.0 o.1 t.takes;
          fault = t.fault;
        },
      )
  value_told v used d (suc q) e r t = here at (BytesFault.wrong_number (value_stands bs v used a d) (asked_fault f v q e))

  number_told : (n : Result Number Fault) → decode bs ≡ n → ((v used : ℕ) → Told (k v) (at + used) (drop used bs) (read (k v) (at + used) (drop used bs)))
      → Told (number f k) at bs (on_number f at n (λ v used. prepend (v ∷ []) (read (k v) (at + used) (drop used bs))))
  number_told (Ok n) d on = value_told n.value n.used d (failed_by f n.value) refl (read (k n.value) (at + n.used) (drop n.used bs)) (on n.value n.used)
  number_told (Err Ended) d on = here at (cut_off ((cut_off_when bs).0 d))
  number_told (Err Long) d on = here at (too_long ((too_long_when bs).0 d))

read_told : (g : Grammar) (at : ℕ) (bs : List ℕ) → AllBytes bs → Told g at bs (read g at bs)
unfolding read bytes_of
read_told done at [] a = record { bytes = refl; takes = none_yet }
read_told done at (b ∷ bs) a = here at (more_bytes (λ n. absurd (cc)))
read_told (number f k) at bs a = number_told f k at bs a (decode bs) refl (λ v used. read_told (k v) (at + used) (drop used bs) (all_drop used bs a))

pub read_fault : (g : Grammar) (at : ℕ) (bs : List ℕ) (q x : ℕ) → AllBytes bs → read g at bs ≡ bad (numbered q x) → (p : ℕ) × (x ≡ at + p) × FileFault g bs q p
read_fault g at bs q x a e = subst (Told g at bs) e (read_told g at bs a)

pub read_takes : (g : Grammar) (at : ℕ) (bs ws : List ℕ) → AllBytes bs → read g at bs ≡ good ws → FileGood g bs ws
read_takes g at bs ws a e = subst (Told g at bs) e (read_told g at bs a)

-- ---- and the other way

-- after the bytes of numbers that the layout takes, what is left of it reads the rest
read_on : (n at : ℕ) (rest : List ℕ) {g : Grammar} {vs : List ℕ} {left : Grammar} → Takes g vs left → Within n g
    → read g at (bytes_of vs ++ rest) ≡ prepend vs (read left (at + length (bytes_of vs)) rest)
unfolding bytes_of
read_on n at rest (none_yet {left}) w = prepend_nil (read left at rest) ∙ ap (λ (m : ℕ). prepend [] (read left m rest)) (omega arith)
read_on zero at rest (one_more r h t) w = absurd w
read_on (suc n) at rest (one_more {f} {k} {v} {vs} {left} r h t) w =
    let small : v < 2 ^ 49 = omega (arith, r.1, w.0) in
    let size = length (encode v) in
    let more = bytes_of vs ++ rest in
    let place : at + size + length (bytes_of vs) ≡ at + length (encode v ++ bytes_of vs) = simp length-append (omega arith) in
    ap (read (number f k) at) (append_assoc (encode v) (bytes_of vs) rest)
    ∙ read_good (number f k) f at (encode v ++ more) refl v size (number_read v more small) (none_asked f v r h)
    ∙ ap (λ (l : List ℕ). prepend (v ∷ []) (read (k v) (at + size) l)) (drop-append_seam (encode v) more)
    ∙ ap (prepend (v ∷ [])) (read_on n (at + size) rest t (w.1 v r.0 r.1))
    ∙ prepend_more (v ∷ []) vs (read left (at + size + length (bytes_of vs)) rest)
    ∙ ap (λ (m : ℕ). prepend (v ∷ vs) (read left m rest)) place

fault_here : {g : Grammar} {bs : List ℕ} {q : ℕ} (at : ℕ) → BytesFault g bs q → read g at bs ≡ bad (numbered q at)
unfolding read
fault_here at (cut_off {f} {k} {bs} c) = read_ended (number f k) f at bs refl ((cut_off_when bs).1 c)
fault_here at (too_long {f} {k} {bs} l) = read_long (number f k) f at bs refl ((too_long_when bs).1 l)
fault_here at (BytesFault.wrong_number {f} {k} {bs} {v} {q} {after} s h) =
    let e = fault_asked f v q h in
    read_failed (number f k) f at bs refl v (length (encode v)) (stands_value bs v after s) (λ z. fault_some h (sym e ∙ z))
    ∙ ap (λ (n : ℕ). bad (numbered n at)) e
fault_here at (more_bytes {bs = []} n) = absurd (n refl)
fault_here at (more_bytes {bs = b ∷ bs} n) = refl

pub fault_read : (n : ℕ) (g : Grammar) → Within n g → (at : ℕ) (bs : List ℕ) (q p : ℕ) → FileFault g bs q p → read g at bs ≡ bad (numbered q (at + p))
fault_read n g w at bs q p h =
    ap (read g at) h.bytes
    ∙ read_on n at h.rest h.takes w
    ∙ ap (prepend h.taken) (fault_here (at + length (bytes_of h.taken)) h.fault)
    ∙ ap (λ (m : ℕ). bad (numbered q (at + m))) (sym h.place)

pub takes_read : (n : ℕ) (g : Grammar) → Within n g → (at : ℕ) (bs ws : List ℕ) → FileGood g bs ws → read g at bs ≡ good ws
unfolding read
takes_read n g w at bs ws h =
    ap (read g at) (h.bytes ∙ sym (append-nil (bytes_of ws)))
    ∙ read_on n at [] h.takes w
    ∙ ap good (append-nil ws)
