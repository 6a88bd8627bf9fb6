-- The longest ward file has 4,203 bytes: one for each of 4,107 numbers, but seven for the members of each of 16 groups.
use Rattle.std.specs.Prelude.{ℕ, ◌≤◌, ◌≡◌, refl, Bool, true, false, cond, List, length, ltb}
use Rattle.std.proofs.Common.{le_refl, arith, ltb-true, lt-ltb, length-append}
use Rattle.codec.specs.Groups.{encode}
use Rattle.codec.proofs.EncodeLaws.{encode_last, encode_most}
use Rattle.layout.specs.Grammar.{Grammar, done, bytes_of}
use Rattle.layout.specs.Layout.{ward}
use Rattle.layout.specs.Faults.{Takes, none_yet, one_more}
use Rattle.layout.proofs.LargestLaws.{largest, largest_checked, largest_long}
use Rattle.layout.proofs.ListFaultLaws.{check_takes}
use Rattle.layout.proofs.WithinLaws.{WithinBy, and_then, ward_by}

-- a measure that is never less than the bytes of a number bounds the bytes of all
pub takes_bytes : {size : ℕ → ℕ} {g left : Grammar} {ws : List ℕ} {n : ℕ} → ((v m : ℕ) → v ≤ m → length (encode v) ≤ size m)
    → WithinBy size n g → Takes g ws left → length (bytes_of ws) ≤ n
unfolding bytes_of
takes_bytes e w none_yet = omega arith
takes_bytes e (and_then {f} small room on) (one_more {v = v} {vs = vs} r b t) =
    rw (length-append (encode v) (bytes_of vs))
    (omega (arith, e v f.most r.1, takes_bytes e (on v r.0 r.1) t))

-- what a number up to m takes at most: one byte where m fits one, else seven
abbrev bytes_to : ℕ → ℕ
bytes_to m = cond (ltb m 128) 1 7

encode_within : (v m : ℕ) → v ≤ m → length (encode v) ≤ bytes_to m
encode_within v m h = go (ltb m 128) refl
  where
    go : (b : Bool) → ltb m 128 ≡ b → length (encode v) ≤ cond b 1 7
    go true e = let l = ltb-true m 128 e in rw (encode_last v (omega arith)) (le_refl 1)
    go false e = encode_most v

pub longest_file : (ws : List ℕ) → Takes ward ws done → length (bytes_of ws) ≤ 4203
longest_file ws t = takes_bytes encode_within (ward_by bytes_to 7 (λ m s. rw (lt-ltb m 128 s) (le_refl 1)) (λ m. seven (ltb m 128))) t
  where
    seven : (b : Bool) → cond {A = ℕ} b 1 7 ≤ 7
    seven true = omega arith
    seven false = omega arith

-- and there is one of that many
pub longest_there : (ws : List ℕ) × Takes ward ws done × (length (bytes_of ws) ≡ 4203)
longest_there = (largest, (check_takes ward 0 largest largest largest_checked).1, largest_long)
