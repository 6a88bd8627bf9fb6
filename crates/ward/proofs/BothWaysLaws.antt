-- Reading and writing undo each other.
use Rattle.std.specs.Prelude.{ℕ, ◌-◌, ◌≤◌, Bool, true, false, cond, ◌≡◌, refl, List, ◌++◌, ltb, length, take, drop, replicate}
use Rattle.std.proofs.Common.{sym, ap, ◌∙◌, subst, append_assoc, le-ltb, take_at}
use Rattle.std.specs.declared.result.Result.TheVariants.{Ok, Err}
use Rattle.fields.specs.Sizes.{number_places}
use Rattle.ward.specs.declared.Ward.{Ward}
use Rattle.refusals.specs.Refusals.{numbered}
use Rattle.refusals.specs.Questions as question
use Rattle.layout.specs.Grammar.{Read, good, bad, bytes_of}
use Rattle.layout.specs.Layout.{ward}
use Rattle.ward.specs.Answers.{read_ward, reading_of, counted, check_ward, writing_of, left_of}
use Rattle.ward.specs.BothWays.{BothWays}
use Rattle.codec.proofs.NumberLaws.{AllBytes, all_bytes}
use Rattle.layout.proofs.AcceptLaws.{accepted}
use Rattle.ward.proofs.FitsLaws.{ward_fits}
use Rattle.ward.proofs.RoundTrip.{ward_out, ward_back}

-- the numbers that a reading counts
counted_read : (ws : List ℕ) (w : Ward) → reading_of (good ws) ≡ Ok w → counted w ≡ ws
unfolding counted reading_of
counted_read ws w e =
    let r : record { numbers = ws ++ replicate (number_places - length ws) 0; count = length ws } ≡ w = cc in
    ap counted (sym r) ∙ rw append_assoc (take_at ws (replicate (number_places - length ws) 0 ++ replicate (length ws - number_places) 0) (length ws) refl)

-- the numbers that are let through are those that were asked
same_numbers : (ws vs : List ℕ) → check_ward ws ≡ good vs → vs ≡ ws
unfolding check_ward
same_numbers ws vs e = (accepted ward number_places 0 ws vs ward_fits e).same

fits_in : (m : ℕ) (w : List ℕ) {bytes : ℕ} → writing_of m (good w) ≡ Ok bytes → (bytes ≡ length (bytes_of w)) × (ltb m (length (bytes_of w)) ≡ false)
unfolding writing_of
fits_in m w {bytes} e = go (ltb m (length (bytes_of w))) refl e
  where
    go : (b : Bool) → ltb m (length (bytes_of w)) ≡ b → cond b (Err (numbered question.bytes 0)) (Ok (length (bytes_of w))) ≡ Ok bytes → (bytes ≡ length (bytes_of w)) × (b ≡ false)
    go true q y = absurd (cc)
    go false q y = (cc, refl)

module _ (buffer : List ℕ) where
  written : (ws : List ℕ) (bytes : ℕ) (r : Read) → check_ward ws ≡ r → writing_of (length buffer) r ≡ Ok bytes → read_ward (take bytes (left_of buffer r)) ≡ good ws
  unfolding writing_of left_of
  written ws bytes (good vs) e y =
      let s = same_numbers ws vs e in
      let f = fits_in (length buffer) vs y in
      let c : check_ward vs ≡ good vs = ap check_ward s ∙ e in
      rw (f.0, f.1, take_at (bytes_of vs) (drop (length (bytes_of vs)) buffer) (length (bytes_of vs)) refl) (ward_out vs c ∙ ap good s)
  written ws bytes (bad n) e y = absurd (cc)

  back : (file : List ℕ) (w : Ward) (r : Read) → read_ward file ≡ r → AllBytes file → reading_of r ≡ Ok w → length file ≤ length buffer
      → (writing_of (length buffer) (check_ward (counted w)) ≡ Ok (length file)) × (left_of buffer (check_ward (counted w)) ≡ file ++ drop (length file) buffer)
  unfolding writing_of left_of reading_of
  back file w (good ws) e a y l =
      let b = ward_back file ws a e in
      let room : length (bytes_of ws) ≤ length buffer = subst (λ (x : List ℕ). length x ≤ length buffer) (sym b.0) l in
      let c : check_ward (counted w) ≡ good ws = ap check_ward (counted_read ws w y) ∙ b.1 in (
        ap (writing_of (length buffer)) c ∙ simp (le-ltb _ _ room) (ap (λ (x : List ℕ). Ok (length x)) b.0),
        ap (left_of buffer) c ∙ simp (le-ltb _ _ room) (ap (λ (x : List ℕ). x ++ drop (length x) buffer) b.0),
      )
  back file w (bad n) e a y l = absurd (cc)

pub both_ways : BothWays
both_ways = record {
  written_read = λ w buffer bytes y. written buffer (counted w) bytes (check_ward (counted w)) refl y;
  read_written = λ file buffer w h y l. back buffer file w (read_ward file) refl (all_bytes file h) y l;
}
