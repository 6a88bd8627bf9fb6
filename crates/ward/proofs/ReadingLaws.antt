-- The body of the numbers that the reader gives with a yes is an accepted ward.
use Rattle.std.specs.Prelude.{ℕ, ◌-◌, ◌≤◌, ◌<◌, ◌≡◌, refl, List, ◌++◌, length, get_or, take, replicate}
use Rattle.std.proofs.Common.{sym, ap, ◌∙◌, subst, arith, length-append, take_at}
use Rattle.std.specs.declared.result.Result.TheVariants.{Ok}
use Rattle.ward.specs.declared.Ward.{Ward}
use Rattle.layout.specs.Grammar.{Read, good, bad}
use Rattle.ward.specs.Answers.{reading_of, read_ward, check_ward}
use Rattle.fields.specs.Sizes.{number_places}
use Rattle.fields.specs.Fields.{body_of, Accepted}
use Rattle.codec.proofs.NumberLaws.{all_bytes}
use Rattle.layout.specs.Layout.{ward}
use Rattle.layout.proofs.AcceptLaws.{read_checked}
use Rattle.ward.specs.Body.{WardIn}
use Rattle.ward.proofs.RoundTrip.{ward_back}
use Rattle.ward.proofs.AcceptedLaws.{accepted_ward, long_ward}

-- whatever the file holds
pub list_accepted : (file ws : List ℕ) → read_ward file ≡ good ws → Accepted (body_of ws)
unfolding read_ward check_ward
list_accepted file ws e = accepted_ward ws ws (read_checked ward 0 0 file ws e)

pub read_accepted : (file ws : List ℕ) → ((i : ℕ) → get_or file i 0 < 256) → read_ward file ≡ good ws → Accepted (body_of ws)
read_accepted file ws bytes e = accepted_ward ws ws (ward_back file ws (all_bytes file bytes) e).1

-- what holds of the numbers of every yes holds of those that the reading counts
of_reading : (P : List ℕ → Type 0) (file : List ℕ) (w : Ward) → ((ws : List ℕ) → read_ward file ≡ good ws → P ws)
    → Ok w ≡ reading_of (read_ward file) → P (take w.count w.numbers)
unfolding reading_of
of_reading P file w holds e = go (read_ward file) refl e
  where
    go : (x : Read) → read_ward file ≡ x → Ok w ≡ reading_of x → P (take w.count w.numbers)
    go (good ws) q same =
        let r : w ≡ record { numbers = ws ++ replicate (number_places - length ws) 0; count = length ws } = cc in
        let is : take w.count w.numbers ≡ ws = ap (λ (y : Ward). take y.count y.numbers) r ∙ take_at ws _ (length ws) refl in
        subst P (sym is) (holds ws q)
    go (bad n) q same = absurd (cc)

pub reading_accepted : (file : List ℕ) (w : Ward) → ((i : ℕ) → get_or file i 0 < 256) → Ok w ≡ reading_of (read_ward file)
    → Accepted (body_of (take w.count w.numbers))
reading_accepted file w bytes e = of_reading (λ ws. Accepted (body_of ws)) file w (λ ws q. read_accepted file ws bytes q) e

-- they are enough to have a body
pub reading_long : (file : List ℕ) (w : Ward) → ((i : ℕ) → get_or file i 0 < 256) → Ok w ≡ reading_of (read_ward file)
    → 2 ≤ length (take w.count w.numbers)
reading_long file w bytes e =
    of_reading (λ ws. 2 ≤ length ws) file w (λ ws q. long_ward ws ws (ward_back file ws (all_bytes file bytes) q).1) e

-- and the count is one of the array's
pub reading_fits : (file : List ℕ) (w : Ward) → Ok w ≡ reading_of (read_ward file) → w.count ≤ length w.numbers
unfolding reading_of
reading_fits file w e = go (read_ward file) e
  where
    go : (x : Read) → Ok w ≡ reading_of x → w.count ≤ length w.numbers
    go (good ws) same =
        let r : w ≡ record { numbers = ws ++ replicate (number_places - length ws) 0; count = length ws } = cc in
        subst (λ (y : Ward). y.count ≤ length y.numbers) (sym r) (simp length-append (omega arith))
    go (bad n) same = absurd (cc)

pub ward_in : (file : List ℕ) (w : Ward) → ((i : ℕ) → get_or file i 0 < 256) → Ok w ≡ reading_of (read_ward file) → WardIn w.numbers w.count
ward_in file w bytes e = record { fits = reading_fits file w e; long = reading_long file w bytes e; accepted = reading_accepted file w bytes e }
