-- Questions 1 to 5 of a ward file, and of a list of numbers, are a no exactly where their fault is.
use Rattle.std.specs.Prelude.{ℕ, ◌+◌, ◌≡◌, List}
use Rattle.std.proofs.Common.{ap, ◌∙◌, subst, arith}
use Rattle.fields.specs.Sizes.{number_places}
use Rattle.refusals.specs.Refusals.{numbered}
use Rattle.codec.proofs.NumberLaws.{AllBytes}
use Rattle.fields.specs.Fields.{body_of, Accepted}
use Rattle.layout.specs.Grammar.{good, bad, done}
use Rattle.layout.specs.Layout.{ward}
use Rattle.layout.specs.Faults.{Takes, FileFault, ListFault, FileGood}
use Rattle.ward.proofs.FitsLaws.{ward_fits}
use Rattle.layout.proofs.ReadFaultLaws.{read_fault, fault_read, read_takes, takes_read}
use Rattle.layout.proofs.ListFaultLaws.{check_fault, fault_check, check_takes, takes_check}
use Rattle.ward.specs.Answers.{read_ward, check_ward}
use Rattle.ward.proofs.AcceptedLaws.{accepted_ward}

-- ---- a file

module _ (file : List ℕ) where
  pub file_fault : AllBytes file → (q p : ℕ) → read_ward file ≡ bad (numbered q p) → FileFault ward file q p
  unfolding read_ward
  file_fault a q p e =
      let f = read_fault ward 0 file q p a e in
      let same : f.0 ≡ p = omega (arith, f.1) in
      subst (FileFault ward file q) same f.2

  pub fault_file : (q p : ℕ) → FileFault ward file q p → read_ward file ≡ bad (numbered q p)
  unfolding read_ward
  fault_file q p f = fault_read number_places ward ward_fits 0 file q p f ∙ let z : 0 + p ≡ p = omega arith in ap (λ (x : ℕ). bad (numbered q x)) z

  pub file_good : (w : List ℕ) → AllBytes file → read_ward file ≡ good w → FileGood ward file w
  unfolding read_ward
  file_good w a e = read_takes ward 0 file w a e

  pub good_file : (w : List ℕ) → FileGood ward file w → read_ward file ≡ good w
  unfolding read_ward
  good_file w g = takes_read number_places ward ward_fits 0 file w g

-- ---- a list of numbers

module _ (ws : List ℕ) where
  pub list_fault : (q p : ℕ) → check_ward ws ≡ bad (numbered q p) → ListFault ward ws q p
  unfolding check_ward
  list_fault q p e =
      let f = check_fault ward 0 ws q p e in
      let same : f.0 ≡ p = omega (arith, f.1) in
      subst (ListFault ward ws q) same f.2

  pub fault_list : (q p : ℕ) → ListFault ward ws q p → check_ward ws ≡ bad (numbered q p)
  unfolding check_ward
  fault_list q p f = fault_check ward 0 ws q p f ∙ let z : 0 + p ≡ p = omega arith in ap (λ (x : ℕ). bad (numbered q x)) z

  pub list_good : (vs : List ℕ) → check_ward ws ≡ good vs → (vs ≡ ws) × Takes ward ws done
  unfolding check_ward
  list_good vs e = check_takes ward 0 ws vs e

  pub good_list : Takes ward ws done → check_ward ws ≡ good ws
  unfolding check_ward
  good_list t = takes_check ward 0 ws t

pub good_accepted : (file ws : List ℕ) → FileGood ward file ws → Accepted (body_of ws)
good_accepted file ws g = accepted_ward ws ws (good_list ws g.takes)
