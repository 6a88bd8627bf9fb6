-- The ward's round trips.
use Rattle.std.specs.Prelude.{◌≡◌, refl, List, ℕ}
use Rattle.std.proofs.Common.{sym}
use Rattle.fields.specs.Sizes.{number_places}
use Rattle.codec.proofs.NumberLaws.{AllBytes}
use Rattle.layout.specs.Grammar.{good, bytes_of}
use Rattle.layout.specs.Layout.{ward}
use Rattle.ward.proofs.FitsLaws.{ward_fits}
use Rattle.layout.proofs.ReadFaultLaws.{read_takes, takes_read}
use Rattle.layout.proofs.ListFaultLaws.{check_takes, takes_check}
use Rattle.ward.specs.Answers.{read_ward, check_ward}

pub ward_out : (ws : List ℕ) → check_ward ws ≡ good ws → read_ward (bytes_of ws) ≡ good ws
unfolding check_ward read_ward
ward_out ws e = takes_read number_places ward ward_fits 0 (bytes_of ws) ws (record { bytes = refl; takes = (check_takes ward 0 ws ws e).1 })

pub ward_back : (file ws : List ℕ) → AllBytes file → read_ward file ≡ good ws → (bytes_of ws ≡ file) × (check_ward ws ≡ good ws)
unfolding check_ward read_ward
ward_back file ws a e = let g = read_takes ward 0 file ws a e in (sym g.bytes, takes_check ward 0 ws g.takes)
