-- A ward's numbers fit the array that takes them.
use Rattle.std.proofs.Common.{lit≤}
use Rattle.fields.specs.Sizes.{number_places}
use Rattle.layout.specs.CodeWant.{Within}
use Rattle.layout.specs.Layout.{ward}
use Rattle.layout.proofs.WithinLaws.{within_ward}

pub ward_fits : Within number_places ward
ward_fits = within_ward number_places (lit≤ tt)
