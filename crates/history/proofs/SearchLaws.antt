-- The two searches are not one.
use Rattle.std.specs.Prelude.{Bool, true, false, ◌≢◌}
use Rattle.std.proofs.Common.{sym, ap, true≢false}
use Rattle.history.specs.declared.Search.{Search}
use Rattle.history.specs.declared.Search.TheVariants.{Nights, Days}

abbrev is_days : Search → Bool
is_days Nights = false
is_days Days = true

pub days≢nights : Days ≢ Nights
days≢nights q = true≢false (ap is_days q)

pub nights≢days : Nights ≢ Days
nights≢days q = days≢nights (sym q)
