-- The ward that stands for a file.
use Rattle.std.specs.Prelude.{◌≡◌}
use Rattle.std.specs.declared.result.Result.{Result}
use Rattle.std.specs.declared.result.Result.TheVariants.{Ok, Err}
use Rattle.refusals.specs.declared.Refusal.{Refusal}
use Rattle.ward.specs.declared.Ward.{Ward}

-- the file's own, or one of no numbers where it is refused
abbrev pub Standing : Result Ward Refusal → Ward → Type 0
Standing (Ok w) given = given ≡ w
Standing (Err refusal) given = given.count ≡ 0
