use Rattle.penalty.proofs.ColumnLaws.{zeros_all}
use Rattle.penalty.proofs.columns.Columns.empty.Goals as goal

pub returns : goal.returns
returns c =
    let night = c.default.ensures.0 in
    let day = c.default.ensures.1 in
    record { no_nights = zeros_all _ _ night.long (λ d h. night.at d 0 h); no_days = zeros_all _ _ day.long (λ d h. day.at d 0 h) }
