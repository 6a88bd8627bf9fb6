-- What is kept comes back as it was, so every list of advances goes as from the moment of keeping.
use Rattle.std.proofs.Common.{ap}
use Rattle.history.specs.Phase.{in_turn}
use Rattle.search.specs.declared.Record.{Record as Stored}
use Rattle.keeping.proofs.AssuranceLaws.{assurance}
use Rattle.planner.specs.Advances.{advance_nights, advance_days}
use Rattle.planner.specs.Assurance.{Assured}

pub assured : Assured
assured storage n kept in_hand meanwhile sized may others =
    let back = assurance.unchanged storage n kept in_hand meanwhile sized may others in
    record {
      done = back.0;
      nights = λ file cs. ap (λ (x : Stored). in_turn (advance_nights file) cs x) back.1;
      days = λ file nights cs. ap (λ (x : Stored). in_turn (advance_days file nights) cs x) back.1;
    }
