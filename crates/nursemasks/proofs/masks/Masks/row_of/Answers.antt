use Rattle.std.proofs.Common.{ℕ, ◌+◌, ◌*◌, refl, ap}
use Rattle.nursemasks.proofs.MaskLaws.{row_made}
use Rattle.nursemasks.proofs.masks.Masks.row_of.Goals as goal

pub returns : goal.returns
returns c =
    let m = c.args.self.now in
    λ b night second. row_made b c.args.p m.night m.second c.ranges.p.fits night second _ (ap (λ (v : ℕ). v * 2 + m.night) c.from.ensures) refl refl
