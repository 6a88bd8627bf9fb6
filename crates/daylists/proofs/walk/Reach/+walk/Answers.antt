use Rattle.std.proofs.Common.{ap, arith, length, length-append}
use Rattle.daylists.proofs.WalkLaws.{node_yes, day_bit, leaf_lists, stop_lists, node_lists, low_inside, high_inside, none_put, one_put, more_put}
use Rattle.daylists.proofs.walk.Reach.+walk.Goals as goal

pub returns-then-at-places-clause-written : goal.returns-then-at-places-clause-written
returns-then-at-places-clause-written g t c = λ fits. none_put g.L.Listing.Put _ _ _ (omega (arith, fits, c.if-at-places.true, c.places.ensures))

pub returns-then-not-goes_on-clause-value : goal.returns-then-not-goes_on-clause-value
returns-then-not-goes_on-clause-value g t c =
    let none = stop_lists _ c.args.self.now.idle _ _ _ c.goes_on.ensures c.if-not-goes_on.true in
    omega (arith, ap length none, c.requires.at_most)

pub returns-then-not-goes_on-clause-written : goal.returns-then-not-goes_on-clause-written
returns-then-not-goes_on-clause-written g t c =
    let none = stop_lists _ c.args.self.now.idle _ _ _ c.goes_on.ensures c.if-not-goes_on.true in
    λ fits. none_put g.L.Listing.Put _ _ _ (ap length none)

pub returns-then-left-eq0-clause-value : goal.returns-then-left-eq0-clause-value
returns-then-left-eq0-clause-value g t c =
    let one = leaf_lists _ c.args.self.now.idle _ _ _ c.goes_on.ensures c.if-not-goes_on.false c.if-left-eq0.true in
    omega (arith, ap length one, c.requires.at_most, c.if-at-places.false, c.places.ensures)

pub returns-then-left-eq0-clause-written : goal.returns-then-left-eq0-clause-written
returns-then-left-eq0-clause-written g t c =
    let one = leaf_lists _ c.args.self.now.idle _ _ _ c.goes_on.ensures c.if-not-goes_on.false c.if-left-eq0.true in
    λ fits. one_put g.L.Listing.Put _ _ _ _ _ one c.put.ensures

pub walk-next-requires : goal.walk-next-requires
walk-next-requires g t c κs within =
    let node = node_yes c.goes_on.ensures c.if-not-goes_on.false c.if-left-eq0.false in
    (omega (arith, c.decreases, c.if-left-eq0.false), (within, (low_inside c.args.self.now.idle node c.requires.inside, c.requires.at_most)))

pub walk-requires : goal.walk-requires
walk-requires g t c κs within =
    let node = node_yes c.goes_on.ensures c.if-not-goes_on.false c.if-left-eq0.false in
    (omega (arith, c.decreases, c.if-left-eq0.false), (within, (high_inside c.args.self.now.idle node c.requires.inside (day_bit c.requires.inside), omega (arith, c.walk-next.ensures.value, c.walk-next.ensures.places))))

pub returns-clause-value : goal.returns-clause-value
returns-clause-value g t c =
    let whole = node_lists c.args.self.now.idle (node_yes c.goes_on.ensures c.if-not-goes_on.false c.if-left-eq0.false) (day_bit c.requires.inside) in
    omega (arith, c.walk-next.ensures.value, c.walk-next.ensures.places, c.walk.ensures.value, simp length-append at (ap length whole))

pub returns-clause-written : goal.returns-clause-written
returns-clause-written g t c =
    let whole = node_lists c.args.self.now.idle (node_yes c.goes_on.ensures c.if-not-goes_on.false c.if-left-eq0.false) (day_bit c.requires.inside) in
    let long = simp length-append at (ap length whole) in
    λ fits.
    more_put g.L.Listing.Put _ _ _ _ _ _ _ _ whole (c.walk-next.ensures.written (omega (arith, long, fits))) (omega (arith, long, fits, c.walk-next.ensures.value))
    (c.walk.ensures.written (omega (arith, long, fits, c.walk-next.ensures.value, c.walk-next.ensures.places)))
