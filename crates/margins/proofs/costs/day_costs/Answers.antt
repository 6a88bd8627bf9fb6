use Rattle.std.proofs.Common.{rules, refl}
use Rattle.margins.proofs.CostLaws.{third_fits, day_copied, day_costs_small}
use Rattle.margins.proofs.costs.day_costs.Goals as goal

pub invariant_of-result : goal.invariant_of-result
invariant_of-result c =
    let y = c.args.y.now in
    record {
      small = day_costs_small y.sides c.args.n c.requires refl c.copy_from_slice.ensures.after c.copy_from_slice-2.ensures.after c.copy_from_slice-3.ensures.after
          (search rules) (search rules) (search rules) y.small;
    }

pub returns : goal.returns
returns c = (
  refl,
  day_copied c.args.y.now.sides c.args.n c.requires refl c.copy_from_slice.ensures.after c.copy_from_slice-2.ensures.after c.copy_from_slice-3.ensures.after
      (search rules) (search rules) (search rules),
)

pub slice_bounds-costs-end-3 : goal.slice_bounds-costs-end-3
slice_bounds-costs-end-3 c = third_fits c.args.n _ _ _ c.requires refl (search rules) (search rules)
