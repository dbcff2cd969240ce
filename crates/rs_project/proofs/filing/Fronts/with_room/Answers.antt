use Rattle.std.proofs.Common.{rules, arith, List, length, ap}
use Rattle.rs_project.specs.Data.{Front_data}
use Rattle.rs_project.proofs.Buckets.{none_filed}
use Rattle.rs_project.proofs.Singles.{none_lone}
use Rattle.rs_project.proofs.filing.Fronts.with_room.Goals as goal

pub invariant_of-result : goal.invariant_of-result
invariant_of-result c = record {
  filed = none_filed c.in_ok-with_capacity.field-0.items c.in_ok-vec.field-0.items c.in_ok-with_capacity-2.field-0.items c.in_ok-with_capacity.ensures.items
      (search (rules, c.in_ok-vec.ensures.items)) c.in_ok-with_capacity-2.ensures.items;
  lone = none_lone c.in_ok-with_capacity.field-0.items c.in_ok-vec-2.field-0.items c.args.talks c.in_ok-with_capacity.ensures.items (search (rules, c.in_ok-vec-2.ensures.items));
  bounded = (let e = ap (λ (z : List Front_data). length z) c.in_ok-with_capacity.ensures.items in omega (arith, e));
}
