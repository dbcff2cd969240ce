use Rattle.std.proofs.Common.{slice_index_or}
use Rattle.rs_explain.proofs.Lowering.{bounds_on}
use Rattle.rs_explain.proofs.Nearest.{at_place}
use Rattle.rs_explain.proofs.deaths.places_in.Goals as goal

pub loop-i-preserved : goal.loop-i-preserved
loop-i-preserved c =
    bounds_on c.args.sub.now c.args.above.now c.args.bound c.args.found.now.table.spots c.args.order.now c.loop-i.i c.loop-i.far.items (slice_index_or c.args.order.now c.loop-i.i 0) c.requires.order
    c.loop-i.invariant (at_place c.args.order.now c.loop-i.i c.loop-i-test.true)
