use Rattle.std.proofs.Common.{arith, slice_index_or, sym}
use Rattle.rs_graph.proofs.Buckets.{place_in}
use Rattle.rs_explain.proofs.Circling.{least_done}
use Rattle.rs_explain.proofs.rounds.least.Goals as goal

pub bounds-far-row : goal.bounds-far-row
bounds-far-row c = c.requires.within (slice_index_or c.args.row.now c.loop-i.i 0) (place_in c.args.row.now c.loop-i.i c.loop-i-test.true)

pub returns : goal.returns
returns c = sym (least_done c.args.far.now c.args.row.now c.loop-i.least c.loop-i.i (grind (arith, c.loop-i-test.false)) c.loop-i.invariant)
