use Rattle.std.proofs.Common.{arith, ◌≡◌, length, slice_index_or, slice_get, Some, refl}
use Rattle.std.proofs.lemmas.List.{length-set}
use Rattle.rs_graph.proofs.Buckets.{place_in}
use Rattle.rs_graph.proofs.Growth.{reads_at}
use Rattle.rs_graph.proofs.Building.{any_on, fill_none}
use Rattle.rs_graph.proofs.build.fill_any.Goals as goal

pub loop-i-init : goal.loop-i-init
loop-i-init c = fill_none c.args.graph.now c.args.node c.requires.empty c.requires.into

pub add_edge-requires-clause-target : goal.add_edge-requires-clause-target
add_edge-requires-clause-target c =
    let w = c.requires.within (slice_index_or c.args.row.now c.loop-i.i 0) (place_in c.args.row.now c.loop-i.i c.loop-i-test.true) in
    let s = c.loop-i.invariant.size in
    let l : length c.add_move.new.self.outs ≡ length c.loop-i.graph.outs = rw c.in_ok-place.ensures.outs (length-set c.loop-i.graph.outs c.args.node _) in
    omega arith

pub loop-i-preserved : goal.loop-i-preserved
loop-i-preserved c =
    let w = c.requires.within (slice_index_or c.args.row.now c.loop-i.i 0) (place_in c.args.row.now c.loop-i.i c.loop-i-test.true) in
    let is : slice_get c.args.row.now c.loop-i.i ≡ Some (slice_index_or c.args.row.now c.loop-i.i 0)
    = reads_at c.args.row.now c.loop-i.i (slice_index_or c.args.row.now c.loop-i.i 0) 0 c.loop-i-test.true refl in
    any_on c.args.graph.now c.loop-i.graph c.add_move.new.self c.add_edge.new.self c.args.node c.loop-i.i
    (slice_index_or c.args.row.now c.loop-i.i 0) c.in_ok-place.place c.args.row.now c.requires.present w is c.loop-i.invariant
    c.in_ok-place.ensures.outs c.in_ok-place.ensures.intos c.in_ok-place.ensures.place c.in_ok-add_edge.ensures.outs c.in_ok-add_edge.ensures.intos
