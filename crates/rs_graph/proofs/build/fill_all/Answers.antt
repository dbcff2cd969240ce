use Rattle.std.proofs.Common.{arith, ◌≡◌, slice_index_or, slice_get, Some, refl}
use Rattle.rs_graph.proofs.Buckets.{place_in}
use Rattle.rs_graph.proofs.Growth.{reads_at}
use Rattle.rs_graph.proofs.Building.{all_on, all_begin}
use Rattle.rs_graph.proofs.build.fill_all.Goals as goal

pub loop-i-init : goal.loop-i-init
loop-i-init c = all_begin c.args.graph.now c.add_move.new.self c.args.node c.args.row.now c.requires.present c.requires.empty c.requires.into c.in_ok-add_move.ensures.outs
    c.in_ok-add_move.ensures.intos

pub add_edge-requires-clause-target : goal.add_edge-requires-clause-target
add_edge-requires-clause-target c =
    let w = c.requires.within (slice_index_or c.args.row.now c.loop-i.i 0) (place_in c.args.row.now c.loop-i.i c.loop-i-test.true) in
    let s = c.loop-i.invariant.size in
    omega arith

pub loop-i-preserved : goal.loop-i-preserved
loop-i-preserved c =
    let w = c.requires.within (slice_index_or c.args.row.now c.loop-i.i 0) (place_in c.args.row.now c.loop-i.i c.loop-i-test.true) in
    let is : slice_get c.args.row.now c.loop-i.i ≡ Some (slice_index_or c.args.row.now c.loop-i.i 0)
    = reads_at c.args.row.now c.loop-i.i (slice_index_or c.args.row.now c.loop-i.i 0) 0 c.loop-i-test.true refl in
    all_on c.args.graph.now c.loop-i.graph c.add_edge.new.self c.args.node c.loop-i.i
    (slice_index_or c.args.row.now c.loop-i.i 0) c.args.row.now c.requires.present w is c.loop-i.invariant c.in_ok-add_edge.ensures.outs c.in_ok-add_edge.ensures.intos
