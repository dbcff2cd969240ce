use Rattle.std.proofs.Common.{slice_index_or, refl, sym, arith}
use Rattle.rs_derive.specs.Derivations.{spot_of}
use Rattle.rs_graph.proofs.Buckets.{place_in}
use Rattle.rs_graph.proofs.Growth.{reads_at}
use Rattle.rs_search.proofs.Noding.{nodes_none, nodes_on}
use Rattle.rs_search.specs.Nodes.{node_at_spot}
use Rattle.rs_search.proofs.nodes.nodes_of.Goals as goal

pub loop-i-init : goal.loop-i-init
loop-i-init c = rw c.new-nodes.ensures.items (nodes_none c.args.table.now.spots c.args.items.now c.args.nexts.now c.args.ranks.now)

pub node-at-requires : goal.node-at-requires
node-at-requires c = c.requires.within (slice_index_or c.args.items.now c.loop-i.i 0) (place_in c.args.items.now c.loop-i.i c.loop-i-test.true)

pub loop-i-preserved : goal.loop-i-preserved
loop-i-preserved c =
    let n = slice_index_or c.args.items.now c.loop-i.i 0 in
    let rank = slice_index_or c.args.ranks.now c.loop-i.i 0 in
    let p = spot_of c.node-at.result.now in
    nodes_on c.args.table.now.spots c.args.items.now c.args.nexts.now c.args.ranks.now c.loop-i.i n rank p c.index-nexts-i.result
    c.loop-i.nodes.items c.push_node.new.nodes.items (node_at_spot p rank c.index-nexts-i.result) c.loop-i.invariant
    (reads_at c.args.items.now c.loop-i.i n 0 c.loop-i-test.true refl) c.node-at.ensures
    (reads_at c.args.nexts.now c.loop-i.i c.index-nexts-i.result c.index-nexts-i.result (let a = c.requires.nexts in let b = c.loop-i-test.true in omega arith) (sym c.index-nexts-i.is))
    refl refl c.in_ok-push_node.ensures
