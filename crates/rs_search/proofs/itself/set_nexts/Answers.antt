use Rattle.std.proofs.Common.{set, sym, ap}
use Rattle.rs_derive.specs.Data.{DNode_data}
use Rattle.rs_derive.specs.Derivations.{spot_of}
use Rattle.rs_graph.proofs.Growth.{reads_at}
use Rattle.rs_search.specs.Nodes.{node_at_spot}
use Rattle.rs_search.proofs.itself.set_nexts.Goals as goal

pub returns : goal.returns
returns c =
    let nodes = c.args.nodes.now.items in
    let k = c.args.number in
    let n = c.index_mut-node.result.now in
    record {
      node = n;
      stood = reads_at nodes k n n c.requires.here (sym c.index_mut-node.ensures.value);
      new_is = ap (λ (z : DNode_data). set nodes k (node_at_spot (spot_of z) z.rank c.args.row)) c.node.view_is;
    }
