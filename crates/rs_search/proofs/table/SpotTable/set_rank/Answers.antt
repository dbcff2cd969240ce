use Rattle.std.proofs.Common.{arith, set, ap, ◌∙◌, length-set, take}
use Rattle.rs_derive.specs.Data.{DNode_data}
use Rattle.rs_derive.specs.Derivations.{spot_of}
use Rattle.rs_search.specs.Table.{SpotTable_data}
use Rattle.rs_search.proofs.Filing.{new_ranks, same_nexts, same_spots, table_same}
use Rattle.rs_search.proofs.table.SpotTable.set_rank.Goals as goal

pub invariant_of-self : goal.invariant_of-self
invariant_of-self c =
    let nodes = c.self.inside.nodes.items in
    let k = c.args.number in
    let n = c.index_mut-node.result.now in
    let new : DNode_data = record { state = c.node.inside.state; pending = c.node.inside.pending; above = c.node.inside.above; rank = c.args.rank; next = c.node.inside.next } in
    table_same nodes (set nodes k new) c.self.inside.index.heads.items c.self.inside.index.entries.items c.self.inside.known c.self.inside.known
    (same_spots nodes k n new c.index_mut-node.ensures.value (ap spot_of c.node.view_is))
    (let l = length-set nodes k new in let w = c.self.invariant.within in omega arith) c.self.invariant

pub returns-clause-ranks : goal.returns-clause-ranks
returns-clause-ranks c =
    let nodes = c.self.inside.nodes.items in
    let k = c.args.number in
    let new : DNode_data = record { state = c.node.inside.state; pending = c.node.inside.pending; above = c.node.inside.above; rank = c.args.rank; next = c.node.inside.next } in
    new_ranks nodes k new ∙ ap (λ (t : SpotTable_data). set t.ranks k c.args.rank) c.self.view_is

pub returns-clause-spots : goal.returns-clause-spots
returns-clause-spots c =
    let nodes = c.self.inside.nodes.items in
    let k = c.args.number in
    let n = c.index_mut-node.result.now in
    let new : DNode_data = record { state = c.node.inside.state; pending = c.node.inside.pending; above = c.node.inside.above; rank = c.args.rank; next = c.node.inside.next } in
    same_spots nodes k n new c.index_mut-node.ensures.value (ap spot_of c.node.view_is) ∙ ap (λ (t : SpotTable_data). t.spots) c.self.view_is

pub returns-clause-rows : goal.returns-clause-rows
returns-clause-rows c =
    let nodes = c.self.inside.nodes.items in
    let k = c.args.number in
    let n = c.index_mut-node.result.now in
    let new : DNode_data = record { state = c.node.inside.state; pending = c.node.inside.pending; above = c.node.inside.above; rank = c.args.rank; next = c.node.inside.next } in
    ap (take c.self.inside.known) (same_nexts nodes k n new c.index_mut-node.ensures.value (ap (λ (z : DNode_data). z.next) c.node.view_is)) ∙ ap (λ (t : SpotTable_data). t.rows) c.self.view_is
