use Rattle.std.proofs.Common.{◌+◌, arith, ◌<◌, ◌++◌, ◌∷◌, [], length, set, sym, ap, subst, ◌∙◌, length-set}
use Rattle.rs_derive.specs.Data.{DNode_data}
use Rattle.rs_derive.specs.Derivations.{spot_of}
use Rattle.rs_search.specs.Table.{SpotTable_data}
use Rattle.rs_search.proofs.Filing.{new_rows, row_fits, same_spots, table_same}
use Rattle.rs_search.proofs.table.SpotTable.push_row.Goals as goal

pub invariant_of-self : goal.invariant_of-self
invariant_of-self c =
    let nodes = c.self.inside.nodes.items in
    let k = c.self.inside.known in
    let n = c.index_mut-node.result.now in
    let new : DNode_data = record { state = c.node.inside.state; pending = c.node.inside.pending; above = c.node.inside.above; rank = c.node.inside.rank; next = c.args.row } in
    let lt : k < length nodes = row_fits nodes k c.self.invariant.within (subst (λ (t : SpotTable_data). length t.rows < length t.spots) (sym c.self.view_is) c.requires) in
    table_same nodes (set nodes k new) c.self.inside.index.heads.items c.self.inside.index.entries.items k (k + 1) (same_spots nodes k n new c.index_mut-node.ensures.value (ap spot_of c.node.view_is))
    (let l = length-set nodes k new in omega arith) c.self.invariant

pub returns-clause-spots : goal.returns-clause-spots
returns-clause-spots c =
    let nodes = c.self.inside.nodes.items in
    let k = c.self.inside.known in
    let n = c.index_mut-node.result.now in
    let new : DNode_data = record { state = c.node.inside.state; pending = c.node.inside.pending; above = c.node.inside.above; rank = c.node.inside.rank; next = c.args.row } in
    same_spots nodes k n new c.index_mut-node.ensures.value (ap spot_of c.node.view_is) ∙ ap (λ (t : SpotTable_data). t.spots) c.self.view_is

pub returns-clause-rows : goal.returns-clause-rows
returns-clause-rows c =
    let nodes = c.self.inside.nodes.items in
    let k = c.self.inside.known in
    let new : DNode_data = record { state = c.node.inside.state; pending = c.node.inside.pending; above = c.node.inside.above; rank = c.node.inside.rank; next = c.args.row } in
    let lt : k < length nodes = row_fits nodes k c.self.invariant.within (subst (λ (t : SpotTable_data). length t.rows < length t.spots) (sym c.self.view_is) c.requires) in
    new_rows nodes k new lt ∙ ap (λ (t : SpotTable_data). t.rows ++ c.args.row ∷ []) c.self.view_is
