use Rattle.std.proofs.Common.{length, subst}
use Rattle.rs_search.specs.Nodes.{AreNodes, places_of}
use Rattle.rs_search.specs.Table.{SpotTable_data}
use Rattle.rs_search.proofs.Filing.{table_nodes}
use Rattle.rs_search.proofs.table.SpotTable.into_nodes.Goals as goal

pub returns : goal.returns
returns c =
    subst (λ (t : SpotTable_data). AreNodes t.spots (places_of 0 t.spots) t.rows t.ranks (length t.spots) c.self.inside.nodes.items) c.self.view_is
    (table_nodes c.self.inside.nodes.items c.self.inside.known)
