use Rattle.std.proofs.Common.{arith, ◌<◌, List, ℕ, Bool, length, subst, ◌∙◌}
use Rattle.rs_graph.specs.Built.{IsBuilt}
use Rattle.rs_search.specs.Candidates.{start_spot}
use Rattle.rs_search.specs.Turns.{nexts_within}
use Rattle.rs_graph.proofs.Growth.{at_short}
use Rattle.rs_graph.proofs.Removed.{index_at}
use Rattle.rs_search.proofs.Costing.{removal_cost}
use Rattle.rs_search.proofs.Verdicts.{few_rows, rows_within, moves_few, not_found}
use Rattle.rs_search.proofs.survivors.explore.Goals as goal

pub graph_of-requires-clause-bounded : goal.graph_of-requires-clause-bounded
graph_of-requires-clause-bounded g c = λ n. rw (c.as_slice-2.ensures.value ∙ c.in-Ok.ensures) (few_rows c.args.found.table.rows c.requires.found.noted.short n)

pub graph_of-requires-clause-within : goal.graph_of-requires-clause-within
graph_of-requires-clause-within g c =
    rw (c.as_slice-2.ensures.value ∙ c.in-Ok.ensures)
    (rows_within (nexts_within c.args.sub.now c.args.above.now c.args.bound) (start_spot c.args.sub.now c.args.above.now) c.args.found.table.spots c.args.found.table.rows c.requires.found.discovery)

pub remove-requires-clause-bounded : goal.remove-requires-clause-bounded
remove-requires-clause-bounded g c = λ n. moves_few c.as_slice.result.now c.as_slice-2.result.now c.in-Ok-graph_of.graph 4294967296 c.in-Ok-graph_of.ensures (omega arith)
    (λ m. rw (c.as_slice-2.ensures.value ∙ c.in-Ok.ensures) (few_rows c.args.found.table.rows c.requires.found.noted.short m)) n

pub returns-then-index-moves-clause-err : goal.returns-then-index-moves-clause-err
returns-then-index-moves-clause-err g c =
    let b1 : IsBuilt c.args.found.anys.items c.as_slice-2.result.now (length c.as_slice-2.result.now) c.in-Ok-graph_of.graph
    = subst (λ (z : List Bool). IsBuilt z c.as_slice-2.result.now (length c.as_slice-2.result.now) c.in-Ok-graph_of.graph) c.as_slice.ensures.value c.in-Ok-graph_of.ensures in
    let b2 : IsBuilt c.args.found.anys.items c.args.found.table.rows (length c.args.found.table.rows) c.in-Ok-graph_of.graph
    = subst (λ (z : List (List ℕ)). IsBuilt c.args.found.anys.items z (length z) c.in-Ok-graph_of.graph) (c.as_slice-2.ensures.value ∙ c.in-Ok.ensures) b1 in
    let f = at_short c.args.found.table.spots 0 (start_spot c.args.sub.now c.args.above.now) c.requires.found.discovery.first in
    let some : 0 < length c.in-Ok-remove.left.current.items = (let a = c.in-Ok-remove.ensures.removal.size in let b = b2.size in let d = c.requires.found.discovery.all in omega arith) in
    not_found c.args.sub.now c.args.above.now c.args.bound c.args.found.table.spots c.args.found.table.rows c.args.found.anys.items c.in-Ok-graph_of.graph c.in-Ok-remove.left.current.items
    c.in-Ok-remove.left.order.items c.args.found.cut
    c.requires.found.discovery c.requires.bounded c.requires.found.noted.anys c.requires.found.noted.cut b2 c.in-Ok-remove.ensures.removal
    (index_at c.in-Ok-remove.left.current.items 0 c.index.result.now some c.index.ensures ∙ c.if-index-moves.true ∙ c.moves.ensures)

pub returns-then-index-moves-clause-cost : goal.returns-then-index-moves-clause-cost
returns-then-index-moves-clause-cost g c =
    let b1 : IsBuilt c.args.found.anys.items c.as_slice-2.result.now (length c.as_slice-2.result.now) c.in-Ok-graph_of.graph
    = subst (λ (z : List Bool). IsBuilt z c.as_slice-2.result.now (length c.as_slice-2.result.now) c.in-Ok-graph_of.graph) c.as_slice.ensures.value c.in-Ok-graph_of.ensures in
    let b2 : IsBuilt c.args.found.anys.items c.args.found.table.rows (length c.args.found.table.rows) c.in-Ok-graph_of.graph
    = subst (λ (z : List (List ℕ)). IsBuilt c.args.found.anys.items z (length z) c.in-Ok-graph_of.graph) (c.as_slice-2.ensures.value ∙ c.in-Ok.ensures) b1 in
    removal_cost c.args.sub.now c.args.above.now c.args.bound c.args.found.table.spots c.args.found.table.rows c.args.found.anys.items c.in-Ok-graph_of.graph c.in-Ok-remove.left.current.items
    c.in-Ok-remove.left.order.items
    c.args.steps.now c.remove.new.steps c.requires.found.discovery b2 c.in-Ok-remove.ensures.removal c.in-Ok-remove.ensures.steps

pub returns-clause-survivors : goal.returns-clause-survivors
returns-clause-survivors g c =
    let b1 : IsBuilt c.args.found.anys.items c.as_slice-2.result.now (length c.as_slice-2.result.now) c.in-Ok-graph_of.graph
    = subst (λ (z : List Bool). IsBuilt z c.as_slice-2.result.now (length c.as_slice-2.result.now) c.in-Ok-graph_of.graph) c.as_slice.ensures.value c.in-Ok-graph_of.ensures in
    let b2 : IsBuilt c.args.found.anys.items c.args.found.table.rows (length c.args.found.table.rows) c.in-Ok-graph_of.graph
    = subst (λ (z : List (List ℕ)). IsBuilt c.args.found.anys.items z (length z) c.in-Ok-graph_of.graph) (c.as_slice-2.ensures.value ∙ c.in-Ok.ensures) b1 in
    let f = at_short c.args.found.table.spots 0 (start_spot c.args.sub.now c.args.above.now) c.requires.found.discovery.first in
    let r = c.in-Ok-remove.ensures.removal in
    let some : 0 < length c.in-Ok-remove.left.current.items = (let a = r.size in let b = b2.size in let d = c.requires.found.discovery.all in omega arith) in
    let first = index_at c.in-Ok-remove.left.current.items 0 c.index.result.now some c.index.ensures in
    let low = r.within 0 in
    let moves = c.moves.ensures in
    let other = c.if-index-moves.false in
    record { found = c.requires.found; bounded = c.requires.bounded; built = b2; left = r; start = grind arith }
