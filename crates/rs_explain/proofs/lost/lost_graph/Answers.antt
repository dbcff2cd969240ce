use Rattle.std.proofs.Common.{◌∙◌}
use Rattle.rs_search.specs.Candidates.{start_spot}
use Rattle.rs_search.specs.Turns.{nexts_within}
use Rattle.rs_search.proofs.Verdicts.{rows_within}
use Rattle.rs_explain.proofs.Flags.{in_order, lost_is}
use Rattle.rs_explain.proofs.lost.lost_graph.Goals as goal

pub graph_of-requires-clause-within : goal.graph_of-requires-clause-within
graph_of-requires-clause-within c =
    rw (c.as_slice-2.ensures.value ∙ c.in_ok-rows.ensures)
    (rows_within (nexts_within c.args.sub.now c.args.above.now c.args.bound) (start_spot c.args.sub.now c.args.above.now) c.args.found.now.table.spots c.args.found.now.table.rows c.requires.found.discovery)

pub returns-clause-lost : goal.returns-clause-lost
returns-clause-lost c =
    lost_is c.args.sub.now c.args.above.now c.args.bound c.args.found.now c.as_slice.result.now c.as_slice-2.result.now c.in_ok-graph.graph c.as_slice-3.result.now c.in_ok-left.left.current.items
    c.in_ok-left.left.order.items c.in_ok-gone.gone.items c.requires.found c.as_slice.ensures.value (c.as_slice-2.ensures.value ∙ c.in_ok-rows.ensures) c.as_slice-3.ensures.value c.in_ok-graph.ensures
    c.in_ok-left.ensures c.in_ok-gone.ensures

pub returns-clause-order : goal.returns-clause-order
returns-clause-order c =
    in_order c.args.sub.now c.args.above.now c.args.bound c.args.found.now c.as_slice.result.now c.as_slice-2.result.now c.in_ok-graph.graph c.in_ok-left.left.current.items
    c.in_ok-left.left.order.items c.requires.found c.as_slice.ensures.value (c.as_slice-2.ensures.value ∙ c.in_ok-rows.ensures) c.in_ok-graph.ensures c.in_ok-left.ensures
