use Rattle.std.proofs.Common.{◌∙◌}
use Rattle.rs_search.specs.Candidates.{start_spot}
use Rattle.rs_search.specs.Turns.{nexts_within}
use Rattle.rs_search.proofs.Verdicts.{rows_within}
use Rattle.rs_explain.proofs.Keeping.{keeps_short, kept_are, nexts_short, places_short, start_left, started}
use Rattle.rs_explain.proofs.kept.kept_nodes_by.Goals as goal

pub graph_of-requires-clause-within : goal.graph_of-requires-clause-within
graph_of-requires-clause-within g c =
    rw (c.as_slice-2.ensures.value ∙ c.in_ok-rows.ensures)
    (rows_within (nexts_within c.args.sub.now c.args.above.now c.args.bound) (start_spot c.args.sub.now c.args.above.now) c.args.found.now.table.spots c.args.found.now.table.rows c.requires.found.discovery)

pub number_all-requires-clause-left : goal.number_all-requires-clause-left
number_all-requires-clause-left g c =
    let s = started c.args.sub.now c.args.above.now c.args.bound c.args.found.now c.as_slice.result.now c.as_slice-2.result.now c.in_ok-graph.graph c.as_slice-current.result.now c.in_ok-left.left.current.items
    c.in_ok-left.left.order.items c.requires.found c.as_slice.ensures.value (c.as_slice-2.ensures.value ∙ c.in_ok-rows.ensures) c.as_slice-current.ensures.value c.in_ok-graph.ensures c.in_ok-left.ensures in
    start_left c.args.sub.now c.args.above.now c.args.bound c.args.found.now c.in_ok-graph.graph c.as_slice-current.result.now c.in_ok-left.left.order.items s c.requires.start

pub number_all-requires-clause-short : goal.number_all-requires-clause-short
number_all-requires-clause-short g c =
    let s = started c.args.sub.now c.args.above.now c.args.bound c.args.found.now c.as_slice.result.now c.as_slice-2.result.now c.in_ok-graph.graph c.as_slice-current.result.now c.in_ok-left.left.current.items
    c.in_ok-left.left.order.items c.requires.found c.as_slice.ensures.value (c.as_slice-2.ensures.value ∙ c.in_ok-rows.ensures) c.as_slice-current.ensures.value c.in_ok-graph.ensures c.in_ok-left.ensures in
    nexts_short c.args.sub.now c.args.above.now c.args.bound c.args.found.now c.in_ok-graph.graph c.as_slice-current.result.now c.in_ok-left.left.order.items s

pub places_of-requires : goal.places_of-requires
places_of-requires g c =
    let s = started c.args.sub.now c.args.above.now c.args.bound c.args.found.now c.as_slice.result.now c.as_slice-2.result.now c.in_ok-graph.graph c.as_slice-current.result.now c.in_ok-left.left.current.items
    c.in_ok-left.left.order.items c.requires.found c.as_slice.ensures.value (c.as_slice-2.ensures.value ∙ c.in_ok-rows.ensures) c.as_slice-current.ensures.value c.in_ok-graph.ensures c.in_ok-left.ensures in
    record { within = places_short c.args.sub.now c.args.above.now c.args.bound c.args.found.now c.in_ok-graph.graph c.as_slice-current.result.now c.in_ok-left.left.order.items c.in_ok-numbers.numbers.items.items c.as_slice-items.result.now s c.in_ok-numbers.ensures.stay c.as_slice-items.ensures.value }

pub kept_rows-requires-clause-within : goal.kept_rows-requires-clause-within
kept_rows-requires-clause-within g c =
    let s = started c.args.sub.now c.args.above.now c.args.bound c.args.found.now c.as_slice.result.now c.as_slice-2.result.now c.in_ok-graph.graph c.as_slice-current.result.now c.in_ok-left.left.current.items
    c.in_ok-left.left.order.items c.requires.found c.as_slice.ensures.value (c.as_slice-2.ensures.value ∙ c.in_ok-rows.ensures) c.as_slice-current.ensures.value c.in_ok-graph.ensures c.in_ok-left.ensures in
    keeps_short c.args.sub.now c.args.above.now c.args.bound c.args.found.now c.as_slice-3.result.now c.in_ok-graph.graph c.as_slice-current.result.now c.in_ok-left.left.order.items c.in_ok-numbers.numbers.items.items c.as_slice-items.result.now s c.in_ok-numbers.ensures.stay c.as_slice-items.ensures.value c.as_slice-3.ensures.value

pub returns : goal.returns
returns g c =
    let s = started c.args.sub.now c.args.above.now c.args.bound c.args.found.now c.as_slice.result.now c.as_slice-2.result.now c.in_ok-graph.graph c.as_slice-current.result.now c.in_ok-left.left.current.items
    c.in_ok-left.left.order.items c.requires.found c.as_slice.ensures.value (c.as_slice-2.ensures.value ∙ c.in_ok-rows.ensures) c.as_slice-current.ensures.value c.in_ok-graph.ensures c.in_ok-left.ensures in
    kept_are c.args.sub.now c.args.above.now c.args.bound c.args.found.now c.as_slice-3.result.now c.in_ok-graph.graph c.as_slice-current.result.now c.in_ok-left.left.order.items c.in_ok-numbers.numbers.items.items c.as_slice-items.result.now c.in_ok-places.places.items c.in_ok-numbers.numbers.nexts.items c.as_slice-4.result.now
    c.in_ok-kept.kept.items s c.requires.theirs c.requires.bounded c.in_ok-numbers.ensures.found c.in_ok-numbers.ensures.bounded c.in_ok-numbers.ensures.stay c.as_slice-items.ensures.value
    c.as_slice-4.ensures.value c.as_slice-3.ensures.value c.in_ok-places.ensures c.in_ok-kept.ensures
