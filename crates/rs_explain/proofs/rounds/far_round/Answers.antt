use Rattle.std.proofs.Common.{rules, ◌≡◌, length, replicate, set, true, false, refl}
use Rattle.rs_explain.proofs.Circling.{round_chart, round_edges}
use Rattle.rs_explain.proofs.rounds.far_round.Goals as goal

pub distances-requires-clause-edges : goal.distances-requires-clause-edges
distances-requires-clause-edges c =
    round_edges c.args.sub.now c.args.above.now c.args.bound c.args.table.now.spots c.args.nodes.now.items.items c.args.nodes.now.places.items c.args.nodes.now.rows.items c.as_slice-2.result.now
    c.as_slice.result.now c.in_ok-graph.graph c.requires.nodes c.in_ok-graph.ensures c.as_slice-2.ensures.value

pub returns : goal.returns
returns c =
    let inside : c.as_slice-3.result.now ≡ replicate (length c.args.nodes.now.rows.items) true = search rules in
    let ends : c.as_slice-4.result.now ≡ set (replicate (length c.args.nodes.now.rows.items) false) c.args.node true = search rules in
    round_chart c.args.sub.now c.args.above.now c.args.bound c.args.table.now.spots c.args.nodes.now.items.items c.args.nodes.now.places.items c.args.nodes.now.rows.items c.as_slice.result.now
    (replicate (length c.args.nodes.now.rows.items) true) c.as_slice-3.result.now (set (replicate (length c.args.nodes.now.rows.items) false) c.args.node true) c.as_slice-4.result.now
    c.as_slice-2.result.now c.in_ok-graph.graph c.in_ok-far.far.items c.args.node c.requires.nodes c.in_ok-graph.ensures c.as_slice-2.ensures.value c.in_ok-far.ensures inside ends refl refl
    c.requires.present
