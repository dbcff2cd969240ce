use Rattle.rs_derive.specs.Derivations.{spot_of}
use Rattle.rs_graph.proofs.Growth.{at_short}
use Rattle.rs_search.proofs.Staying.{stays_within}
use Rattle.rs_search.specs.Candidates.{start_spot}
use Rattle.rs_explain.specs.Walks.{end_of}
use Rattle.rs_explain.proofs.Nearest.{end_spot, whole_explains}
use Rattle.rs_explain.proofs.explaining.explain.Goals as goal

pub node-requires : goal.node-requires
node-requires c = at_short c.in-Ok.found.table.spots c.in_ok-way.way.node (end_of (start_spot c.args.sub.now c.args.above.now) c.in_ok-way.way.steps.items) c.in_ok-way.ensures.stands

pub ending_of-ending-requires-clause-state : goal.ending_of-ending-requires-clause-state
ending_of-ending-requires-clause-state c =
    let k = end_spot c.args.sub.now c.args.above.now c.args.bound c.in-Ok.found.table.spots c.in_ok-way.way.steps.items c.in_ok-way.way.node (spot_of c.node.result.now) c.in_ok-way.ensures c.node.ensures in
    (stays_within c.args.sub.now c.args.above.now c.args.bound c.requires.ours c.requires.theirs (spot_of c.node.result.now) k.candidate).state

pub ending_of-ending-requires-clause-present : goal.ending_of-ending-requires-clause-present
ending_of-ending-requires-clause-present c =
    let k = end_spot c.args.sub.now c.args.above.now c.args.bound c.in-Ok.found.table.spots c.in_ok-way.way.steps.items c.in_ok-way.way.node (spot_of c.node.result.now) c.in_ok-way.ensures c.node.ensures in
    (stays_within c.args.sub.now c.args.above.now c.args.bound c.requires.ours c.requires.theirs (spot_of c.node.result.now) k.candidate).present

pub returns : goal.returns
returns c =
    whole_explains c.args.sub.now c.args.above.now c.args.bound c.in-Ok.found.table.spots c.in_ok-way.way.steps.items c.in_ok-way.way.node (spot_of c.node.result.now) c.ending_of-ending.result
    c.requires.ours c.requires.theirs c.in_ok-way.ensures c.node.ensures c.ending_of-ending.ensures
