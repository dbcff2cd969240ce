use Rattle.std.proofs.Common.{arith, ◌<◌, length}
use Rattle.rs_graph.proofs.Growth.{in_at}
use Rattle.rs_search.specs.Spots.{spots_of}
use Rattle.rs_search.proofs.Lengthening.{begun, ended, fresh_at, made_next}
use Rattle.rs_search.proofs.itself.nodes_itself.Goals as goal

pub loop-known-init : goal.loop-known-init
loop-known-init c = let e = c.in_ok-nodes.ensures in (begun c.args.machine.now c.requires.proper c.in_ok-nodes.field-0.nodes.items e.found e.unranked, e.positions)

pub lead_on-requires-clause-kind : goal.lead_on-requires-clause-kind
lead_on-requires-clause-kind c = λ p h. c.loop-known.invariant.0.made.kinds p (in_at (spots_of c.loop-known.nodes.items) c.loop-known.known p h)

pub lead_on-requires-clause-fresh : goal.lead_on-requires-clause-fresh
lead_on-requires-clause-fresh c = λ p q h none. fresh_at c.args.machine.now c.loop-known.nodes.items c.loop-known.known p q c.loop-known.invariant.0 h none

pub loop-known-preserved : goal.loop-known-preserved
loop-known-preserved c =
    let i = c.loop-known.invariant in
    let e = c.in_ok-lead_on.ensures in
    let lt : c.loop-known.known < length c.loop-known.nodes.items = grind arith in
    (made_next c.args.machine.now c.requires.proper c.loop-known.nodes.items c.lead_on.new.nodes.items c.loop-known.known lt i.0 e.leads, e.positions)

pub returns : goal.returns
returns c =
    ended c.args.machine.now c.requires.proper c.loop-known.nodes.items c.loop-known.known c.loop-known.invariant.0 (grind arith) c.loop-known.invariant.1.bounded
