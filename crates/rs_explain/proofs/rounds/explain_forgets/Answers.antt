use Rattle.std.proofs.Common.{arith, ◌≡◌, ℕ, List, Option, subst, sym}
use Rattle.rs_derive.specs.Derivations.{spot_of}
use Rattle.rs_graph.specs.Removal.{at}
use Rattle.rs_search.proofs.Determined.{starts_survive}
use Rattle.rs_explain.proofs.Circling.{forgets_at, forgetting_is, item_in, item_of, number_read, spot_read}
use Rattle.rs_explain.specs.Forgetting.{IsKeepingStep}
use Rattle.rs_explain.specs.KeptNodes.{spots_at}
use Rattle.rs_explain.specs.OnWay.{AreCharted}
use Rattle.rs_explain.proofs.rounds.explain_forgets.Goals as goal

pub kept_nodes-requires-clause-start : goal.kept_nodes-requires-clause-start
kept_nodes-requires-clause-start c = starts_survive c.args.sub.now c.args.above.now c.args.bound c.requires.forgets.derivation c.requires.forgets.canonical

pub far_round-requires-clause-present : goal.far_round-requires-clause-present
far_round-requires-clause-present c =
    let f = forgets_at c.args.sub.now c.args.above.now c.args.bound c.in-Ok.found.table.spots c.in_ok-nodes.nodes.items.items c.in_ok-nodes.nodes.places.items c.in_ok-nodes.nodes.rows.items c.args.node c.in_ok-nodes.ensures c.requires.forgets in
    item_of c.in-Ok.found.table.spots c.in_ok-nodes.nodes.items.items c.args.node f.spot f.stands

pub round-requires-clause-charted : goal.round-requires-clause-charted
round-requires-clause-charted c = λ x e.
    subst (λ (z : List (Option ℕ)). AreCharted (IsKeepingStep c.args.sub.now c.args.above.now c.args.bound) (λ q. q ≡ x) (spots_at c.in-Ok.found.table.spots c.in_ok-nodes.nodes.items.items)
    (λ n. at c.in_ok-nodes.nodes.places.items n) c.in_ok-nodes.nodes.rows.items z) (sym c.as_slice.ensures.value) (c.in_ok-far.ensures x e)

pub round-requires-clause-some : goal.round-requires-clause-some
round-requires-clause-some c =
    let f = forgets_at c.args.sub.now c.args.above.now c.args.bound c.in-Ok.found.table.spots c.in_ok-nodes.nodes.items.items c.in_ok-nodes.nodes.places.items c.in_ok-nodes.nodes.rows.items c.args.node c.in_ok-nodes.ensures c.requires.forgets in
    (f.spot, f.steps, f.stands, f.round)

pub index-requires : goal.index-requires
index-requires c =
    let f = forgets_at c.args.sub.now c.args.above.now c.args.bound c.in-Ok.found.table.spots c.in_ok-nodes.nodes.items.items c.in_ok-nodes.nodes.places.items c.in_ok-nodes.nodes.rows.items c.args.node c.in_ok-nodes.ensures c.requires.forgets in
    let lt = item_of c.in-Ok.found.table.spots c.in_ok-nodes.nodes.items.items c.args.node f.spot f.stands in
    omega (arith, lt, c.in_ok-nodes.nodes.items.ok)

pub node-spot-requires : goal.node-spot-requires
node-spot-requires c =
    let f = forgets_at c.args.sub.now c.args.above.now c.args.bound c.in-Ok.found.table.spots c.in_ok-nodes.nodes.items.items c.in_ok-nodes.nodes.places.items c.in_ok-nodes.nodes.rows.items c.args.node c.in_ok-nodes.ensures c.requires.forgets in
    let lt = item_of c.in-Ok.found.table.spots c.in_ok-nodes.nodes.items.items c.args.node f.spot f.stands in
    let n = number_read c.in_ok-nodes.nodes.items.items c.args.node c.index.result.now lt c.index.ensures in
    item_in c.in-Ok.found.table.spots c.in_ok-nodes.nodes.items.items c.in_ok-nodes.nodes.places.items c.in_ok-nodes.nodes.rows.items c.in_ok-nodes.ensures.numbers c.args.node c.index.result.now f.spot f.stands n

pub returns : goal.returns
returns c =
    let f = forgets_at c.args.sub.now c.args.above.now c.args.bound c.in-Ok.found.table.spots c.in_ok-nodes.nodes.items.items c.in_ok-nodes.nodes.places.items c.in_ok-nodes.nodes.rows.items c.args.node c.in_ok-nodes.ensures c.requires.forgets in
    let lt = item_of c.in-Ok.found.table.spots c.in_ok-nodes.nodes.items.items c.args.node f.spot f.stands in
    let n = number_read c.in_ok-nodes.nodes.items.items c.args.node c.index.result.now lt c.index.ensures in
    let e = spot_read c.in-Ok.found.table.spots c.in_ok-nodes.nodes.items.items c.args.node c.index.result.now f.spot (spot_of c.node-spot.result.now) f.stands n c.node-spot.ensures in
    forgetting_is c.args.sub.now c.args.above.now c.args.bound c.in-Ok.found.table.spots c.in_ok-nodes.nodes.items.items c.in_ok-nodes.nodes.places.items c.in_ok-nodes.nodes.rows.items c.args.node c.in_ok-forgetting.forgetting (spot_of c.node-spot.result.now) c.in_ok-steps.steps.items c.in_ok-nodes.ensures c.in_ok-forgetting.ensures e
    (c.in_ok-steps.ensures (spot_of c.node-spot.result.now) e)
