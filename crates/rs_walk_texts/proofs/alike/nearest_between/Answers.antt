use Rattle.std.proofs.Common.{◌∙◌, sym, refl, length}
use Rattle.std.proofs.lemmas.Option.{slice_get_read}
use Rattle.rs_walk_texts.proofs.Finding.{found_here, found_later}
use Rattle.rs_walk_texts.specs.Alike.{is_slip, pairs_with}
use Rattle.rs_walk_texts.proofs.alike.nearest_between.Goals as goal

pub returns-then-is_some : goal.returns-then-is_some
returns-then-is_some c =
    let at = slice_get_read c.args.nodes.now (length c.args.nodes.now) c.loop-node.node-index c.node-item.result refl c.loop-node-test.true c.node-item.is in
    found_here (is_slip c.args.source.now c.args.spot.now c.args.far) (pairs_with c.args.sender c.args.receiver c.args.own) c.args.nodes.now c.loop-node.node-index c.node-item.result
    c.nearest_at-found.result at c.nearest_at-found.ensures (sym c.is_some.ensures ∙ c.if-is_some.true)
    ∙ c.loop-node.invariant

pub loop-node-preserved : goal.loop-node-preserved
loop-node-preserved c =
    let at = slice_get_read c.args.nodes.now (length c.args.nodes.now) c.loop-node.node-index c.node-item.result refl c.loop-node-test.true c.node-item.is in
    found_later (is_slip c.args.source.now c.args.spot.now c.args.far) (pairs_with c.args.sender c.args.receiver c.args.own) c.args.nodes.now c.loop-node.node-index c.node-item.result
    c.nearest_at-found.result at c.nearest_at-found.ensures (sym c.is_some.ensures ∙ c.if-is_some.false)
    ∙ c.loop-node.invariant
