use Rattle.std.proofs.Common.{arith, ◌≡◌, ◌∙◌, ◌==◌, ◌&&◌, ap, length, subst, ℕ}
use Rattle.rs_derive.specs.Derivations.{spot_of}
use Rattle.rs_explain.proofs.Flags.{AreCuts, cut_flagged, cuts_none, cuts_on, number_within}
use Rattle.rs_explain.specs.OnWay.{has_cut_at}
use Rattle.rs_explain.proofs.lost.cuts.Goals as goal

pub loop-number-init : goal.loop-number-init
loop-number-init c = cuts_none c.args.sub.now c.args.above.now c.args.lost.now.graph.outs c.args.found.now.table.spots c.new-cuts.result.items c.new-cuts.ensures.items

pub meets_a_cut-requires-clause-state : goal.meets_a_cut-requires-clause-state
meets_a_cut-requires-clause-state c =
    (number_within c.args.sub.now c.args.above.now c.args.bound c.args.found.now.table.spots c.args.found.now.table.rows c.requires.ours c.requires.theirs c.requires.found.discovery c.loop-number.number
    (spot_of c.node.result.now) c.node.ensures).state

pub meets_a_cut-requires-clause-present : goal.meets_a_cut-requires-clause-present
meets_a_cut-requires-clause-present c =
    (number_within c.args.sub.now c.args.above.now c.args.bound c.args.found.now.table.spots c.args.found.now.table.rows c.requires.ours c.requires.theirs c.requires.found.discovery c.loop-number.number
    (spot_of c.node.result.now) c.node.ensures).present

pub loop-number-preserved : goal.loop-number-preserved
loop-number-preserved c =
    cuts_on c.args.sub.now c.args.above.now c.args.lost.now.graph.outs c.args.found.now.table.spots c.loop-number.number c.loop-number.cuts.items c.push.new.self.items (spot_of c.node.result.now)
    c.meets_a_cut.result c.loop-number.invariant c.node.ensures
    (c.meets_a_cut.ensures ∙ ap (λ (z : ℕ). z == 0 && has_cut_at c.args.sub.now c.args.above.now (spot_of c.node.result.now)) c.moves-moves.ensures) c.in_ok-push.ensures.items

pub returns : goal.returns
returns c =
    let e : c.loop-number.number ≡ length c.args.found.now.table.spots = (let a = c.loop-number-test.false in let b = c.loop-number.auto.number-end in let n = c.nodes-number-end.ensures.nodes in
    let s = c.requires.lost.built.size in let d = c.requires.found.discovery.all in omega arith) in
    cut_flagged c.args.sub.now c.args.above.now c.args.bound c.args.found.now.table.spots c.args.found.now.table.rows c.args.found.now.anys.items c.args.lost.now.graph c.loop-number.cuts.items
    c.requires.ours c.requires.theirs c.requires.found.discovery c.requires.found.noted.anys c.requires.lost.built
    (subst (λ (z : ℕ). AreCuts c.args.sub.now c.args.above.now c.args.lost.now.graph.outs c.args.found.now.table.spots z c.loop-number.cuts.items) e c.loop-number.invariant)
