use Rattle.std.proofs.Common.{rules, arith, ◌+◌, ◌≡◌, replicate, None}
use Rattle.rs_explain.proofs.Spreading.{none_all, queue_few, spread_begins, spread_ends}
use Rattle.rs_explain.proofs.distances.distances_by.Goals as goal

pub begin-requires-clause-none : goal.begin-requires-clause-none
begin-requires-clause-none g c = λ n.
    let e : c.in_ok-far.far.items ≡ replicate c.nodes.result None = search rules in
    none_all c.in_ok-far.far.items c.nodes.result n e

pub loop-told-init : goal.loop-told-init
loop-told-init g c =
    let s = spread_begins c.args.graph.now.outs c.args.inside.now c.args.ends.now c.begin.new.far.items c.begin.new.queue.items c.requires.ends c.requires.within c.in_ok-begin.ensures in
    (s, queue_few c.args.graph.now.outs c.args.inside.now c.args.ends.now c.begin.new.far.items c.begin.new.queue.items 0 s)

pub loop-told-preserved : goal.loop-told-preserved
loop-told-preserved g c =
    let s = c.in_ok-tell.ensures in
    (s, queue_few c.args.graph.now.outs c.args.inside.now c.args.ends.now c.tell.new.far.items c.tell.new.queue.items (c.loop-told.told + 1) s)

pub returns : goal.returns
returns g c =
    spread_ends c.args.graph.now.outs c.args.inside.now c.args.ends.now c.loop-told.far.items c.loop-told.queue.items c.loop-told.told c.loop-told.invariant.0 (grind arith)
