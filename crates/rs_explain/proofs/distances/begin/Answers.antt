use Rattle.rs_explain.proofs.Spreading.{ends_begin, ends_step}
use Rattle.rs_explain.proofs.distances.begin.Goals as goal

pub loop-node-init : goal.loop-node-init
loop-node-init c = ends_begin c.args.ends.now c.args.far.now.items c.args.queue.now.items c.requires.size c.requires.none c.requires.empty

pub loop-node-preserved : goal.loop-node-preserved
loop-node-preserved c =
    ends_step c.args.ends.now c.loop-node.far.items c.loop-node.queue.items c.begin_at.new.far.items c.begin_at.new.queue.items c.loop-node.node c.loop-node.invariant c.in_ok-begin_at.ensures
