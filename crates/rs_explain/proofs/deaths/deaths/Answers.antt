use Rattle.rs_explain.proofs.Lowering.{deaths_are}
use Rattle.rs_explain.proofs.deaths.deaths.Goals as goal

pub returns : goal.returns
returns c =
    deaths_are c.args.sub.now c.args.above.now c.args.bound c.args.found.now c.args.order.now c.loop-lowered.far.items c.requires.found c.requires.order c.loop-lowered.invariant.0
    (c.loop-lowered.invariant.1 c.loop-lowered-test.false)
