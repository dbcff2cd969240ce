use Rattle.std.proofs.Common.{◌∙◌, sym}
use Rattle.rs_core.proofs.Drawing.{after_on}
use Rattle.benches.proofs.worker_actors.rounds_behind_act.Goals as goal

pub loop-preserved : goal.loop-preserved
loop-preserved c = rw c.after-reached.ensures (sym (after_on c.args.rounds c.loop.counter c.loop.reached c.loop-test.true) ∙ c.loop.invariant)
