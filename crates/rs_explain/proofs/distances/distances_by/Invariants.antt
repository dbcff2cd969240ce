use Rattle.std.proofs.Common.{◌≤◌, ◌-◌, length}
use Rattle.rs_explain.specs.Distances.{AreSpread}
use Rattle.rs_explain.proofs.distances.distances_by.Given as goal

abbrev pub invariant-loop-told : goal.invariant-loop-told
invariant-loop-told g l = AreSpread l.graph.outs l.inside l.ends l.far.items l.queue.items l.told × (length l.queue.items ≤ length l.graph.outs)

abbrev pub decreases-loop-told : goal.decreases-loop-told
decreases-loop-told g l = length l.graph.outs - l.told
