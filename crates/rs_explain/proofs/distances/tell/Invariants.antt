use Rattle.std.proofs.Common.{◌≤◌, ◌-◌, [], length, slice_index_or}
use Rattle.rs_explain.proofs.Spreading.{AreSpreading}
use Rattle.rs_explain.proofs.distances.tell.Given as goal

abbrev pub invariant-loop-source : goal.invariant-loop-source
invariant-loop-source g l =
    AreSpreading l.graph.outs l.inside l.ends l.far.items l.queue.items l.told l.node l.distance (slice_index_or l.graph.intos l.node []) l.nth
    × (l.nth ≤ length (slice_index_or l.graph.intos l.node []))

abbrev pub decreases-loop-source : goal.decreases-loop-source
decreases-loop-source g l = length (slice_index_or l.graph.intos l.node []) - l.nth
