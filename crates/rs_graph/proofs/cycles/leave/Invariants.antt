use Rattle.std.proofs.Common.{◌≡◌, ◌≤◌, length}
use Rattle.rs_graph.specs.Paths.{Leaving, ahead}
use Rattle.rs_graph.proofs.cycles.leave.Given as goal

abbrev pub invariant-loop-path : goal.invariant-loop-path
invariant-loop-path l = Leaving l.fn.marks.items l.fn.path.items l.marks.items l.path.items l.round × (l.start ≤ length l.path.items) × (ahead l.marks.items ≡ ahead l.fn.marks.items)

abbrev pub decreases-loop-path : goal.decreases-loop-path
decreases-loop-path l = length l.path.items
