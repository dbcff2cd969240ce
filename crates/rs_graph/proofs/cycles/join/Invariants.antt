use Rattle.std.proofs.Common.{◌≡◌, ◌≤◌, ℕ, List, Some, length, slice_get}
use Rattle.rs_graph.specs.Paths.{AreRight, Joining}
use Rattle.rs_graph.specs.declared.cycles.NodeMark.{NodeMark}
use Rattle.rs_graph.specs.declared.cycles.NodeMark.TheVariants.{On}
use Rattle.rs_graph.proofs.cycles.join.Given as goal

abbrev pub invariant-loop-joined : goal.invariant-loop-joined
invariant-loop-joined l = ((rows : List (List ℕ)) (marks : List NodeMark) (path edges : List ℕ) (y : ℕ) → AreRight rows marks path → slice_get marks y ≡ Some (On l.place)
    → Joining rows marks path edges l.fn.parts.items l.fn.last.start l.fn.last.edges y
    → Joining rows marks path edges l.parts.items l.joined.start l.joined.edges y) × (length l.parts.items ≤ length l.fn.parts.items)

abbrev pub decreases-loop-joined : goal.decreases-loop-joined
decreases-loop-joined l = length l.parts.items
