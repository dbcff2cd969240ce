use Rattle.std.proofs.Common.{◌≡◌, ◌≤◌, ◌+◌, ◌-◌, [], length, slice_index_or, take}
use Rattle.rs_graph.proofs.number.read_move.Given as goal

abbrev pub invariant-loop-r : goal.invariant-loop-r
invariant-loop-r g l =
    (l.nth ≤ length (slice_index_or (slice_index_or l.graph.outs l.node []) l.place [])) × (l.steps ≡ l.fn.steps + l.nth)
    × (l.row ≡ take l.nth (slice_index_or (slice_index_or l.graph.outs l.node []) l.place []))

abbrev pub decreases-loop-r : goal.decreases-loop-r
decreases-loop-r g l = length (slice_index_or (slice_index_or l.graph.outs l.node []) l.place []) - l.nth
