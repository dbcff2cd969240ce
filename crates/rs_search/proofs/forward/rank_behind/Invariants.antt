use Rattle.std.proofs.Common.{◌≤◌, ◌<◌, ◌+◌, ℕ, length, slice_index_or}
use Rattle.rs_graph.proofs.Ranking.{Topped}
use Rattle.rs_search.proofs.forward.rank_behind.Given as goal

abbrev pub invariant-loop-i : goal.invariant-loop-i
invariant-loop-i l = Topped l.row l.table.ranks l.rank l.i × (l.rank + l.number < length l.table.ranks) × (l.i ≤ length l.row) × ((k : ℕ) → k < l.i → l.number < slice_index_or l.row k 0)
