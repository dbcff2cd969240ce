use Rattle.std.proofs.Common.{◌≤◌, length}
use Rattle.rs_graph.proofs.Ranking.{Topped}
use Rattle.rs_graph.proofs.ranks.top.Given as goal

abbrev pub invariant-loop-i : goal.invariant-loop-i
invariant-loop-i l = Topped l.row l.ranks l.rank l.i × (l.rank ≤ l.below) × (l.i ≤ length l.row)
