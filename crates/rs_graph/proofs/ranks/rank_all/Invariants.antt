use Rattle.rs_graph.specs.RanksSoFar.{Ranked}
use Rattle.rs_graph.proofs.ranks.rank_all.Given as goal

abbrev pub invariant-loop-i : goal.invariant-loop-i
invariant-loop-i l = Ranked l.rows l.order l.ranks.items l.i
