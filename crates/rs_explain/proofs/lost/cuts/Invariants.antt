use Rattle.rs_explain.proofs.Flags.{AreCuts}
use Rattle.rs_explain.proofs.lost.cuts.Given as goal

abbrev pub invariant-loop-number : goal.invariant-loop-number
invariant-loop-number l = AreCuts l.sub l.above l.lost.graph.outs l.found.table.spots l.number l.cuts.items
