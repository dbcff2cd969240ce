use Rattle.std.proofs.Common.{◌≡◌, [], replicate}
use Rattle.rs_graph.proofs.build.bare.Given as goal

abbrev pub invariant-loop-i : goal.invariant-loop-i
invariant-loop-i l = (l.graph.outs ≡ replicate l.i []) × (l.graph.intos ≡ replicate l.i [])
