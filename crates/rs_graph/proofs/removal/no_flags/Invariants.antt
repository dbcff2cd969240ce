use Rattle.std.proofs.Common.{◌≡◌, take}
use Rattle.rs_graph.specs.Removing.{lowered_flags}
use Rattle.rs_graph.proofs.removal.no_flags.Given as goal

abbrev pub invariant-loop-node : goal.invariant-loop-node
invariant-loop-node l = l.lost.items ≡ lowered_flags (take l.node l.graph.outs)
