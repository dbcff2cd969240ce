use Rattle.std.proofs.Common.{◌≡◌, map}
use Rattle.rs_global.specs.Parts.{node_of_point}
use Rattle.rs_global.proofs.protocols.talks.Given as goal

abbrev pub invariant-loop-point : goal.invariant-loop-point
invariant-loop-point l = l.nodes.items ≡ map node_of_point l.yielded
