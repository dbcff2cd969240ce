use Rattle.std.proofs.Common.{◌≡◌, drop}
use Rattle.rs_partings.specs.Searching.{parting_of_nodes}
use Rattle.rs_partings.proofs.searching.first_parting.Given as goal

abbrev pub invariant-loop-number : goal.invariant-loop-number
invariant-loop-number l = parting_of_nodes l.here l.ones l.others l.number (drop l.number l.protocol.nodes) ≡ parting_of_nodes l.here l.ones l.others 0 l.protocol.nodes
