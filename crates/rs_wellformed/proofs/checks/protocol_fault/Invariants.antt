use Rattle.std.proofs.Common.{◌≡◌, drop}
use Rattle.rs_wellformed.specs.Checks.{nodes_fault}
use Rattle.rs_wellformed.proofs.checks.protocol_fault.Given as goal

abbrev pub invariant-loop-number : goal.invariant-loop-number
invariant-loop-number l =
    nodes_fault l.protocol (drop l.number l.protocol.nodes) l.number ≡ nodes_fault l.protocol l.protocol.nodes 0
